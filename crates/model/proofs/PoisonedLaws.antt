-- A run in which no answer tells of want of memory is that in which each call is done at once, whatever was put off.
use Rattle.std.proofs.Common.{◌≡◌, ◌∙◌, ℕ, ◌+◌, ◌&&◌, ◌≢◌, not, Bool, true, false, is_some, List, [], ◌∷◌, ◌++◌, Option, Some, None, refl, ap, inl, inr}
use Rattle.std.specs.List.{list_all}
use Rattle.std.specs.Option.{option_map_or}
use Rattle.std.specs.Str.{bytes_eq}
use Rattle.std.proofs.lemmas.Bool.{cases_Bool}
use Rattle.std.proofs.lemmas.List.Elements.{All-cons, All-head, All-nil, All-tail}
use Rattle.model.specs.declared.call.Act.{Act}
use Rattle.model.specs.declared.call.Act.TheVariants.{Free, Clear, Resize, Build, Set, Remove, Get, Nvals, Print, Reduce, Wait}
use Rattle.model.specs.declared.call.Call.{Call}
use Rattle.model.specs.declared.call.Call.TheVariants.{Create, Dup, On, Operate}
use Rattle.model.specs.declared.call.Operation.{Operation}
use Rattle.model.specs.declared.call.Operation.TheVariants.{Fill, OfOne, OfTwo}
use Rattle.model.specs.declared.call.Out.{Out}
use Rattle.model.specs.declared.status.Status.{Status}
use Rattle.model.specs.declared.status.Status.TheVariants as status
use Rattle.model.specs.Fault.{fault_by_values}
use Rattle.model.specs.Grammar.{Name, Reading, Silent, Malformed, Called, Loads}
use Rattle.model.specs.Loads.{load_fault}
use Rattle.model.specs.Marks.{Mark, Open, Settles, State, Unmarked, acted, asked_by, first_state, is_told, left_by, looked_at, put_off, reads_told, told, with_mark}
use Rattle.model.specs.MatrixMarket.{File}
use Rattle.model.specs.Poisoned.{IsDone, IsLine, IsPoisonedRun, after_line, fault_before, invalid_object}
use Rattle.model.specs.Renamed.{inputs_of}
use Rattle.model.specs.Run.{Environment, answered, answers_from, data_lines_of, effect, load, loaded, no_objects, on_objects, seen, step, turn}
use Rattle.model.specs.Runs.{HadMemory, out_of_memory}
use Rattle.model.specs.Text.{Answer}
use Rattle.model.specs.WriteBack.{reads_old}

abbrev IsNoWant : Answer → Type 0
IsNoWant a = (a.status ≢ status.OutOfMemory) × (a.status ≢ status.InvalidObject)

-- no object was told
abbrev NoneTold : State Name → Type 0
NoneTold s = (name : Name) → told s name ≡ false

none_marked : (s : State Name) (env : Environment Name) (name : Name) (mark : Mark) → is_told mark ≡ false → NoneTold s
    → NoneTold (with_mark bytes_eq s env name mark)
none_marked s env name mark untold none other = elim (cases_Bool (bytes_eq name other)) [
  | inl same ↦ rw same untold
  | inr apart ↦ rw apart (none other)
]

-- ---- accepted calls

module _ (s : State Name) (none : NoneTold s) where
  old_untold : (reads : Bool) (c : Name) → (reads && told s c) ≡ false
  old_untold true c = none c
  old_untold false c = refl

  mask_untold : (mask : Option Name) → option_map_or (told s) mask false ≡ false
  mask_untold None = refl
  mask_untold (Some mask) = none mask

  inputs_untold : (operation : Operation Name) → not (list_all (λ a. not (told s a)) (inputs_of operation)) ≡ false
  inputs_untold (Fill value region) = refl
  inputs_untold (OfOne computes a) = rw (none a) refl
  inputs_untold (OfTwo computes a b) = rw (none a, none b) refl

  reads_none : (out : Out Name) (operation : Operation Name) → reads_told s out operation ≡ false
  reads_none out operation =
      rw (old_untold (reads_old out operation) out.c, mask_untold out.mask, inputs_untold operation) refl

  off_env : (env : Environment Name) (name : Name) (reads : Bool) → reads ≡ false
      → (put_off bytes_eq s env name reads).environment ≡ env
  off_env env name reads untold = rw untold refl

  off_untold : (env : Environment Name) (name : Name) (reads : Bool) → reads ≡ false
      → NoneTold (put_off bytes_eq s env name reads)
  off_untold env name reads untold = rw untold (none_marked s env name Open refl none)

  acted_env : (env : Environment Name) (object : Name) (act : Act) → (acted bytes_eq s env object act).environment ≡ env
  acted_env env object (Resize shape) = off_env env object (told s object) (none object)
  acted_env env object (Set place value) = off_env env object (told s object) (none object)
  acted_env env object (Remove place) = off_env env object (told s object) (none object)
  acted_env env object Free = refl
  acted_env env object Clear = refl
  acted_env env object (Build dup tuples) = refl
  acted_env env object (Get place) = refl
  acted_env env object Nvals = refl
  acted_env env object (Wait mode) = refl
  acted_env env object Print = refl
  acted_env env object (Reduce monoid) = refl

  acted_untold : (env : Environment Name) (object : Name) (act : Act) → NoneTold (acted bytes_eq s env object act)
  acted_untold env object (Resize shape) = off_untold env object (told s object) (none object)
  acted_untold env object (Set place value) = off_untold env object (told s object) (none object)
  acted_untold env object (Remove place) = off_untold env object (told s object) (none object)
  acted_untold env object Free = none_marked s env object Unmarked refl none
  acted_untold env object Clear = none_marked s env object Unmarked refl none
  acted_untold env object (Build dup tuples) = none_marked s env object Unmarked refl none
  acted_untold env object (Get place) = none_marked s env object Unmarked refl none
  acted_untold env object Nvals = none_marked s env object Unmarked refl none
  acted_untold env object (Wait mode) = none_marked s env object Unmarked refl none
  acted_untold env object Print = none_marked s env object Unmarked refl none
  acted_untold env object (Reduce monoid) = none_marked s env object Unmarked refl none

  left_env : (call : Call Name Name) → (left_by bytes_eq s call).environment ≡ effect bytes_eq s.environment call
  left_env (Create name domain shape) = refl
  left_env (Dup name object) = off_env _ name (told s object) (none object)
  left_env (On object act) = acted_env _ object act
  left_env (Operate out operation) = off_env _ out.c (reads_told s out operation) (reads_none out operation)

  left_untold : (call : Call Name Name) → NoneTold (left_by bytes_eq s call)
  left_untold (Create name domain shape) =
      none_marked s (effect bytes_eq s.environment (Create name domain shape)) name Unmarked refl none
  left_untold (Dup name object) =
      off_untold (effect bytes_eq s.environment (Dup name object)) name (told s object) (none object)
  left_untold (On object act) = acted_untold (effect bytes_eq s.environment (On object act)) object act
  left_untold (Operate out operation) =
      off_untold (effect bytes_eq s.environment (Operate out operation)) out.c (reads_told s out operation) (reads_none out operation)

  -- ---- lines

  looked_env : (object : Option Name)
      → (option_map_or (λ o. with_mark bytes_eq s s.environment o Unmarked) object s).environment ≡ s.environment
  looked_env None = refl
  looked_env (Some object) = refl

  looked_untold : (object : Option Name)
      → NoneTold (option_map_or (λ o. with_mark bytes_eq s s.environment o Unmarked) object s)
  looked_untold None = none
  looked_untold (Some object) = none_marked s s.environment object Unmarked refl none

  call_env : (number : ℕ) (call : Call Name Name) (lines : List (List ℕ)) (early late : Option Status)
      → (option_map_or (λ fault. s) early (option_map_or (λ fault. looked_at bytes_eq s call) late (left_by bytes_eq s call))).environment
      ≡ (answered number s.environment (option_map_or Some early late) lines (effect bytes_eq s.environment call)).1
  call_env number call lines (Some early) late = refl
  call_env number call lines None (Some late) = looked_env (asked_by call)
  call_env number call lines None None = left_env call

  call_untold : (call : Call Name Name) (early late : Option Status)
      → NoneTold (option_map_or (λ fault. s) early (option_map_or (λ fault. looked_at bytes_eq s call) late (left_by bytes_eq s call)))
  call_untold call (Some early) late = none
  call_untold call None (Some late) = looked_untold (asked_by call)
  call_untold call None None = left_untold call

  load_env : (number : ℕ) (name : Name) (env : Environment Name) (fault : Option Status)
      → (option_map_or (λ fault. s) fault (with_mark bytes_eq s env name Unmarked)).environment
      ≡ (answered number s.environment fault [] env).1
  load_env number name env None = refl
  load_env number name env (Some fault) = refl

  load_untold : (name : Name) (env : Environment Name) (fault : Option Status)
      → NoneTold (option_map_or (λ fault. s) fault (with_mark bytes_eq s env name Unmarked))
  load_untold name env None = none_marked s env name Unmarked refl none
  load_untold name env (Some fault) = none

  line_env : (number : ℕ) (reading : Reading File)
      → (after_line s reading).environment ≡ (turn number s.environment reading).1
  unfolding turn step load
  line_env number Silent = refl
  line_env number Malformed = refl
  line_env number (Called call) =
      call_env number call (data_lines_of (on_objects s.environment call)) (fault_before s call) (fault_by_values (seen s.environment call))
  line_env number (Loads name domain file) =
      load_env number name (loaded bytes_eq s.environment name domain file)
      (load_fault s.environment.count (is_some (s.environment.find_object name)) file)

  line_untold : (reading : Reading File) → NoneTold (after_line s reading)
  line_untold Silent = none
  line_untold Malformed = none
  line_untold (Called call) = call_untold call (fault_before s call) (fault_by_values (seen s.environment call))
  line_untold (Loads name domain file) =
      load_untold name (loaded bytes_eq s.environment name domain file)
      (load_fault s.environment.count (is_some (s.environment.find_object name)) file)

  -- a line does what it does at once where its answer tells of no want of memory
  line_done : (number : ℕ) (reading : Reading File) (said : List Answer) (after : State Name)
      → IsLine number s reading said after → HadMemory said → IsDone number s reading said after
  line_done number reading said after (inl done) had = done
  line_done number reading said after (inr (inl told)) had =
      let one : HadMemory (invalid_object number ∷ []) = rw told.0 at had in
      absurd ((All-head IsNoWant (invalid_object number) [] one).1 refl)
  line_done number reading said after (inr (inr refused)) had =
      let one : HadMemory (out_of_memory number ∷ []) = rw refused.1 at had in
      absurd ((All-head IsNoWant (out_of_memory number) [] one).0 refl)

-- ---- runs

settled_untold : (before after : State Name) → Settles before after → NoneTold before → NoneTold after
settled_untold before after settles none name = elim (settles.marks name) [
  | inl same ↦ rw same (none name)
  | inr there ↦ rw there.1 refl
]

had_left : (xs ys : List Answer) → HadMemory (xs ++ ys) → HadMemory xs
had_left [] ys had = All-nil IsNoWant
had_left (x ∷ xs) ys had =
    All-cons IsNoWant x xs (All-head IsNoWant x (xs ++ ys) had) (had_left xs ys (All-tail IsNoWant x (xs ++ ys) had))

had_right : (xs ys : List Answer) → HadMemory (xs ++ ys) → HadMemory ys
had_right [] ys had = had
had_right (x ∷ xs) ys had = had_right xs ys (All-tail IsNoWant x (xs ++ ys) had)

run_plain : (number : ℕ) (before : State Name) (readings : List (Reading File)) (answers : List Answer)
    → IsPoisonedRun number before readings answers → HadMemory answers → NoneTold before
    → answers ≡ answers_from number before.environment readings
unfolding IsPoisonedRun answers_from
run_plain number before [] answers run had none = run
run_plain number before (reading ∷ readings) answers (ready, said, after, later, settles, line, run, split) had none =
    let had_all : HadMemory (said ++ later) = rw split at had in
    let untold = settled_untold before ready settles none in
    let done = line_done ready untold number reading said after line (had_left said later had_all) in
    let still : NoneTold after = rw done.leaves (line_untold ready untold reading) in
    let left : after.environment ≡ (turn number ready.environment reading).1 =
    ap (λ (t : State Name). t.environment) done.leaves ∙ line_env ready untold number reading in
    let rest = run_plain (number + 1) after readings later run (had_right said later had_all) still in
    split ∙ (λ t. done.says t ++ rest t)
    ∙ ap (λ (env : Environment Name). (turn number ready.environment reading).0 ++ answers_from (number + 1) env readings) left
    ∙ ap (λ (env : Environment Name). (turn number env reading).0 ++ answers_from (number + 1) (turn number env reading).1 readings) settles.environment

pub poisoned-at_once : (readings : List (Reading File)) (answers : List Answer)
    → IsPoisonedRun 1 first_state readings answers → HadMemory answers → answers ≡ answers_from 1 no_objects readings
poisoned-at_once readings answers run had = run_plain 1 first_state readings answers run had (λ name. refl)
