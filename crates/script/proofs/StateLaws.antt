-- What calls leave of objects by number, and so of the objects that names stand for.
use Rattle.std.proofs.Common.{◌≡◌, ◌∙◌, ℕ, ◌&&◌, ◌||◌, Bool, true, false, cond, not, Option, Some, None, Result, Ok, Err, refl, sym, subst, ap, inl, inr}
use Rattle.std.specs.List.{list_all}
use Rattle.std.specs.Option.{option_map, option_map_or}
use Rattle.std.specs.Str.{bytes_eq}
use Rattle.std.proofs.lemmas.Bool.{true≢false}
use Rattle.calls.specs.declared.obj.Obj.{Obj}
use Rattle.calls.proofs.RoleLaws.{reads-renamed}
use Rattle.model.specs.declared.call.Act.{Act}
use Rattle.model.specs.declared.call.Act.TheVariants.{Free, Clear, Resize, Build, Set, Remove, Get, Nvals, Print, Reduce, Wait}
use Rattle.model.specs.declared.call.Call.{Call}
use Rattle.model.specs.declared.call.Call.TheVariants.{Create, Dup, On, Operate}
use Rattle.model.specs.declared.call.Operation.{Operation}
use Rattle.model.specs.declared.call.Operation.TheVariants.{Fill, OfOne, OfTwo}
use Rattle.model.specs.declared.call.Out.{Out}
use Rattle.model.specs.declared.status.Status.{Status}
use Rattle.model.specs.Fault.{fault_by_values}
use Rattle.model.specs.Grammar.{Name}
use Rattle.model.specs.Marks.{HasFailed, IsUntold, Mark, MayBecome, Open, Settles, State, Told, Unmarked, asked_by, asks_value, failed, is_told, is_unmarked, left_by, put_off, reads_told, told, with_mark}
use Rattle.model.specs.Object.{Object, no_content}
use Rattle.model.specs.Renamed.{inputs_of, renamed, renamed_operation, renamed_out}
use Rattle.model.specs.Run.{Environment, effect, seen, with_content}
use Rattle.model.specs.WriteBack.{reads_old}
use Rattle.model.proofs.RenamedLaws.{renamed_twice}
use Rattle.session.specs.Performed.{same_object}
use Rattle.script.proofs.NameLaws.{AreDistinct, along, apart-along, content-along, put_renamed, put_to, same-along}
use Rattle.script.specs.Named.{changes_names, state_through, through}
use Rattle.script.specs.Replied.{named_setting}
use Rattle.session.specs.Ends.{Ends, fault_before}

-- ---- values that come to be there

pub settles-along : (number : Name → Option Obj) (before after : State Obj) → Settles before after
    → Settles (state_through number before) (state_through number after)
settles-along number before after settles = record {
  environment = ap (through number) settles.environment;
  marks = λ name. elim (number name) as (λ (found : Option Obj). MayBecome (option_map_or before.marks found Unmarked) (option_map_or after.marks found Unmarked)) [
    | None ↦ inl refl
    | Some o ↦ settles.marks o
  ];
}

-- ---- one name

module _ (number : Name → Option Obj) (distinct : AreDistinct number) (s : State Obj) (name : Name) (o : Obj)
    (is : number name ≡ Some o) where
  pub told-along : told (state_through number s) name ≡ told s o
  told-along = ap (λ (found : Option Obj). is_told (option_map_or s.marks found Unmarked)) is

  pub marked-along : (env : Environment Obj) (mark : Mark)
      → state_through number (with_mark same_object s env o mark) ≡ with_mark bytes_eq (state_through number s) (through number env) name mark
  marked-along env mark = λ t. record { environment = through number env; marks = λ q. point q t }
    where
      point : (q : Name) → option_map_or (λ p. cond (same_object o p) mark (s.marks p)) (number q) Unmarked
          ≡ cond (bytes_eq name q) mark (option_map_or s.marks (number q) Unmarked)
      point q = each (number q) refl
        where
          each : (found : Option Obj) → number q ≡ found
              → option_map_or (λ p. cond (same_object o p) mark (s.marks p)) found Unmarked
              ≡ cond (bytes_eq name q) mark (option_map_or s.marks found Unmarked)
          each None none = rw (apart-along number distinct name o is q none) refl
          each (Some p) some = ap (λ test. cond test mark (s.marks p)) (same-along number distinct name o is q p some)

  pub failed-along : (env : Environment Obj)
      → state_through number (failed same_object s env o) ≡ failed bytes_eq (state_through number s) (through number env) name
  failed-along env =
      marked-along (with_content same_object env o no_content) Told
      ∙ ap (λ (e : Environment Name). with_mark bytes_eq (state_through number s) e name Told) (content-along number distinct name o is env no_content)

  pub off-along : (env : Environment Obj) (reads : Bool)
      → state_through number (put_off same_object s env o reads) ≡ put_off bytes_eq (state_through number s) (through number env) name reads
  off-along env true = failed-along env
  off-along env false = marked-along env Open

-- ---- what a call leaves, by the name that it changes, and whether it is put off

-- whether an operation reads what was told, of what was told
abbrev reads_of : Out Bool → Operation Bool → Bool
reads_of out operation = (reads_old out operation && out.c) || option_map_or (λ t. t) out.mask false
    || not (list_all (λ a. not a) (inputs_of operation))

abbrev acted_of : Bool → Act → Option Bool
acted_of is_told (Resize shape) = Some is_told
acted_of is_told (Set place value) = Some is_told
acted_of is_told (Remove place) = Some is_told
acted_of is_told act = None

abbrev off_by : {N : Type 0} → Call Bool N → Option Bool
off_by (On is_told act) = acted_of is_told act
off_by (Operate out operation) = Some (reads_of out operation)
off_by call = None

abbrev left_of : {K : Type 0} → (K → K → Bool) → State K → Environment K → Option K → Option Bool → State K
left_of same s env None off = s
left_of same s env (Some name) None = with_mark same s env name Unmarked
left_of same s env (Some name) (Some reads) = put_off same s env name reads

mask_of : {K : Type 0} (s : State K) (mask : Option K)
    → option_map_or (told s) mask false ≡ option_map_or (λ t. t) (option_map (told s) mask) false
mask_of s None = refl
mask_of s (Some mask) = refl

reads_of-told : {K : Type 0} (s : State K) (out : Out K) (operation : Operation K)
    → reads_told s out operation ≡ reads_of (renamed_out (told s) out) (renamed_operation (told s) operation)
reads_of-told s out (Fill value region) = λ t.
    (sym (reads-renamed (told s) out (Fill value region)) t && told s out.c) || mask_of s out.mask t || false
reads_of-told s out (OfOne computes a) = λ t.
    (sym (reads-renamed (told s) out (OfOne computes a)) t && told s out.c) || mask_of s out.mask t || not (not (told s a) && true)
reads_of-told s out (OfTwo computes a b) = λ t.
    (sym (reads-renamed (told s) out (OfTwo computes a b)) t && told s out.c) || mask_of s out.mask t || not (not (told s a) && (not (told s b) && true))

left-unmade : {K : Type 0} (same : K → K → Bool) (s : State K) (call : Call K K) → changes_names call ≡ false
    → left_by same s call ≡ left_of same s (effect same s.environment call) (put_to call) (off_by (renamed (told s) (λ n. n) call))
left-unmade same s (Create name domain shape) h = absurd (true≢false h)
left-unmade same s (Dup name o) h = absurd (true≢false h)
left-unmade same s (On o Free) h = absurd (true≢false h)
left-unmade same s (On o Clear) h = refl
left-unmade same s (On o (Resize shape)) h = refl
left-unmade same s (On o (Build dup tuples)) h = refl
left-unmade same s (On o (Set p value)) h = refl
left-unmade same s (On o (Remove p)) h = refl
left-unmade same s (On o (Get p)) h = refl
left-unmade same s (On o Nvals) h = refl
left-unmade same s (On o Print) h = refl
left-unmade same s (On o (Reduce monoid)) h = refl
left-unmade same s (On o (Wait mode)) h = refl
left-unmade same s (Operate out operation) h =
    ap (λ (reads : Bool). put_off same s (effect same s.environment (Operate out operation)) out.c reads) (reads_of-told s out operation)

-- ---- the object for whose value a call asks

asked_renamed : {K L A B : Type 0} (f : K → L) (k : A → B) (call : Call K A)
    → asked_by (renamed f k call) ≡ option_map f (asked_by call)
asked_renamed f k (Create name domain shape) = refl
asked_renamed f k (Dup name o) = refl
asked_renamed f k (On o act) = asked (asks_value act)
  where
    asked : (asks : Bool) → cond asks (Some (f o)) None ≡ option_map f (cond asks (Some o) None)
    asked true = refl
    asked false = refl
asked_renamed f k (Operate out operation) = refl

-- ---- a call on names, and on the numbers that the names stand for

module _ (number : Name → Option Obj) (distinct : AreDistinct number) (s after : State Obj) (call : Call Name Name)
    (r : Call Obj Name) (next : Name → Obj) (known : changes_names call ≡ false) (e : renamed Some (λ n. n) r ≡ renamed number (λ n. n) call) where
  abbrev by_number : Call Obj Obj
  by_number = renamed (λ o. o) next r

  own_option : {K : Type 0} (o : Option K) → option_map (λ k. k) o ≡ o
  own_option None = refl
  own_option (Some k) = refl

  put-along : option_map Some (put_to by_number) ≡ option_map number (put_to call)
  put-along =
      ap (option_map Some) (put_renamed (λ (o : Obj). o) next r ∙ own_option (put_to r))
      ∙ sym (put_renamed Some (λ n. n) r) ∙ ap put_to e ∙ put_renamed number (λ n. n) call

  asked-along : option_map Some (asked_by by_number) ≡ option_map number (asked_by call)
  asked-along =
      ap (option_map Some) (asked_renamed (λ (o : Obj). o) next r ∙ own_option (asked_by r))
      ∙ sym (asked_renamed Some (λ n. n) r) ∙ ap asked_by e ∙ asked_renamed number (λ n. n) call

  -- ---- before

  untold_of : (found : Option Name) (o : Option Obj) → option_map Some o ≡ option_map number found → IsUntold s o
      → IsUntold (state_through number s) found
  untold_of None o same untold = refl
  untold_of (Some name) None same untold = absurd (cc)
  untold_of (Some name) (Some o) same untold =
      let is : number name ≡ Some o = cc in told-along number distinct s name o is ∙ untold

  looked_of : (found : Option Name) (o : Option Obj) → option_map Some o ≡ option_map number found
      → state_through number (option_map_or (λ o. with_mark same_object s s.environment o Unmarked) o s)
      ≡ option_map_or (λ name. with_mark bytes_eq (state_through number s) (through number s.environment) name Unmarked) found (state_through number s)
  looked_of None None same = refl
  looked_of None (Some o) same = absurd (cc)
  looked_of (Some name) None same = absurd (cc)
  looked_of (Some name) (Some o) same =
      let is : number name ≡ Some o = cc in marked-along number distinct s name o is s.environment Unmarked

  failed_of : (found : Option Name) (o : Option Obj) → option_map Some o ≡ option_map number found
      → HasFailed same_object s o after → HasFailed bytes_eq (state_through number s) found (state_through number after)
  failed_of None None same has = has
  failed_of None (Some o) same has = absurd (cc)
  failed_of (Some name) None same has = absurd (cc)
  failed_of (Some name) (Some o) same has =
      let is : number name ≡ Some o = cc in (
        ap (λ (found : Option Obj). is_unmarked (option_map_or s.marks found Unmarked)) is ∙ has.0,
        ap (state_through number) has.1 ∙ failed-along number distinct s name o is s.environment,
      )

  -- ---- after

  left_along : (env : Environment Obj) (found : Option Name) (o : Option Obj) (off : Option Bool)
      → option_map Some o ≡ option_map number found
      → state_through number (left_of same_object s env o off) ≡ left_of bytes_eq (state_through number s) (through number env) found off
  left_along env None None off same = refl
  left_along env None (Some o) off same = absurd (cc)
  left_along env (Some name) None off same = absurd (cc)
  left_along env (Some name) (Some o) None same =
      let is : number name ≡ Some o = cc in marked-along number distinct s name o is env Unmarked
  left_along env (Some name) (Some o) (Some reads) same =
      let is : number name ≡ Some o = cc in off-along number distinct s name o is env reads

  told_by : (found : Option Obj) → is_told (option_map_or s.marks found Unmarked) ≡ option_map_or (told s) found false
  told_by None = refl
  told_by (Some o) = refl

  off-same : off_by (renamed (told s) (λ n. n) by_number) ≡ off_by (renamed (told (state_through number s)) (λ n. n) call)
  off-same =
      let h : Option Obj → Bool = λ found. option_map_or (told s) found false in
      off_renamed ∙ sym (ap off_by (along number h (λ n. n) call r e))
      ∙ (λ t. off_by (renamed (λ name. sym (told_by (number name)) t) (λ n. n) call))
    where
      off_own : {A B : Type 0} (k : A → B) (c : Call Bool A) → off_by (renamed (λ (b : Bool). b) k c) ≡ off_by c
      off_own k (Create name domain shape) = refl
      off_own k (Dup name o) = refl
      off_own k (On o act) = refl
      off_own k (Operate out operation) = own_reads out operation
        where
          own_mask : (mask : Option Bool) → option_map_or (λ t. t) (option_map (λ t. t) mask) false ≡ option_map_or (λ t. t) mask false
          own_mask None = refl
          own_mask (Some t) = refl

          own_reads : (out : Out Bool) (operation : Operation Bool)
              → (let reads : Option Bool = Some (reads_of (renamed_out (λ (b : Bool). b) out) (renamed_operation (λ (b : Bool). b) operation)) in reads)
              ≡ Some (reads_of out operation)
          own_reads out (Fill value region) = λ t. Some ((reads-renamed (λ (b : Bool). b) out (Fill value region) t && out.c) || own_mask out.mask t || false)
          own_reads out (OfOne computes a) = λ t. Some ((reads-renamed (λ (b : Bool). b) out (OfOne computes a) t && out.c) || own_mask out.mask t || not (not a && true))
          own_reads out (OfTwo computes a b) = λ t. Some ((reads-renamed (λ (b : Bool). b) out (OfTwo computes a b) t && out.c) || own_mask out.mask t || not (not a && (not b && true)))

      off_renamed : off_by (renamed (told s) (λ n. n) by_number) ≡ off_by (renamed (told s) (λ n. n) r)
      off_renamed =
          ap off_by (renamed_twice (λ (o : Obj). o) (told s) next (λ n. n) r
          ∙ sym (renamed_twice (told s) (λ (b : Bool). b) (λ n. n) next r))
          ∙ off_own next (renamed (told s) (λ n. n) r)

  -- what is left by number is what is left by name
  pub left-along : changes_names by_number ≡ false
      → through number (effect same_object s.environment by_number) ≡ effect bytes_eq (through number s.environment) call
      → state_through number (left_by same_object s by_number) ≡ left_by bytes_eq (state_through number s) call
  left-along known_by_number effects =
      ap (state_through number) (left-unmade same_object s by_number known_by_number)
      ∙ left_along (effect same_object s.environment by_number) (put_to call) (put_to by_number) (off_by (renamed (told s) (λ n. n) by_number)) put-along
      ∙ (λ t. left_of bytes_eq (state_through number s) (effects t) (put_to call) (off-same t))
      ∙ sym (left-unmade bytes_eq (state_through number s) call known)

  -- a call by number ends as the call by name
  pub ends-along : {X : Type 0} (count : ℕ) (sees : Call (Option Object) Bool) (result : Result X Status)
      → changes_names by_number ≡ false
      → through number (effect same_object s.environment by_number) ≡ effect bytes_eq (through number s.environment) call
      → count ≡ s.environment.count → sees ≡ seen (through number s.environment) call
      → Ends (record { same = same_object; count = count; call = by_number; seen = sees; before = s; after = after }) result
      → Ends (named_setting (state_through number s) call (state_through number after)) result
  ends-along count sees (Ok x) known_by_number effects counted same ends = record {
    early = (λ t. fault_before (sym counted t) (sym same t)) ∙ ends.early;
    late = ap fault_by_values (sym same) ∙ ends.late;
    untold = untold_of (asked_by call) (asked_by by_number) asked-along ends.untold;
    left = subst (λ (l : State Name). Settles l (state_through number after)) (left-along known_by_number effects)
        (settles-along number (left_by same_object s by_number) after ends.left);
  }
  ends-along count sees (Err answer) known_by_number effects counted same (inl (inl (early, kept))) =
      inl (inl ((λ t. fault_before (sym counted t) (sym same t)) ∙ early, ap (state_through number) kept))
  ends-along count sees (Err answer) known_by_number effects counted same (inl (inr (early, late, untold, kept))) =
      inl (inr (
        (λ t. fault_before (sym counted t) (sym same t)) ∙ early,
        ap fault_by_values (sym same) ∙ late,
        untold_of (asked_by call) (asked_by by_number) asked-along untold,
        ap (state_through number) kept ∙ looked_of (asked_by call) (asked_by by_number) asked-along,
      ))
  ends-along count sees (Err answer) known_by_number effects counted same (inr (inl (is, early, failed))) =
      inr (inl (is, (λ t. fault_before (sym counted t) (sym same t)) ∙ early, failed_of (asked_by call) (asked_by by_number) asked-along failed))
  ends-along count sees (Err answer) known_by_number effects counted same (inr (inr (is, settles))) =
      inr (inr (is, settles-along number s after settles))
