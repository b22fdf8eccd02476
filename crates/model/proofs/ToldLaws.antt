-- An object that was told to have failed stays so until its content is made anew, and has no entries.
use Rattle.std.proofs.Common.{◌≡◌, ◌∙◌, ℕ, ◌+◌, ◌&&◌, not, Bool, true, false, is_some, List, Option, Some, None, refl, sym, ap, inl, inr}
use Rattle.std.specs.Option.{option_and_then, option_map_or, unwrap_or}
use Rattle.std.specs.Result.{result_ok}
use Rattle.std.specs.Str.{bytes_eq}
use Rattle.std.proofs.lemmas.Bool.{cases_Bool, true≢false}
use Rattle.std.proofs.lemmas.Slice.Eq.{bytes_eq-Decides}
use Rattle.algebra.specs.declared.domain.Domain.{Domain}
use Rattle.model.specs.declared.call.Act.{Act}
use Rattle.model.specs.declared.call.Act.TheVariants.{Free, Clear, Resize, Build, Set, Remove, Get, Nvals, Print, Reduce, Wait}
use Rattle.model.specs.declared.call.Call.{Call}
use Rattle.model.specs.declared.call.Call.TheVariants.{Create, Dup, On, Operate}
use Rattle.model.specs.declared.status.Status.{Status}
use Rattle.model.specs.Fault.{fault_by_values}
use Rattle.model.specs.Grammar.{Name, Reading, Silent, Malformed, Called, Loads}
use Rattle.model.specs.Loads.{load_fault}
use Rattle.model.specs.Marks.{HasFailed, IsUntold, Mark, Open, Settles, State, Unmarked, acted, asked_by, failed, left_by, looked_at, put_off, reads_told, told, with_mark, is_told}
use Rattle.model.specs.MatrixMarket.{File, Matrix, object_read}
use Rattle.model.specs.Object.{Object, no_content}
use Rattle.model.specs.Poisoned.{IsAgreed, IsLine, after_line, asked_in, fault_before, makes_anew}
use Rattle.model.specs.Run.{Environment, effect, loaded, no_object, object_at, seen, with_object}
use Rattle.model.specs.Text.{Answer}

same_name : (a b : Name) → bytes_eq a b ≡ true → a ≡ b
same_name a b is = (bytes_eq-Decides a b).0 is

-- ---- told objects stay told

module _ (s : State Name) (k : Name) (was : told s k ≡ true) where
  -- another object may have any mark
  other_marked : (env : Environment Name) (name : Name) (mark : Mark) → bytes_eq name k ≡ false
      → told (with_mark bytes_eq s env name mark) k ≡ true
  other_marked env name mark apart = rw apart was

  failed_stays : (env : Environment Name) (name : Name) → told (failed bytes_eq s env name) k ≡ true
  failed_stays env name = elim (cases_Bool (bytes_eq name k)) [
    | inl same ↦ rw same refl
    | inr apart ↦ rw apart was
  ]

  -- an object that was not told is another
  untold_apart : (name : Name) → told s name ≡ false → bytes_eq name k ≡ false
  untold_apart name untold = elim (cases_Bool (bytes_eq name k)) [
    | inl same ↦
        let is : told s name ≡ true = ap (told s) (same_name name k same) ∙ was in
        absurd (true≢false (sym is ∙ untold))
    | inr apart ↦ apart
  ]

  off_stays : (env : Environment Name) (name : Name) (reads : Bool) → (bytes_eq name k && not reads) ≡ false
      → told (put_off bytes_eq s env name reads) k ≡ true
  off_stays env name true anew = failed_stays env name
  off_stays env name false anew = elim (cases_Bool (bytes_eq name k)) [
    | inl same ↦ let contra : true ≡ false = rw same at anew in absurd (true≢false contra)
    | inr apart ↦ other_marked env name Open apart
  ]

  -- what is changed and was told stays told
  changed_stays : (env : Environment Name) (name : Name) → told (put_off bytes_eq s env name (told s name)) k ≡ true
  changed_stays env name = elim (cases_Bool (bytes_eq name k)) [
    | inl same ↦ let is : told s name ≡ true = ap (told s) (same_name name k same) ∙ was in rw is (failed_stays env name)
    | inr apart ↦ off_stays env name (told s name) (rw apart refl)
  ]

  acted_stays : (env : Environment Name) (object : Name) (act : Act) → IsUntold s (asked_by {N = Name} (On object act))
      → makes_anew s (Called (On object act)) k ≡ false → told (acted bytes_eq s env object act) k ≡ true
  acted_stays env object (Resize shape) untold anew = changed_stays env object
  acted_stays env object (Set place value) untold anew = changed_stays env object
  acted_stays env object (Remove place) untold anew = changed_stays env object
  acted_stays env object Free untold anew = other_marked env object Unmarked anew
  acted_stays env object Clear untold anew = other_marked env object Unmarked anew
  acted_stays env object (Build dup tuples) untold anew = other_marked env object Unmarked (untold_apart object untold)
  acted_stays env object (Get place) untold anew = other_marked env object Unmarked (untold_apart object untold)
  acted_stays env object Nvals untold anew = other_marked env object Unmarked (untold_apart object untold)
  acted_stays env object (Wait mode) untold anew = other_marked env object Unmarked (untold_apart object untold)
  acted_stays env object Print untold anew = other_marked env object Unmarked (untold_apart object untold)
  acted_stays env object (Reduce monoid) untold anew = other_marked env object Unmarked (untold_apart object untold)

  left_stays : (call : Call Name Name) → IsUntold s (asked_by call) → makes_anew s (Called call) k ≡ false
      → told (left_by bytes_eq s call) k ≡ true
  left_stays (Create name domain shape) untold anew =
      other_marked (effect bytes_eq s.environment (Create name domain shape)) name Unmarked anew
  left_stays (Dup name object) untold anew =
      off_stays (effect bytes_eq s.environment (Dup name object)) name (told s object) (rw anew refl)
  left_stays (On object act) untold anew =
      acted_stays (effect bytes_eq s.environment (On object act)) object act untold anew
  left_stays (Operate out operation) untold anew =
      off_stays (effect bytes_eq s.environment (Operate out operation)) out.c (reads_told s out operation) anew

  looked_stays : (object : Option Name) → IsUntold s object
      → told (option_map_or (λ o. with_mark bytes_eq s s.environment o Unmarked) object s) k ≡ true
  looked_stays None untold = was
  looked_stays (Some object) untold = other_marked s.environment object Unmarked (untold_apart object untold)

  call_stays : (call : Call Name Name) (early late : Option Status)
      → IsUntold s (option_map_or (λ fault. None) early (asked_by call)) → makes_anew s (Called call) k ≡ false
      → told (option_map_or (λ fault. s) early (option_map_or (λ fault. looked_at bytes_eq s call) late (left_by bytes_eq s call))) k ≡ true
  call_stays call (Some early) late untold anew = was
  call_stays call None (Some late) untold anew = looked_stays (asked_by call) untold
  call_stays call None None untold anew = left_stays call untold anew

  load_stays : (name : Name) (env : Environment Name) (fault : Option Status) → bytes_eq name k ≡ false
      → told (option_map_or (λ fault. s) fault (with_mark bytes_eq s env name Unmarked)) k ≡ true
  load_stays name env None apart = other_marked env name Unmarked apart
  load_stays name env (Some fault) apart = was

  done_stays : (reading : Reading File) → IsUntold s (asked_in s reading) → makes_anew s reading k ≡ false
      → told (after_line s reading) k ≡ true
  done_stays Silent untold anew = was
  done_stays Malformed untold anew = was
  done_stays (Called call) untold anew =
      call_stays call (fault_before s call) (fault_by_values (seen s.environment call)) untold anew
  done_stays (Loads name domain file) untold anew =
      load_stays name (loaded bytes_eq s.environment name domain file)
      (load_fault s.environment.count (is_some (s.environment.find_object name)) file) anew

  told_stays : (object : Option Name) (after : State Name) → HasFailed bytes_eq s object after → told after k ≡ true
  told_stays None after is = absurd (is)
  told_stays (Some object) after is = rw is.1 (failed_stays s.environment object)

settled_stays : (before after : State Name) → Settles before after → (k : Name) → told before k ≡ true
    → told after k ≡ true
settled_stays before after settles k was = elim (settles.marks k) [
  | inl same ↦ rw same was
  | inr there ↦ let contra : false ≡ true = rw there.0 at was in absurd (true≢false (sym contra))
]

-- where a line leaves an object that was told, it doesn't make it anew
pub told-stays : (number : ℕ) (before ready : State Name) (reading : Reading File) (said : List Answer)
    (after : State Name) (k : Name) → Settles before ready → IsLine number ready reading said after
    → told before k ≡ true → makes_anew ready reading k ≡ false → told after k ≡ true
told-stays number before ready reading said after k settles (inl done) was anew =
    let still = settled_stays before ready settles k was in
    rw done.leaves (done_stays ready k still reading done.untold anew)
told-stays number before ready reading said after k settles (inr (inl told)) was anew =
    told_stays ready k (settled_stays before ready settles k was) (asked_in ready reading) after told.1
told-stays number before ready reading said after k settles (inr (inr refused)) was anew =
    rw refused.2 (settled_stays before ready settles k was)

-- ---- told objects have no entries

-- what an accepted act or call leaves of the other objects
acted_elsewhere : (env : Environment Name) (object : Name) (act : Act) (k : Name) → bytes_eq object k ≡ false
    → (effect bytes_eq env (On object act)).find_object k ≡ env.find_object k
unfolding effect
acted_elsewhere env object Free k apart = rw apart refl
acted_elsewhere env object Clear k apart = rw apart refl
acted_elsewhere env object (Resize shape) k apart = rw apart refl
acted_elsewhere env object (Build dup tuples) k apart = rw apart refl
acted_elsewhere env object (Set place value) k apart = rw apart refl
acted_elsewhere env object (Remove place) k apart = rw apart refl
acted_elsewhere env object (Get place) k apart = refl
acted_elsewhere env object Nvals k apart = refl
acted_elsewhere env object (Wait mode) k apart = refl
acted_elsewhere env object Print k apart = refl
acted_elsewhere env object (Reduce monoid) k apart = refl

loaded_elsewhere : (env : Environment Name) (name : Name) (domain : Domain) (m : Option Matrix) (k : Name)
    → bytes_eq name k ≡ false
    → (option_map_or (λ m. with_object bytes_eq env name (object_read domain m) (env.count + 1)) m env).find_object k
    ≡ env.find_object k
loaded_elsewhere env name domain None k apart = refl
loaded_elsewhere env name domain (Some m) k apart = rw apart refl

module _ (s : State Name) (agreed : IsAgreed s) where
  -- all objects but one are as they were
  abbrev IsElsewhere : Environment Name → Name → Type 0
  IsElsewhere env name = (k : Name) → bytes_eq name k ≡ false → env.find_object k ≡ s.environment.find_object k

  other_agrees : (env : Environment Name) (name : Name) → IsElsewhere env name → (k : Name) → bytes_eq name k ≡ false
      → told s k ≡ true → (object_at env k).content ≡ no_content
  other_agrees env name elsewhere k apart was =
      ap (λ (o : Option Object). (unwrap_or o no_object).content) (elsewhere k apart) ∙ agreed k was

  marked_agrees : (env : Environment Name) (name : Name) (mark : Mark) → is_told mark ≡ false → IsElsewhere env name
      → IsAgreed (with_mark bytes_eq s env name mark)
  marked_agrees env name mark untold elsewhere k is = elim (cases_Bool (bytes_eq name k)) [
    | inl same ↦ let marked : is_told mark ≡ true = rw same at is in absurd (true≢false (sym marked ∙ untold))
    | inr apart ↦ let was : told s k ≡ true = rw apart at is in other_agrees env name elsewhere k apart was
  ]

  failed_agrees : (env : Environment Name) (name : Name) → IsElsewhere env name → IsAgreed (failed bytes_eq s env name)
  failed_agrees env name elsewhere k is = elim (cases_Bool (bytes_eq name k)) [
    | inl same ↦ rw same refl
    | inr apart ↦ let was : told s k ≡ true = rw apart at is in rw apart (other_agrees env name elsewhere k apart was)
  ]

  off_agrees : (env : Environment Name) (name : Name) (reads : Bool) → IsElsewhere env name
      → IsAgreed (put_off bytes_eq s env name reads)
  off_agrees env name true elsewhere = failed_agrees env name elsewhere
  off_agrees env name false elsewhere = marked_agrees env name Open refl elsewhere

  acted_agrees : (env : Environment Name) (object : Name) (act : Act) → IsElsewhere env object
      → IsAgreed (acted bytes_eq s env object act)
  acted_agrees env object (Resize shape) elsewhere = off_agrees env object (told s object) elsewhere
  acted_agrees env object (Set place value) elsewhere = off_agrees env object (told s object) elsewhere
  acted_agrees env object (Remove place) elsewhere = off_agrees env object (told s object) elsewhere
  acted_agrees env object Free elsewhere = marked_agrees env object Unmarked refl elsewhere
  acted_agrees env object Clear elsewhere = marked_agrees env object Unmarked refl elsewhere
  acted_agrees env object (Build dup tuples) elsewhere = marked_agrees env object Unmarked refl elsewhere
  acted_agrees env object (Get place) elsewhere = marked_agrees env object Unmarked refl elsewhere
  acted_agrees env object Nvals elsewhere = marked_agrees env object Unmarked refl elsewhere
  acted_agrees env object (Wait mode) elsewhere = marked_agrees env object Unmarked refl elsewhere
  acted_agrees env object Print elsewhere = marked_agrees env object Unmarked refl elsewhere
  acted_agrees env object (Reduce monoid) elsewhere = marked_agrees env object Unmarked refl elsewhere

  left_agrees : (call : Call Name Name) → IsAgreed (left_by bytes_eq s call)
  unfolding effect
  left_agrees (Create name domain shape) =
      marked_agrees (effect bytes_eq s.environment (Create name domain shape)) name Unmarked refl (λ k apart. rw apart refl)
  left_agrees (Dup name object) =
      off_agrees (effect bytes_eq s.environment (Dup name object)) name (told s object) (λ k apart. rw apart refl)
  left_agrees (On object act) =
      acted_agrees (effect bytes_eq s.environment (On object act)) object act (acted_elsewhere s.environment object act)
  left_agrees (Operate out operation) =
      off_agrees (effect bytes_eq s.environment (Operate out operation)) out.c (reads_told s out operation) (λ k apart. rw apart refl)

  looked_agrees : (object : Option Name)
      → IsAgreed (option_map_or (λ o. with_mark bytes_eq s s.environment o Unmarked) object s)
  looked_agrees None = agreed
  looked_agrees (Some object) = marked_agrees s.environment object Unmarked refl (λ k apart. refl)

  call_agrees : (call : Call Name Name) (early late : Option Status)
      → IsAgreed (option_map_or (λ fault. s) early (option_map_or (λ fault. looked_at bytes_eq s call) late (left_by bytes_eq s call)))
  call_agrees call (Some early) late = agreed
  call_agrees call None (Some late) = looked_agrees (asked_by call)
  call_agrees call None None = left_agrees call

  load_agrees : (name : Name) (env : Environment Name) (fault : Option Status) → IsElsewhere env name
      → IsAgreed (option_map_or (λ fault. s) fault (with_mark bytes_eq s env name Unmarked))
  load_agrees name env None elsewhere = marked_agrees env name Unmarked refl elsewhere
  load_agrees name env (Some fault) elsewhere = agreed

  done_agrees : (reading : Reading File) → IsAgreed (after_line s reading)
  unfolding loaded
  done_agrees Silent = agreed
  done_agrees Malformed = agreed
  done_agrees (Called call) = call_agrees call (fault_before s call) (fault_by_values (seen s.environment call))
  done_agrees (Loads name domain file) =
      load_agrees name (loaded bytes_eq s.environment name domain file)
      (load_fault s.environment.count (is_some (s.environment.find_object name)) file)
      (loaded_elsewhere s.environment name domain (option_and_then result_ok file))

  told_agrees : (object : Option Name) (after : State Name) → HasFailed bytes_eq s object after → IsAgreed after
  told_agrees None after is = absurd (is)
  told_agrees (Some object) after is = rw is.1 (failed_agrees s.environment object (λ k apart. refl))

settled_agrees : (before after : State Name) → Settles before after → IsAgreed before → IsAgreed after
settled_agrees before after settles agreed k is = elim (settles.marks k) [
  | inl same ↦
      let was : told before k ≡ true = ap is_told (sym same) ∙ is in
      ap (λ (env : Environment Name). (object_at env k).content) settles.environment ∙ agreed k was
  | inr there ↦ let contra : false ≡ true = rw there.1 at is in absurd (true≢false (sym contra))
]

-- objects that were told have no entries, before a line and after it
pub told-empty : (number : ℕ) (before ready : State Name) (reading : Reading File) (said : List Answer)
    (after : State Name) → Settles before ready → IsLine number ready reading said after → IsAgreed before → IsAgreed after
told-empty number before ready reading said after settles (inl done) agreed =
    rw done.leaves (done_agrees ready (settled_agrees before ready settles agreed) reading)
told-empty number before ready reading said after settles (inr (inl told)) agreed =
    told_agrees ready (settled_agrees before ready settles agreed) (asked_in ready reading) after told.1
told-empty number before ready reading said after settles (inr (inr refused)) agreed =
    rw refused.2 (settled_agrees before ready settles agreed)
