-- Objects that are freed, and whose names stand for none afterwards.
use Rattle.std.proofs.Common.{◌≡◌, ◌∙◌, ◌==◌, ℕ, Bool, true, false, cond, Option, Some, None, is_some, Result, Ok, Err, refl, sym, subst, ap, inl, inr}
use Rattle.std.specs.Prelude.{OnErr}
use Rattle.std.specs.Option.{option_and_then, option_map_or}
use Rattle.std.specs.Str.{bytes_eq}
use Rattle.std.proofs.lemmas.Bool.{cases_Bool, eqb-true, true≢false}
use Rattle.std.proofs.lemmas.Slice.Eq.{bytes_eq-Decides}
use Rattle.calls.specs.declared.obj.Obj.{Obj}
use Rattle.model.specs.declared.call.Act.TheVariants.{Free}
use Rattle.model.specs.declared.call.Call.TheVariants.{On}
use Rattle.model.specs.declared.status.Status.{Status}
use Rattle.model.specs.declared.status.Status.TheVariants as status
use Rattle.model.specs.Fault.{early_fault, fault_by_values}
use Rattle.model.specs.Grammar.{Name}
use Rattle.model.specs.Marks.{Settles, State, Unmarked, left_by}
use Rattle.model.specs.Run.{Environment, effect, seen, without_object}
use Rattle.model.proofs.EnvironmentLaws.{environments_equal}
use Rattle.session.specs.Performed.{same_object}
use Rattle.script.proofs.NameLaws.{AreDistinct, same_number}
use Rattle.script.proofs.StateLaws.{settles-along}
use Rattle.script.specs.Freed.{IsFreed}
use Rattle.script.specs.Named.{state_through, through}
use Rattle.script.specs.Replied.{named_setting}
use Rattle.session.specs.Ends.{Ends, fault_before}

-- a name that stands for no object can't be freed
pub fault-unnamed : (number : Name → Option Obj) (senv : Environment Obj) (name : Name) → number name ≡ None
    → fault_before senv.count (seen (through number senv) (On name Free)) ≡ Some status.UninitializedObject
unfolding early_fault
fault-unnamed number senv name none = rw none refl

-- ..and to take it away changes nothing
pub unnamed-same : (number new : Name → Option Obj) (name : Name) → number name ≡ None
    → ((q : Name) → new q ≡ cond (bytes_eq name q) None (number q)) → (s : State Obj)
    → state_through new s ≡ state_through number s
unnamed-same number new name none gone s = λ t. state_through (λ q. same q t) s
  where
    same : (q : Name) → new q ≡ number q
    same q = gone q ∙ elim (cases_Bool (bytes_eq name q)) [
      | inl here ↦
          let named : name ≡ q = (bytes_eq-Decides name q).0 here in
          rw here (sym (ap number (sym named) ∙ none))
      | inr apart ↦ rw apart refl
    ]

-- an object that is there is freed
pub is_freed : {X : Type 0} (s after : State Obj) (count : ℕ) (o : Obj) (result : Result X Status)
    → is_some (s.environment.find_object o) ≡ true → OnErr result (s.environment.find_object o ≡ None)
    → Ends (record { same = same_object; count = count; call = On o Free; seen = On (s.environment.find_object o) Free; before = s; after = after }) result
    → IsFreed s o after
unfolding effect
is_freed s after count o (Ok x) there absent ends = ends.left
is_freed s after count o (Err why) there absent ends = absurd (true≢false (sym there ∙ ap is_some absent))

-- ---- what is left

module _ (number new : Name → Option Obj) (s : State Obj) (name : Name) (o : Obj)
    (distinct : AreDistinct number) (is : number name ≡ Some o)
    (gone : (q : Name) → new q ≡ cond (bytes_eq name q) None (number q)) where
  -- another name doesn't stand for the object
  apart_from : (n : Name) (q : Obj) → bytes_eq name n ≡ false → number n ≡ Some q → (o.0 == q.0) ≡ false
  apart_from n q apart stands = elim (cases_Bool (o.0 == q.0)) [
    | inl same ↦
        let one : o ≡ q = same_number o q (eqb-true o.0 q.0 same) in
        let named : name ≡ n = distinct name n q (rw one at is) stands in
        absurd (true≢false (sym ((bytes_eq-Decides name n).1 named) ∙ apart))
    | inr other ↦ other
  ]

  stands_before : (n : Name) (q : Obj) → new n ≡ Some q → (bytes_eq name n ≡ false) × (number n ≡ Some q)
  stands_before n q stands = elim (cases_Bool (bytes_eq name n)) [
    | inl same ↦ absurd (let none : None ≡ Some q = rw same at (sym (gone n) ∙ stands) in cc)
    | inr apart ↦ (apart, rw apart at (sym (gone n) ∙ stands))
  ]

  other_object : (n : Name) (found : Option Obj) → bytes_eq name n ≡ false → number n ≡ found
      → option_and_then (without_object same_object s.environment o).find_object found ≡ option_and_then s.environment.find_object found
  other_object n found apart = elim found as
      (λ found. number n ≡ found → option_and_then (without_object same_object s.environment o).find_object found ≡ option_and_then s.environment.find_object found) [
        | None ↦ λ none. refl
        | Some q ↦ λ some. rw (apart_from n q apart some) refl
      ]

  freed-through : through new (without_object same_object s.environment o) ≡ without_object bytes_eq (through number s.environment) name
  freed-through =
      environments_equal (through new (without_object same_object s.environment o)) (without_object bytes_eq (through number s.environment) name)
      (λ n. elim (cases_Bool (bytes_eq name n)) [
        | inl same ↦
            let now : new n ≡ None = gone n ∙ rw same refl in
            ap (option_and_then (without_object same_object s.environment o).find_object) now ∙ rw same refl
        | inr apart ↦
            let now : new n ≡ number n = gone n ∙ rw apart refl in
            ap (option_and_then (without_object same_object s.environment o).find_object) now ∙ rw apart (other_object n (number n) apart refl)
      ])
      refl

  freed-mark : (n : Name) → option_map_or (λ q. cond (same_object o q) Unmarked (s.marks q)) (new n) Unmarked
      ≡ cond (bytes_eq name n) Unmarked (option_map_or s.marks (number n) Unmarked)
  freed-mark n = elim (cases_Bool (bytes_eq name n)) [
    | inl same ↦
        let now : new n ≡ None = gone n ∙ rw same refl in
        rw (now, same) refl
    | inr apart ↦
        let now : new n ≡ number n = gone n ∙ rw apart refl in
        rw (now, apart) (other_mark n (number n) apart refl)
  ]
    where
      other_mark : (n : Name) (found : Option Obj) → bytes_eq name n ≡ false → number n ≡ found
          → option_map_or (λ q. cond (same_object o q) Unmarked (s.marks q)) found Unmarked ≡ option_map_or s.marks found Unmarked
      other_mark n None apart none = refl
      other_mark n (Some q) apart some = rw (apart_from n q apart some) refl

  -- what is left by number is what is left by name
  left-freed : state_through new (left_by same_object s (On o Free)) ≡ left_by bytes_eq (state_through number s) (On name Free)
  unfolding effect
  left-freed = λ t. record { environment = freed-through t; marks = λ n. freed-mark n t }

  pub freed-ends : {X : Type 0} (after : State Obj) (count : ℕ) (result : Result X Status)
      → is_some (s.environment.find_object o) ≡ true → OnErr result (s.environment.find_object o ≡ None)
      → count ≡ s.environment.count
      → Ends (record { same = same_object; count = count; call = On o Free; seen = On (s.environment.find_object o) Free; before = s; after = after }) result
      → Ends (named_setting (state_through number s) (On name Free) (state_through new after)) result
  freed-ends after count (Ok x) there absent counted ends = record {
    early = ap (λ (found : Option Obj). fault_before s.environment.count (On (option_and_then s.environment.find_object found) Free)) is
        ∙ ap (λ n. fault_before n (On (s.environment.find_object o) Free)) (sym counted) ∙ ends.early;
    late = ap (λ (found : Option Obj). fault_by_values {N = Bool} (On (option_and_then s.environment.find_object found) Free)) is ∙ ends.late;
    untold = refl;
    left = subst (λ (l : State Name). Settles l (state_through new after)) left-freed (settles-along new (left_by same_object s (On o Free)) after ends.left);
  }
  freed-ends after count (Err why) there absent counted ends = absurd (true≢false (sym there ∙ ap is_some absent))

  -- the object is there no more, and others stay
  pub freed-after : {X : Type 0} (after : State Obj) (count : ℕ) (result : Result X Status)
      → is_some (s.environment.find_object o) ≡ true → OnErr result (s.environment.find_object o ≡ None)
      → Ends (record { same = same_object; count = count; call = On o Free; seen = On (s.environment.find_object o) Free; before = s; after = after }) result
      → after.environment ≡ without_object same_object s.environment o
  unfolding effect
  freed-after after count (Ok x) there absent ends = ends.left.environment
  freed-after after count (Err why) there absent ends = absurd (true≢false (sym there ∙ ap is_some absent))

  pub freed-distinct : AreDistinct new
  freed-distinct a b q is_a is_b = distinct a b q (stands_before a q is_a).1 (stands_before b q is_b).1

  pub freed-there : ((n : Name) (q : Obj) → number n ≡ Some q → is_some (s.environment.find_object q) ≡ true)
      → (freed : Environment Obj) → freed ≡ without_object same_object s.environment o
      → (n : Name) (q : Obj) → new n ≡ Some q → is_some (freed.find_object q) ≡ true
  freed-there there freed left n q stands =
      let before = stands_before n q stands in
      ap (λ (env : Environment Obj). is_some (env.find_object q)) left ∙ rw (apart_from n q before.0 before.1) (there n q before.1)
