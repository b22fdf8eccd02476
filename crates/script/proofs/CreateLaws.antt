-- Objects that are made under a name, or not for want of memory.
use Rattle.std.proofs.Common.{◌≡◌, ◌∙◌, ℕ, ◌+◌, ◌==◌, Bool, true, false, cond, Option, Some, None, is_some, refl, sym, ap, arith, inl, inr}
use Rattle.std.specs.Option.{option_and_then, option_map_or, unwrap_or}
use Rattle.std.specs.Str.{bytes_eq}
use Rattle.std.proofs.lemmas.Bool.{cases_Bool, eqb-true, true≢false}
use Rattle.std.proofs.lemmas.Slice.Eq.{bytes_eq-Decides}
use Rattle.algebra.specs.declared.domain.Domain.{Domain}
use Rattle.calls.specs.declared.obj.Obj.{Obj}
use Rattle.model.specs.declared.call.Call.TheVariants.{Create, Dup}
use Rattle.model.specs.declared.shape.Shape.{Shape}
use Rattle.model.specs.declared.status.Status.TheVariants as status
use Rattle.model.specs.Fault.{early_fault}
use Rattle.model.specs.Grammar.{Name}
use Rattle.model.specs.Marks.{Mark, MayBecome, Open, Settles, State, Told, Unmarked, left_by, put_off, told, with_mark}
use Rattle.model.specs.Object.{Object, empty_object, no_content}
use Rattle.model.specs.Run.{Environment, effect, no_object, object_at, seen, with_content, with_object, without_object}
use Rattle.model.proofs.EnvironmentLaws.{environments_equal}
use Rattle.model.proofs.SettlesLaws.{becomes-then}
use Rattle.script.proofs.NameLaws.{AreDistinct, own_number, same_number}
use Rattle.script.proofs.StateLaws.{marked-along, off-along, told-along}
use Rattle.script.specs.Freed.{IsFreed}
use Rattle.script.specs.Named.{state_through, through}
use Rattle.session.specs.Performed.{same_object}
use Rattle.session.specs.Ends.{fault_before}

-- ---- faults

taken_name : (count : ℕ) (domain : Domain) (shape : Shape) (taken : Bool) → taken ≡ true
    → fault_before count (Create taken domain shape) ≡ Some status.NameTaken
unfolding early_fault
taken_name count domain shape taken h = rw h refl

pub there_through : (number : Name → Option Obj) (senv : Environment Obj) (found : Option Obj)
    → ((o : Obj) → found ≡ Some o → is_some (senv.find_object o) ≡ true)
    → is_some found ≡ true → is_some (option_and_then senv.find_object found) ≡ true
there_through number senv None there h = h
there_through number senv (Some o) there h = there o refl

pub fault-taken : (number : Name → Option Obj) (senv : Environment Obj) (name : Name) (domain : Domain) (shape : Shape)
    → ((n : Name) (o : Obj) → number n ≡ Some o → is_some (senv.find_object o) ≡ true) → is_some (number name) ≡ true
    → fault_before senv.count (seen (through number senv) (Create name domain shape)) ≡ Some status.NameTaken
fault-taken number senv name domain shape there taken =
    taken_name senv.count domain shape (is_some (option_and_then senv.find_object (number name))) (there_through number senv (number name) (there name) taken)

pub free_name : (senv : Environment Obj) (found : Option Obj) → is_some found ≡ false
    → is_some (option_and_then senv.find_object found) ≡ false
free_name senv None h = refl
free_name senv (Some o) h = absurd (true≢false h)

-- ---- one more name

-- no name stands yet for the number of a new object
unnamed : (number : Name → Option Obj) (senv : Environment Obj) (o : Obj) (n : Name) (q : Obj)
    → ((n : Name) (q : Obj) → number n ≡ Some q → is_some (senv.find_object q) ≡ true)
    → senv.find_object o ≡ None → number n ≡ Some q → (o.0 == q.0) ≡ true → ⊥
unnamed number senv o n q there unused is same =
    let one : o ≡ q = same_number o q (eqb-true o.0 q.0 same) in
    let none : is_some (senv.find_object q) ≡ false = ap is_some (rw one at unused) in
    true≢false (sym (there n q is) ∙ none)

pub created : (number new : Name → Option Obj) (senv : Environment Obj) (name : Name) (o : Obj) (object : Object)
    (count : ℕ)
    → ((q : Name) → new q ≡ cond (bytes_eq name q) (Some o) (number q))
    → ((n : Name) (q : Obj) → number n ≡ Some q → is_some (senv.find_object q) ≡ true) → senv.find_object o ≡ None
    → through new (with_object same_object senv o object count) ≡ with_object bytes_eq (through number senv) name object count
created number new senv name o object count adds there unused =
    let made = with_object same_object senv o object count in
    let other_object : (n : Name) (found : Option Obj) → number n ≡ found → option_and_then made.find_object found ≡ option_and_then senv.find_object found = λ n found. elim found as
    (λ found. number n ≡ found → option_and_then made.find_object found ≡ option_and_then senv.find_object found) [
      | None ↦ λ none. refl
      | Some q ↦ λ some. elim (cases_Bool (o.0 == q.0)) [
        | inl same ↦ absurd (unnamed number senv o n q there unused some same)
        | inr apart ↦ rw apart refl
      ]
    ] in
    environments_equal (through new made) (with_object bytes_eq (through number senv) name object count)
    (λ n. elim (cases_Bool (bytes_eq name n)) [
      | inl same ↦
          let now : new n ≡ Some o = adds n ∙ rw same refl in
          ap (option_and_then made.find_object) now ∙ rw (same, own_number o.0) refl
      | inr apart ↦
          let now : new n ≡ number n = adds n ∙ rw apart refl in
          ap (option_and_then made.find_object) now ∙ rw apart (other_object n (number n) refl)
    ])
    refl

-- two names still stand for one object only where they are the same
pub created-distinct : (number new : Name → Option Obj) (senv : Environment Obj) (name : Name) (o : Obj)
    → ((q : Name) → new q ≡ cond (bytes_eq name q) (Some o) (number q))
    → ((n : Name) (q : Obj) → number n ≡ Some q → is_some (senv.find_object q) ≡ true) → senv.find_object o ≡ None
    → AreDistinct number → AreDistinct new
created-distinct number new senv name o adds there unused distinct a b q is_a is_b =
    elim (cases_Bool (bytes_eq name a)) [
      | inl same_a ↦ elim (cases_Bool (bytes_eq name b)) [
        | inl same_b ↦ sym ((bytes_eq-Decides name a).0 same_a) ∙ (bytes_eq-Decides name b).0 same_b
        | inr apart_b ↦
            let one : Some o ≡ Some q = rw same_a at (sym (adds a) ∙ is_a) in
            let old : number b ≡ Some q = rw apart_b at (sym (adds b) ∙ is_b) in
            let same : o ≡ q = cc in
            absurd (unnamed number senv o b q there unused old (rw same (own_number q.0)))
      ]
      | inr apart_a ↦ elim (cases_Bool (bytes_eq name b)) [
        | inl same_b ↦
            let one : Some o ≡ Some q = rw same_b at (sym (adds b) ∙ is_b) in
            let old : number a ≡ Some q = rw apart_a at (sym (adds a) ∙ is_a) in
            let same : o ≡ q = cc in
            absurd (unnamed number senv o a q there unused old (rw same (own_number q.0)))
        | inr apart_b ↦ distinct a b q (rw apart_a at (sym (adds a) ∙ is_a)) (rw apart_b at (sym (adds b) ∙ is_b))
      ]
    ]

-- each name still stands for an object that is there
made_there : (senv : Environment Obj) (o q : Obj) (object : Object) (count : ℕ) → is_some (senv.find_object q) ≡ true
    → is_some ((with_object same_object senv o object count).find_object q) ≡ true
made_there senv o q object count h = elim (cases_Bool (o.0 == q.0)) [ inl same ↦ rw same refl | inr apart ↦ rw apart h ]

pub created-there : (number new : Name → Option Obj) (senv made : Environment Obj) (name : Name) (o : Obj)
    (object : Object)
    → ((q : Name) → new q ≡ cond (bytes_eq name q) (Some o) (number q))
    → ((n : Name) (q : Obj) → number n ≡ Some q → is_some (senv.find_object q) ≡ true)
    → made ≡ with_object same_object senv o object (senv.count + 1)
    → (n : Name) (q : Obj) → new n ≡ Some q → is_some (made.find_object q) ≡ true
created-there number new senv made name o object adds there is n q stands =
    ap (λ (env : Environment Obj). is_some (env.find_object q)) is ∙ elim (cases_Bool (bytes_eq name n)) [
      | inl same ↦
          let one : Some o ≡ Some q = rw same at (sym (adds n) ∙ stands) in
          let same_o : o ≡ q = cc in
          let number_is : (o.0 == q.0) ≡ true = rw same_o (own_number q.0) in
          rw number_is refl
      | inr apart ↦ made_there senv o q object (senv.count + 1) (there n q (rw apart at (sym (adds n) ∙ stands)))
    ]

-- ---- copies under a name

taken_copy : (count : ℕ) (taken : Bool) (from : Option Object) → taken ≡ true
    → fault_before count (Dup taken from) ≡ Some status.NameTaken
unfolding early_fault
taken_copy count taken from h = rw h refl

pub dup-taken : (number : Name → Option Obj) (senv : Environment Obj) (name from : Name)
    → ((n : Name) (o : Obj) → number n ≡ Some o → is_some (senv.find_object o) ≡ true) → is_some (number name) ≡ true
    → fault_before senv.count (seen (through number senv) (Dup name from)) ≡ Some status.NameTaken
dup-taken number senv name from there taken =
    taken_copy senv.count (is_some (option_and_then senv.find_object (number name))) (option_and_then senv.find_object (number from)) (there_through number senv (number name) (there name) taken)

copy_of_none : (count : ℕ) (taken : Bool) → taken ≡ false
    → fault_before count (Dup taken None) ≡ Some status.UninitializedObject
unfolding early_fault
copy_of_none count taken h = rw h refl

pub dup-missing : (number : Name → Option Obj) (senv : Environment Obj) (name from : Name)
    → is_some (number name) ≡ false → number from ≡ None
    → fault_before senv.count (seen (through number senv) (Dup name from)) ≡ Some status.UninitializedObject
dup-missing number senv name from free none =
    ap (λ (found : Option Obj). fault_before senv.count (Dup (is_some (option_and_then senv.find_object (number name))) (option_and_then senv.find_object found))) none
    ∙ copy_of_none senv.count (is_some (option_and_then senv.find_object (number name))) (free_name senv (number name) free)

-- ---- states in which an object was made

-- other objects' marks are all that is taken of the state before
based : (a b : State Name) (env : Environment Name) (name : Name) (mark : Mark)
    → ((q : Name) → bytes_eq name q ≡ false → a.marks q ≡ b.marks q)
    → with_mark bytes_eq a env name mark ≡ with_mark bytes_eq b env name mark
based a b env name mark same = λ t. record { environment = env; marks = λ q. point q t }
  where
    point : (q : Name) → cond (bytes_eq name q) mark (a.marks q) ≡ cond (bytes_eq name q) mark (b.marks q)
    point q = elim (cases_Bool (bytes_eq name q)) [
      | inl here ↦ rw here refl
      | inr apart ↦ rw apart (same q apart)
    ]

off-based : (a b : State Name) (env : Environment Name) (name : Name) (reads : Bool)
    → ((q : Name) → bytes_eq name q ≡ false → a.marks q ≡ b.marks q)
    → put_off bytes_eq a env name reads ≡ put_off bytes_eq b env name reads
off-based a b env name true same = based a b (with_content bytes_eq env name no_content) name Told same
off-based a b env name false same = based a b env name Open same

module _ (number new : Name → Option Obj) (s : State Obj) (name : Name) (o : Obj)
    (adds : (q : Name) → new q ≡ cond (bytes_eq name q) (Some o) (number q))
    (there : (n : Name) (q : Obj) → number n ≡ Some q → is_some (s.environment.find_object q) ≡ true)
    (unused : s.environment.find_object o ≡ None) (distinct : AreDistinct number) where
  named : new name ≡ Some o
  named = adds name ∙ rw ((bytes_eq-Decides name name).1 refl) refl

  apart_distinct : AreDistinct new
  apart_distinct = created-distinct number new s.environment name o adds there unused distinct

  other_marks : (q : Name) → bytes_eq name q ≡ false → (state_through new s).marks q ≡ (state_through number s).marks q
  other_marks q apart =
      let now : new q ≡ number q = adds q ∙ rw apart refl in
      ap (λ (found : Option Obj). option_map_or s.marks found Unmarked) now

  -- an object that is made with a value
  pub marked-made : (object : Object) (count : ℕ)
      → state_through new (with_mark same_object s (with_object same_object s.environment o object count) o Unmarked)
      ≡ with_mark bytes_eq (state_through number s) (with_object bytes_eq (through number s.environment) name object count) name Unmarked
  marked-made object count =
      marked-along new apart_distinct s name o named (with_object same_object s.environment o object count) Unmarked
      ∙ based (state_through new s) (state_through number s) (through new (with_object same_object s.environment o object count)) name Unmarked other_marks
      ∙ ap (λ (env : Environment Name). with_mark bytes_eq (state_through number s) env name Unmarked) (created number new s.environment name o object count adds there unused)

  pub left-created : (domain : Domain) (shape : Shape)
      → state_through new (left_by same_object s (Create o domain shape)) ≡ left_by bytes_eq (state_through number s) (Create name domain shape)
  unfolding effect
  left-created domain shape = marked-made (empty_object domain shape) (s.environment.count + 1)

  -- a copy, whose value comes later
  pub left-copied : (from : Name) (q : Obj) → number from ≡ Some q
      → state_through new (left_by same_object s (Dup o q)) ≡ left_by bytes_eq (state_through number s) (Dup name from)
  unfolding effect
  left-copied from q is =
      let count = s.environment.count + 1 in
      let made = with_object same_object s.environment o (object_at s.environment q) count in
      off-along new apart_distinct s name o named made (told s q)
      ∙ off-based (state_through new s) (state_through number s) (through new made) name (told s q) other_marks
      ∙ (λ t. put_off bytes_eq (state_through number s) (created number new s.environment name o (object_at s.environment q) count adds there unused t) name (sym (told-along number distinct s from q is) t))
      ∙ ap (λ (found : Option Obj). put_off bytes_eq (state_through number s) (with_object bytes_eq (through number s.environment) name (unwrap_or (option_and_then s.environment.find_object found) no_object) count) name (told (state_through number s) from)) (sym is)

-- ---- an object that goes again

module _ (s made freed : State Obj) (o : Obj) (object : Object) (mark : Mark) (unused : s.environment.find_object o ≡ None)
    (unmarked : s.marks o ≡ Unmarked)
    (is : Settles (with_mark same_object s (with_object same_object s.environment o object (s.environment.count + 1)) o mark) made)
    (left : IsFreed made o freed) where
  gone_environment : freed.environment ≡ s.environment
  gone_environment =
      left.environment ∙ ap (λ (env : Environment Obj). without_object same_object env o) is.environment
      ∙ environments_equal (without_object same_object (with_object same_object s.environment o object (s.environment.count + 1)) o) s.environment
      (λ q. elim (cases_Bool (o.0 == q.0)) [
        | inl same ↦ let one : o ≡ q = same_number o q (eqb-true o.0 q.0 same) in rw same (sym (rw one at unused))
        | inr apart ↦ rw apart refl
      ])
      (omega arith)

  stays_unmarked : (after : Mark) → MayBecome Unmarked after → after ≡ Unmarked
  stays_unmarked after (inl same) = same
  stays_unmarked after (inr there) = absurd (cc)

  gone_mark : (q : Obj) → MayBecome (s.marks q) (freed.marks q)
  gone_mark q = elim (cases_Bool (o.0 == q.0)) [
    | inl same ↦
        let one : o ≡ q = same_number o q (eqb-true o.0 q.0 same) in
        let last : MayBecome Unmarked (freed.marks q) = rw same at (left.marks q) in
        inl (stays_unmarked (freed.marks q) last ∙ sym (ap s.marks (sym one) ∙ unmarked))
    | inr apart ↦
        let first : MayBecome (s.marks q) (made.marks q) = rw apart at (is.marks q) in
        let last : MayBecome (made.marks q) (freed.marks q) = rw apart at (left.marks q) in
        becomes-then (s.marks q) (made.marks q) (freed.marks q) first last
  ]

  pub gone_again : Settles s freed
  gone_again = record { environment = gone_environment; marks = gone_mark }
