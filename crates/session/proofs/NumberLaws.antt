-- The numbers of objects stay below the next one.
use Rattle.std.proofs.Common.{◌≡◌, ◌∙◌, ℕ, ◌<◌, ◌≤◌, ◌+◌, ◌==◌, Bool, true, false, cond, Option, Some, None, is_some, Result, Ok, Err, refl, sym, ap, inl, inr, arith}
use Rattle.std.specs.Prelude.{OnErr, OnOk}
use Rattle.std.proofs.lemmas.Bool.{cases_Bool, eqb-true}
use Rattle.calls.specs.declared.obj.Obj.{Obj}
use Rattle.model.specs.Marks.{Mark, Settles, State, Told, Unmarked, with_mark}
use Rattle.model.specs.Object.{Object, no_content}
use Rattle.model.specs.Run.{Environment, object_at, with_object, without_object}
use Rattle.objects.specs.declared.kept.Refusal.{Refusal}
use Rattle.objects.specs.declared.kept.Refusal.TheVariants as refusal
use Rattle.objects.specs.Tables.{Reads, same_object, with_kept}

-- the objects are below the next number, after one was put under a number
put_below : (old : Environment Obj) (o : Obj) (object : Object) (count n m : ℕ)
    → ((q : Obj) → is_some (old.find_object q) ≡ true → q.0 < n) → o.0 < m → n ≤ m
    → (q : Obj) → is_some ((with_object same_object old o object count).find_object q) ≡ true → q.0 < m
put_below old o object count n m below small more q there =
    elim (cases_Bool (o.0 == q.0)) [
      | inl same ↦ let is : o.0 ≡ q.0 = eqb-true o.0 q.0 same in omega arith
      | inr apart ↦ let was : is_some (old.find_object q) ≡ true = rw apart at there in let low : q.0 < n = below q was in omega arith
    ]

below-put : (old new : Environment Obj) (o : Obj) (object : Object) (count n m : ℕ)
    → ((q : Obj) → is_some (old.find_object q) ≡ true → q.0 < n) → o.0 < m → n ≤ m
    → new ≡ with_object same_object old o object count → (q : Obj) → is_some (new.find_object q) ≡ true → q.0 < m
below-put old new o object count n m below small more is q there =
    put_below old o object count n m below small more q (ap (λ (env : Environment Obj). is_some (env.find_object q)) (sym is) ∙ there)

below-kept : (old new : Environment Obj) (n : ℕ) → ((q : Obj) → is_some (old.find_object q) ≡ true → q.0 < n)
    → new ≡ old → (q : Obj) → is_some (new.find_object q) ≡ true → q.0 < n
below-kept old new n below is q there = below q (ap (λ (env : Environment Obj). is_some (env.find_object q)) (sym is) ∙ there)

none_from : (o : Option Object) → (is_some o ≡ true → ⊥) → o ≡ None
none_from None h = refl
none_from (Some x) h = absurd (h refl)

-- no object has the next number yet
pub not_there : (env : Environment Obj) (o : Obj) → ((q : Obj) → is_some (env.find_object q) ≡ true → q.0 < o.0)
    → env.find_object o ≡ None
not_there env o below = none_from (env.find_object o) (λ there. let low : o.0 < o.0 = below o there in absurd (omega arith))

-- ---- states

left_there : (gone : Bool) (o : Option Object) → is_some (cond gone None o) ≡ true → is_some o ≡ true
left_there true o h = absurd (cc)
left_there false o h = h

-- all objects have numbers below one
abbrev pub AreBelow : State Obj → ℕ → Type 0
AreBelow s n = (q : Obj) → is_some (s.environment.find_object q) ≡ true → q.0 < n

pub below-same : (before after : State Obj) (n : ℕ) → AreBelow before n → after ≡ before → AreBelow after n
below-same before after n below is = below-kept before.environment after.environment n below (ap (λ (s : State Obj). s.environment) is)

pub below-with_kept : (before after : State Obj) (o : Obj) (object : Object) (mark : Mark) (n : ℕ) → AreBelow before n
    → is_some (before.environment.find_object o) ≡ true → after ≡ with_kept before o object mark → AreBelow after n
below-with_kept before after o object mark n below there is =
    let low : o.0 < n = below o there in
    below-put before.environment after.environment o object before.environment.count n n below low (omega arith) (ap (λ (s : State Obj). s.environment) is)

-- ..also where memory may have been refused
pub below-edited : {T E : Type 0} (r : Result T E) (before after : State Obj) (o : Obj) (object : Object) (mark : Mark) (n : ℕ)
    → AreBelow before n → is_some (before.environment.find_object o) ≡ true
    → OnOk r (after ≡ with_kept before o object mark) → OnErr r (after ≡ before) → AreBelow after n
below-edited (Ok x) before after o object mark n below there is kept = below-with_kept before after o object mark n below there is
below-edited (Err e) before after o object mark n below there is kept = below-same before after n below kept

-- ..where the value of an object was asked for
pub below-read : (r : Result (Unit {0}) Refusal) (before after : State Obj) (o : Obj) (n : ℕ) → AreBelow before n
    → is_some (before.environment.find_object o) ≡ true → Reads before o after r → AreBelow after n
below-read (Ok done) before after o n below there ends =
    below-kept before.environment after.environment n below (ap (λ (s : State Obj). s.environment) ends.1)
below-read (Err refusal.NoMemory) before after o n below there ends =
    below-kept before.environment after.environment n below ends.environment
below-read (Err refusal.Failed) before after o n below there ends =
    below-with_kept before after o (record (object_at before.environment o) { content = no_content }) Told n below there ends.1

-- ..where one was made
pub below-inserted : (before after : State Obj) (o : Obj) (object : Object) (mark : Mark) (n : ℕ) → AreBelow before n → o.0 ≡ n
    → after ≡ with_mark same_object before (with_object same_object before.environment o object (before.environment.count + 1)) o mark
    → AreBelow after (n + 1)
below-inserted before after o object mark n below next is =
    below-put before.environment after.environment o object (before.environment.count + 1) n (n + 1) below (omega arith) (omega arith) (ap (λ (s : State Obj). s.environment) is)

-- ..where one was taken out
pub below-removed : (removed : Bool) (before after : State Obj) (o : Obj) (n : ℕ) → AreBelow before n
    → after ≡ cond removed (with_mark same_object before (without_object same_object before.environment o) o Unmarked) before
    → AreBelow after n
below-removed true before after o n below is = λ q there.
    below q (left_there (same_object o q) (before.environment.find_object q) (ap (λ (s : State Obj). is_some (s.environment.find_object q)) (sym is) ∙ there))
below-removed false before after o n below is = below-same before after n below is

-- ..where values came to be there
pub below-settled : (before after : State Obj) (n : ℕ) → AreBelow before n → Settles before after → AreBelow after n
below-settled before after n below settles = below-kept before.environment after.environment n below settles.environment
