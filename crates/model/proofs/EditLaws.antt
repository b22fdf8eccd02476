-- A value that is set is the value that is read.
use Rattle.std.proofs.Common.{◌≡◌, ◌∙◌, ℕ, Bool, true, false, cond, not, List, [], ◌∷◌, Option, Some, None, refl, ap}
use Rattle.std.specs.Prelude.{ℤ}
use Rattle.std.specs.Fmt.{signed_decimal}
use Rattle.std.specs.Str.{bytes_eq}
use Rattle.std.proofs.lemmas.Bool.{eq-eqb}
use Rattle.std.proofs.lemmas.Slice.Eq.{bytes_eq-Decides}
use Rattle.algebra.proofs.Casts.{value_of-word_of}
use Rattle.algebra.specs.Value.{is_value_of, word_of}
use Rattle.model.specs.declared.call.Act.TheVariants.{Get, Set}
use Rattle.model.specs.declared.call.Call.TheVariants.{On}
use Rattle.model.specs.declared.shape.Place.{Place}
use Rattle.model.specs.declared.status.Status.TheVariants as status
use Rattle.model.specs.Fault.{early_fault, fault_of}
use Rattle.model.specs.Grammar.{Name}
use Rattle.model.specs.Object.{Content, Object, col_of, is_inside, is_of_kind, row_of, signature_of, with_entry}
use Rattle.model.specs.Run.{Environment, data_lines_of, effect, seen, step, with_object}
use Rattle.model.specs.Text.{value_text}
use Rattle.model.proofs.StepLaws.{no_early}

-- what an accepted call that sets a value has passed
record CanSet (o : Object) (place : Place) (value : ℤ) : Type 0 where
  kind : is_of_kind place o.shape ≡ true
  inside : is_inside place o.shape ≡ true
  valid : is_value_of o.domain value ≡ true

passed_all : (kind inside valid : Bool)
    → cond (not kind) (Some status.WrongKind)
    (cond (not inside) (Some status.InvalidIndex) (cond (not valid) (Some status.InvalidValue) None)) ≡ None
    → (kind ≡ true) × (inside ≡ true) × (valid ≡ true)
passed_all true true true h = (refl, refl, refl)
passed_all true true false h = absurd (cc)
passed_all true false valid h = absurd (cc)
passed_all false inside valid h = absurd (cc)

can_set : (count : ℕ) (o : Object) (place : Place) (value : ℤ)
    → early_fault count (On (Some (signature_of o)) (Set place value)) ≡ None → CanSet o place value
unfolding early_fault
can_set count o place value h =
    let all = passed_all (is_of_kind place o.shape) (is_inside place o.shape) (is_value_of o.domain value) h in
    record { kind = all.0; inside = all.1; valid = all.2 }

-- a place at which an object has a value can be read
can_get : (count : ℕ) (o : Object) (place : Place) (word : ℕ) → is_of_kind place o.shape ≡ true
    → is_inside place o.shape ≡ true
    → o.content (row_of place) (col_of place) ≡ Some word → fault_of count (On (Some o) (Get place)) ≡ None
unfolding early_fault
can_get count o place word kind inside there = rw (kind, inside, there) refl

entry_is_there : (c : Content) (i j word : ℕ) → with_entry c i j word i j ≡ Some word
entry_is_there c i j word = rw (eq-eqb i i refl, eq-eqb j j refl) refl

-- the answer to a call that reads a value that is there
get_answers : (number : ℕ) (env : Environment Name) (name : Name) (o : Object) (place : Place) (word : ℕ)
    → env.find_object name ≡ Some o → is_of_kind place o.shape ≡ true
    → is_inside place o.shape ≡ true → o.content (row_of place) (col_of place) ≡ Some word
    → (step number env (On name (Get place))).0 ≡ record { number = number; status = status.Ok; data_lines = value_text o.domain word ∷ [] }
unfolding step data_lines_of
get_answers number env name o place word found kind inside there =
    let none = can_get env.count o place word kind inside there in
    rw (found, none, there) refl

-- what an accepted call that sets a value leaves
set_leaves : (number : ℕ) (env : Environment Name) (name : Name) (o : Object) (place : Place) (value : ℤ)
    → env.find_object name ≡ Some o
    → fault_of env.count (seen env (On name (Set place value))) ≡ None
    → (step number env (On name (Set place value))).1
    ≡ with_object bytes_eq env name (record o { content = with_entry o.content (row_of place) (col_of place) (word_of o.domain value) }) env.count
unfolding step effect
set_leaves number env name o place value found accepted = rw (accepted, found) refl

no_object_refused : (count : ℕ) (place : Place) (value : ℤ) → fault_of count (On None (Set place value)) ≡ None → ⊥
unfolding early_fault
no_object_refused count place value h = absurd (cc)

-- ..and what is read then
reads_set : (first second : ℕ) (env : Environment Name) (name : Name) (place : Place) (value : ℤ)
    (found : Option Object) → env.find_object name ≡ found
    → fault_of env.count (seen env (On name (Set place value))) ≡ None
    → (step second (step first env (On name (Set place value))).1 (On name (Get place))).0 ≡ record { number = second; status = status.Ok; data_lines = signed_decimal value ∷ [] }
reads_set first second env name place value None is accepted = absurd (no_object_refused env.count place value (rw is at accepted))
reads_set first second env name place value (Some o) is accepted =
    let early = no_early (early_fault env.count (On (Some (signature_of o)) (Set place value))) None (rw is at accepted) in
    let can = can_set env.count o place value early in
    let word = word_of o.domain value in
    let new : Object = record o { content = with_entry o.content (row_of place) (col_of place) word } in
    let after = with_object bytes_eq env name new env.count in
    let self : bytes_eq name name ≡ true = (bytes_eq-Decides name name).1 refl in
    let here : after.find_object name ≡ Some new = rw self refl in
    let decimal : value_text o.domain word ≡ signed_decimal value = ap signed_decimal (value_of-word_of o.domain value can.valid) in
    rw (set_leaves first env name o place value is accepted)
    (get_answers second after name new place word here can.kind can.inside (entry_is_there o.content (row_of place) (col_of place) word)
    ∙ ap (λ (text : List ℕ). record { number = second; status = status.Ok; data_lines = text ∷ [] }) decimal)

-- After an accepted call that sets a value, reading its place answers that value in decimal.
pub set_is_read : (first second : ℕ) (env : Environment Name) (name : Name) (place : Place) (value : ℤ)
    → fault_of env.count (seen env (On name (Set place value))) ≡ None
    → (step second (step first env (On name (Set place value))).1 (On name (Get place))).0 ≡ record { number = second; status = status.Ok; data_lines = signed_decimal value ∷ [] }
set_is_read first second env name place value accepted = reads_set first second env name place value (env.find_object name) refl accepted
