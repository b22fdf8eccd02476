-- The lines before those that are left have been tried.
use Rattle.std.proofs.Common.{◌≡◌, ◌∙◌, ◌⊎◌, ℕ, zero, suc, List, [], ◌∷◌, Option, Some, None, Any, Bor, arith, inl, inr, length, subst, sym, true}
use Rattle.std.specs.Option.{option_map}
use Rattle.std.proofs.lemmas.Bool.{eqb-true}
use Rattle.model.specs.Grammar.{lines_of, reading_of, readings_of}
use Rattle.model.specs.Loads.{file_named}
use Rattle.gbrun.specs.Known.{IsLoaded}
use Rattle.gbrun.specs.Loaded.{is_tried}
use Rattle.gbrun.proofs.loaded.Loaded.read.Goals as goal

first_or_later : {X : Type 0} (P : X → Type 0) (x : X) (xs : List X) → Any P (x ∷ xs) → P x ⊎ Any P xs
first_or_later P x xs (zero, y, low, at, p) = inl (subst P (sym at) p)
first_or_later P x xs (suc k, y, low, at, p) = inr (k, y, omega arith, at, p)

none_left : (rest name : List ℕ) → length rest ≡ 0 → IsLoaded rest name → ⊥
unfolding readings_of lines_of
none_left [] name none (k, y, low, at, p) = absurd (omega (arith, low))
none_left (byte ∷ rest) name none loaded = absurd (omega (arith, none))

-- a file that lines load is named by the first of them or by a later one
this_or_later : (rest line others name : List ℕ) → lines_of rest ≡ line ∷ lines_of others → IsLoaded rest name
    → (file_named (reading_of line) ≡ Some name) ⊎ IsLoaded others name
unfolding readings_of
this_or_later rest line others name cut loaded =
    first_or_later (λ reading. file_named reading ≡ Some name) (reading_of line) (readings_of others) (rw cut at loaded)

one_name : (file : Option (Bor (List ℕ))) (named : Bor (List ℕ)) (name : List ℕ) (said : Option (List ℕ))
    → option_map (λ n. n.now) file ≡ said → file ≡ Some named → said ≡ Some name
    → named.now ≡ name
one_name file named name said is some this = let both : Some named.now ≡ Some name = rw some at (is ∙ this) in cc

no_name : (file : Option (Bor (List ℕ))) (name : List ℕ) (said : Option (List ℕ)) → option_map (λ n. n.now) file ≡ said
    → file ≡ None → said ≡ Some name → ⊥
no_name file name said is none this = let both : None ≡ Some name = rw none at (is ∙ this) in absurd (cc)

pub loop-rest-preserved-in_ok-add : goal.loop-rest-preserved-in_ok-add
loop-rest-preserved-in_ok-add g c = record {
  files = c.in_ok-add.ensures.files;
  tried = c.in_ok-add.ensures.tried;
  lines = λ name loaded. elim (c.loop-rest.invariant.lines name loaded) [
    | inl left ↦ elim (this_or_later c.loop-rest.rest.now c.first_line.result.0.now c.first_line.result.1.now name c.first_line.ensures.lines left) [
      | inl this ↦ inr (subst (λ n. is_tried c.add.new.self n ≡ true) (one_name c.in_ok-name.field-0 c.in-Some.name name _ c.in_ok-name.ensures c.in-Some.is this) c.in_ok-add.ensures.added)
      | inr later ↦ inl later
    ]
    | inr done ↦ inr (c.in_ok-add.ensures.kept name done)
  ];
}

pub loop-rest-preserved : goal.loop-rest-preserved
loop-rest-preserved g c = record {
  files = c.loop-rest.invariant.files;
  tried = c.loop-rest.invariant.tried;
  lines = λ name loaded. elim (c.loop-rest.invariant.lines name loaded) [
    | inl left ↦ elim (this_or_later c.loop-rest.rest.now c.first_line.result.0.now c.first_line.result.1.now name c.first_line.ensures.lines left) [
      | inl this ↦ absurd (no_name c.in_ok-name.field-0 name _ c.in_ok-name.ensures c.in_default.is this)
      | inr later ↦ inl later
    ]
    | inr done ↦ inr done
  ];
}

pub returns-clause-readable : goal.returns-clause-readable
returns-clause-readable g c name loaded can =
    let none : length c.loop-rest.rest.now ≡ 0 = eqb-true (length c.loop-rest.rest.now) 0 (sym c.is_empty.ensures ∙ c.loop-rest-test.false) in
    elim (c.loop-rest.invariant.lines name loaded) [
      | inl left ↦ absurd (none_left c.loop-rest.rest.now name none left)
      | inr done ↦ c.loop-rest.invariant.tried name done can
    ]
