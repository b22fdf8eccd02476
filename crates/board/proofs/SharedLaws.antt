-- Tasks that are cut, and the pieces that go out of them.
use Rattle.std.proofs.Common.{inl, inr, ◌≡◌, ◌∙◌, ℕ, zero, suc, ◌<◌, ◌≤◌, ◌||◌, Bool, true, false, cond, eqb, List, length, map, Option, Some, replicate, slice_get, slice_set, refl, sym, ap, arith, subst}
use Rattle.std.specs.Arc.{arc_value}
use Rattle.std.specs.Global.{Box}
use Rattle.std.specs.Option.{option_map, option_map_or}
use Rattle.std.proofs.lemmas.Bool.{cases_eq, eq-eqb, lt-ltb, ne_eqb}
use Rattle.calls.specs.declared.recipe.Recipe.{Recipe}
use Rattle.calls.specs.declared.role.Role.{Role}
use Rattle.calls.specs.Recipes.{known_by, known_of, meaning_of}
use Rattle.calls.specs.Stores.{object_with}
use Rattle.kernel.specs.declared.block.Block.{Block}
use Rattle.kernel.specs.Takes.{Takes, map_in}
use Rattle.model.specs.Object.{Content, rows_of}
use Rattle.pieces.specs.Parts.{Parts, cut_at}
use Rattle.pieces.specs.declared.part.Part.TheVariants.{Due, Given}
use Rattle.store.specs.Stored.{Stored}
use Rattle.board.specs.Cuts.{AreCuts, AreSame, Cutting, GoesCut, IsCutFor, IsNext, IsPut, IsShared, Parted, at_slot, cutting_of, has_more, may_cut, one_taken}
use Rattle.stages.specs.Numbers.{numbers}
use Rattle.board.specs.Pieces.{AreFor, IsPieceFor, maps_in, recipe_of, rows_for}
use Rattle.stages.specs.Progress.{Progress}
use Rattle.board.specs.Stores.{stored_for}
use Rattle.stages.specs.Tasks.{Task}
use Rattle.board.specs.declared.cut.Cut.{Cut}
use Rattle.board.specs.declared.cut.CutTask.{CutTask}
use Rattle.board.specs.declared.piece.Piece.{Piece}
use Rattle.board.specs.declared.piece.Stores.{Stores}
use Rattle.board.proofs.CutLaws.{at_map, at_set, at_set_other, open_same}
use Rattle.stages.proofs.ListLaws.{length_set}
use Rattle.stages.proofs.NumberLaws.{numbers_same}
use Rattle.board.proofs.PartedLaws.{opens}

-- ---- what a task needs

-- the same stores serve
pub for_same : (ts : List Task) (k j : ℕ) (r q : Recipe) (s u : Stores) → AreFor ts k r s → j ≡ k → q ≡ r
    → ((role : Role) → stored_for u role ≡ stored_for s role) → AreFor ts j q u
for_same ts k j r q s u needs number recipe same =
    subst (λ n. AreFor ts n q u) (sym number) (subst (λ (x : Recipe). AreFor ts k x u) (sym recipe) (record {
      recipe_is = needs.recipe_is;
      lower = needs.lower;
      takes = λ role. subst (λ (o : Option Stored). Takes (known_by r role) o) (sym (same role)) (needs.takes role);
      right = λ task role i st at takes has. needs.right task role i st at takes (sym (same role) ∙ has);
      makes = needs.makes ∙ ap (λ (m : Role → Content). object_with (known_of r) (meaning_of r m)) (sym maps);
      is_object = needs.is_object;
    }))
  where
    maps : maps_in u ≡ maps_in s
    maps = λ x role i j. map_in (same role x) i j

-- the first piece of a task that was cut is work on it
pub first_for : (ts : List Task) (whole first : Piece) → IsPieceFor ts whole → first.number ≡ whole.number → recipe_of first.recipe ≡ recipe_of whole.recipe
    → first.inputs ≡ whole.inputs → first.rows.start < first.rows.end
    → first.rows.end ≤ rows_for whole → IsPieceFor ts first
first_for ts whole first is number recipe inputs rises inside = record {
  needs = for_same ts whole.number first.number (recipe_of whole.recipe) (recipe_of first.recipe) whole.inputs first.inputs is.needs number recipe (λ role. ap (λ (s : Stores). stored_for s role) inputs);
  rises = omega (arith, rises);
  inside = let e : rows_for first ≡ rows_for whole = ap (λ (r : Recipe). rows_of (known_of r).shape) recipe in omega (arith, inside, e);
}

-- none of the pieces that nobody took has a block
none_given : (n j : ℕ) (block : Block) → slice_get (replicate n Due) j ≡ Some (Given block) → ⊥
none_given zero j block h = cc (h)
none_given (suc n) zero block h = cc (h)
none_given (suc n) (suc j) block h = none_given n j block h

pub shared_first : (ts : List Task) (k : ℕ) (whole : Piece) (task : CutTask) (cuts : List ℕ) → IsPieceFor ts whole → k ≡ whole.number
    → arc_value task.recipe ≡ recipe_of whole.recipe → ((role : Role) → stored_for task.inputs role ≡ stored_for whole.inputs role) → task.pieces ≡ one_taken (cut_at (rows_for whole) cuts)
    → IsShared ts k task
shared_first ts k whole task cuts is number recipe inputs pieces = record {
  needs = for_same ts whole.number k (recipe_of whole.recipe) (arc_value task.recipe) whole.inputs task.inputs is.needs number recipe inputs;
  rows = ap (λ (p : Parts). p.rows) pieces ∙ ap (λ (r : Recipe). rows_of (known_of r).shape) (sym recipe);
  right = λ j block at. absurd (none_given _ j block (ap (λ (p : Parts). slice_get p.parts j) (sym pieces) ∙ at));
}

-- ---- places

-- the same tasks at other places
pub cuts_again : (ts : List Task) (ps : List Progress) (cuts after : List (Option Cut)) → AreCuts ts ps cuts → length after ≤ length ts
    → ((k : ℕ) → at_slot after k ≡ at_slot cuts k) → AreCuts ts ps after
cuts_again ts ps cuts after are within same = record { sized = within; each_is = λ k c at. are.each_is k c (sym (same k) ∙ at) }

pub seen_again : (cuts after : List (Option Cut)) → ((k : ℕ) → at_slot after k ≡ at_slot cuts k)
    → AreSame (map (option_map cutting_of) cuts) (map (option_map cutting_of) after)
seen_again cuts after same k = at_map cutting_of after k ∙ (ap (option_map cutting_of) (same k) ∙ sym (at_map cutting_of cuts k))

pub parted_again : (cuts after : List (Option Cut)) (parted next : List ℕ) (n : ℕ) → ((k : ℕ) → at_slot after k ≡ at_slot cuts k)
    → next ≡ parted → parted ≡ numbers (opens cuts) n → next ≡ numbers (opens after) n
parted_again cuts after parted next n same is are =
    is ∙ (are ∙ numbers_same (opens cuts) (opens after) n (λ k low.
    sym (open_same (map (option_map cutting_of) cuts) (map (option_map cutting_of) after) k (seen_again cuts after same k))))

-- one task has come so far
pub put_some : (cuts : List (Option Cut)) (k : ℕ) (c : Cut) → k < length cuts
    → IsPut (map (option_map cutting_of) cuts) k (Some (cutting_of c)) (map (option_map cutting_of) (slice_set cuts k (Some c)))
put_some cuts k c low j = elim (cases_eq j k) [
  | inl e ↦
      let here : at_slot (slice_set cuts k (Some c)) j ≡ Some c = ap (at_slot (slice_set cuts k (Some c))) e ∙ at_set cuts k (Some c) low in
      at_map cutting_of (slice_set cuts k (Some c)) j ∙ (ap (option_map cutting_of) here ∙ sym (ap (λ b. cond b (Some (cutting_of c)) (at_slot (map (option_map cutting_of) cuts) j)) (eq-eqb j k e)))
  | inr far ↦
      at_map cutting_of (slice_set cuts k (Some c)) j ∙ (ap (option_map cutting_of) (at_set_other cuts k j (Some c) far)
      ∙ (sym (at_map cutting_of cuts j) ∙ sym (ap (λ b. cond b (Some (cutting_of c)) (at_slot (map (option_map cutting_of) cuts) j)) (ne_eqb j k far))))
]

-- ..where as far as it was before is seen elsewhere
pub put_after : (cs ds es : List (Option Cutting)) (k : ℕ) (c : Option Cutting) → AreSame cs ds → IsPut ds k c es → IsPut cs k c es
put_after cs ds es k c same put j = put j ∙ ap (λ (o : Option Cutting). cond (eqb j k) c o) (same j)

-- a task is cut
pub cuts_put : (ts : List Task) (ps : List Progress) (cuts : List (Option Cut)) (k : ℕ) (c : Cut) → AreCuts ts ps cuts → k < length cuts
    → IsCutFor ts (slice_get ps k) k c → AreCuts ts ps (slice_set cuts k (Some c))
cuts_put ts ps cuts k c are low is = record {
  sized = let e = length_set cuts k (Some c) in omega (arith, are.sized, e);
  each_is = λ j d at. elim (cases_eq j k) [
    | inl e ↦
        let here : at_slot (slice_set cuts k (Some c)) j ≡ Some c = ap (at_slot (slice_set cuts k (Some c))) e ∙ at_set cuts k (Some c) low in
        let both : Some c ≡ Some d = sym here ∙ at in
        let same : c ≡ d = cc (both) in
        subst (λ n. IsCutFor ts (slice_get ps n) n d) (sym e) (subst (λ (x : Cut). IsCutFor ts (slice_get ps k) k x) same is)
    | inr far ↦ are.each_is j d (sym (at_set_other cuts k j (Some c) far) ∙ at)
  ];
}

-- ..and a piece of it wasn't taken
pub parted_put : (cuts : List (Option Cut)) (next : List ℕ) (k n : ℕ) (c : Cut) → k < length cuts → has_more (cutting_of c) ≡ true
    → next ≡ numbers (λ j. opens cuts j || eqb j k) n → next ≡ numbers (opens (slice_set cuts k (Some c))) n
parted_put cuts next k n c low more is = is ∙ numbers_same (λ j. opens cuts j || eqb j k) (opens (slice_set cuts k (Some c))) n (λ j under. here j)
  where
    or_true : (b : Bool) → (b || true) ≡ true
    or_true true = refl
    or_true false = refl

    or_false : (b : Bool) → (b || false) ≡ b
    or_false true = refl
    or_false false = refl

    here : (j : ℕ) → (opens cuts j || eqb j k) ≡ opens (slice_set cuts k (Some c)) j
    here j = elim (cases_eq j k) [
      | inl e ↦
          let at : at_slot (slice_set cuts k (Some c)) j ≡ Some c = ap (at_slot (slice_set cuts k (Some c))) e ∙ at_set cuts k (Some c) low in
          ap (λ b. opens cuts j || b) (eq-eqb j k e) ∙ (or_true (opens cuts j)
          ∙ sym (ap (λ (o : Option Cutting). option_map_or has_more o false) (at_map cutting_of (slice_set cuts k (Some c)) j ∙ ap (option_map cutting_of) at) ∙ more))
      | inr far ↦
          ap (λ b. opens cuts j || b) (ne_eqb j k far) ∙ (or_false (opens cuts j)
          ∙ sym (open_same (map (option_map cutting_of) cuts) (map (option_map cutting_of) (slice_set cuts k (Some c))) j
          (at_map cutting_of (slice_set cuts k (Some c)) j ∙ (ap (option_map cutting_of) (at_set_other cuts k j (Some c) far) ∙ sym (at_map cutting_of cuts j)))))
    ]

pub more_first : (rows : ℕ) (cuts : List ℕ) → 1 < length (cut_at rows cuts).ends → has_more (Parted (one_taken (cut_at rows cuts))) ≡ true
more_first rows cuts several = lt-ltb 1 (length (cut_at rows cuts).ends) several

-- what goes out of a task that is cut
pub goes_cut : (cs ds : List (Option Cutting)) (whole first : Piece) (task : Box CutTask) (cuts : List ℕ) → first.number ≡ whole.number
    → recipe_of first.recipe ≡ recipe_of whole.recipe → may_cut (recipe_of whole.recipe) ≡ true → 1 < length (cut_at (rows_for whole) cuts).ends
    → IsNext (cut_at (rows_for whole) cuts) first → task.value.pieces ≡ one_taken (cut_at (rows_for whole) cuts)
    → IsPut cs whole.number (Some (Parted task.value.pieces)) ds → GoesCut cs cuts first ds
goes_cut cs ds whole first task cuts number recipe may several next pieces put =
    let e : rows_for whole ≡ rows_for first = ap (λ (r : Recipe). rows_of (known_of r).shape) (sym recipe) in (
      ap may_cut recipe ∙ may,
      subst (λ n. 1 < length (cut_at n cuts).ends) e several,
      subst (λ n. IsNext (cut_at n cuts) first) e next,
      subst (λ n. IsPut cs first.number (Some (Parted (one_taken (cut_at n cuts)))) ds) e
          (subst (λ n. IsPut cs n (Some (Parted (one_taken (cut_at (rows_for whole) cuts)))) ds) (sym number)
          (subst (λ (p : Parts). IsPut cs whole.number (Some (Parted p)) ds) pieces put)),
    )
