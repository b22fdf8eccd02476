-- Cuts, and where the pieces between them begin and end.
use Rattle.std.proofs.Common.{◌≡◌, ◌∙◌, ℕ, zero, suc, ◌<◌, ◌≤◌, ◌+◌, ◌-◌, ◌&&◌, Bool, true, false, List, [], ◌∷◌, ◌++◌, length, arith}
use Rattle.std.proofs.Common.{Err, IfOk, Ok, Result, Some, cond, get_or, nat_lt, ne_eqb, refl, replicate, slice_get, slice_index, sym, ap, subst}
use Rattle.std.specs.Result.{result_ok}
use Rattle.std.proofs.lemmas.Bool.{ltb-true}
use Rattle.std.proofs.lemmas.List.{length-append, length-replicate}
use Rattle.std.proofs.lemmas.Option.{slice_get_within}
use Rattle.kernel.specs.declared.block.Block.{Block}
use Rattle.pieces.specs.declared.part.Part.{Part}
use Rattle.pieces.specs.declared.part.Part.TheVariants.{Due, Given, Joined}
use Rattle.pieces.specs.Parts.{IsKept, all_given, end_of, ends_of, parts_of, start_of, to_come, used_cuts}
use Rattle.pieces.proofs.PartLaws.{due_open, get_replicate, to_come_due}

-- each is above the one before
abbrev Rises : ℕ → List ℕ → Type 0
Rises from [] = Unit {0}
Rises from (e ∷ es) = (from < e) × Rises e es

rises_cuts : (last rows : ℕ) (cuts : List ℕ) → last < rows → Rises last (used_cuts last rows cuts ++ rows ∷ [])
rises_cuts last rows [] h = (h, tt)
rises_cuts last rows (c ∷ cs) h = go (rises_cuts c rows cs) (rises_cuts last rows cs h) (nat_lt last c) (nat_lt c rows) refl refl
  where
    go : (c < rows → Rises c (used_cuts c rows cs ++ rows ∷ [])) → Rises last (used_cuts last rows cs ++ rows ∷ []) → (a b : Bool)
        → nat_lt last c ≡ a → nat_lt c rows ≡ b → Rises last (cond (a && b) (c ∷ used_cuts c rows cs) (used_cuts last rows cs) ++ rows ∷ [])
    go used unused true true above below = (ltb-true last c above, used (ltb-true c rows below))
    go used unused true false above below = unused
    go used unused false b above below = unused

rises_at : (from : ℕ) (es : List ℕ) (k : ℕ) → Rises from es → k < length es → get_or (from ∷ es) k 0 < get_or es k 0
rises_at from [] k h low = absurd (omega arith)
rises_at from (e ∷ es) zero h low = h.0
rises_at from (e ∷ es) (suc k) h low = rises_at e es k h.1 (omega arith)

start_is : (ends : List ℕ) (k : ℕ) → start_of ends k ≡ get_or (0 ∷ ends) k 0
start_is ends zero = refl
start_is ends (suc k) = let e : suc k - 1 ≡ k = omega arith in rw (ne_eqb (suc k) 0 (λ z. omega (arith, z))) (ap (slice_index ends) e)

-- where a piece ends, the next begins
pub start_next : (ends : List ℕ) (k : ℕ) → start_of ends (k + 1) ≡ end_of ends k
start_next ends k = let e : k + 1 ≡ suc k = omega arith in ap (start_of ends) e ∙ start_is ends (suc k)

-- ---- where rows were cut

end_last : (es : List ℕ) (rows : ℕ) → end_of (es ++ rows ∷ []) (length (es ++ rows ∷ []) - 1) ≡ rows
end_last es rows = ap (end_of (es ++ rows ∷ [])) at ∙ go es
  where
    at : length (es ++ rows ∷ []) - 1 ≡ length es
    at = omega (arith, length-append es (rows ∷ []))

    go : (xs : List ℕ) → get_or (xs ++ rows ∷ []) (length xs) 0 ≡ rows
    go [] = refl
    go (x ∷ xs) = go xs

-- cuts are used only where there are rows
rows_there : (last rows : ℕ) (cuts : List ℕ) → 0 < length (used_cuts last rows cuts) → last < rows
rows_there last rows [] h = absurd (omega arith)
rows_there last rows (c ∷ cs) h = go (rows_there last rows cs) (nat_lt last c) (nat_lt c rows) refl refl h
  where
    go : (0 < length (used_cuts last rows cs) → last < rows) → (a b : Bool) → nat_lt last c ≡ a → nat_lt c rows ≡ b
        → 0 < length (cond (a && b) (c ∷ used_cuts c rows cs) (used_cuts last rows cs)) → last < rows
    go rest true true above below some = omega (arith, ltb-true last c above, ltb-true c rows below)
    go rest true false above below some = rest some
    go rest false b above below some = rest some

-- rows that were cut are kept as pieces
pub kept_cut : (rows : ℕ) (cuts ends : List ℕ) (parts : List Part) (room : List Block) (count capacity : ℕ) → ends ≡ ends_of rows cuts
    → parts ≡ replicate count Due → count ≡ length ends → 2 ≤ count → room ≡ [] → count ≤ capacity
    → IsKept (parts_of ends 0 parts) count room capacity
kept_cut rows cuts ends parts room count capacity are due counted two empty roomy = record {
  parts = record {
    several = omega (arith, counted, two);
    last = refl;
    rising = λ k low. subst (λ n. n < end_of ends k) (sym (start_is ends k)) (rises_at 0 ends k rises low);
    sized = ap length due ∙ (length-replicate count Due ∙ counted);
    within = omega arith;
    due = λ k above low. ap (λ ps. slice_get ps k) due ∙ get_replicate count k Due (omega (arith, counted, low));
    fits = λ k block is. absurd (no_other k (Given block) is (λ e. cc (e)));
    joined = λ k j is low. absurd (no_other k Joined is (λ e. cc (e)));
    pending = subst (λ ps. all_given ps ≡ false) (sym due) (due_open count (omega (arith, two)));
  };
  counted = sym (ap to_come due ∙ to_come_due count);
  empty = empty;
  roomy = λ some. omega (arith, counted, roomy);
}
  where
    rises : Rises 0 ends
    rises = subst (Rises 0) (sym are) (rises_cuts 0 rows cuts (rows_there 0 rows cuts (omega (arith, ap length are, counted, two, length-append (used_cuts 0 rows cuts) (rows ∷ [])))))

    no_other : (k : ℕ) (part : Part) → slice_get parts k ≡ Some part → (Due ≡ part → ⊥) → ⊥
    no_other k part is other =
        let low : k < count = omega (arith, slice_get_within parts k part is, ap length due, length-replicate count Due) in
        let e : Some Due ≡ Some part = sym (get_replicate count k Due low) ∙ (ap (λ ps. slice_get ps k) (sym due) ∙ is) in
        other (cc (e))

pub from_ok : {T E : Type 0} (P : T → Type 0) (r : Result T E) (x : T) → IfOk r P → result_ok r ≡ Some x → P x
from_ok P (Ok y) x h is = let e : y ≡ x = cc (is) in subst P e h
from_ok P (Err e) x h is = absurd cc
