-- Each place is that of the next position.
use Rattle.std.proofs.Common.{◌≡◌, ◌+◌, ◌/◌, ◌%◌, ◌<◌, ◌∙◌, ap, arith, inl, inr, length, refl, sym}
use Rattle.std.proofs.lemmas.Bool.{cases_eq}
use Rattle.std.proofs.lemmas.List.{get_or-set_other, get_or-set_same, length-set}
use Rattle.std.proofs.lemmas.Nat.{div-mul-add, mod-mul-add}
use Rattle.lanes.proofs.indexed.write_places.Goals as goal

pub loop-k-preserved : goal.loop-k-preserved
loop-k-preserved c =
    let s = c.loop-k in
    let h = s.invariant in
    let cols = c.args.cols in
    let next = c.next_position.ensures in
    let long = h.long in
    let here : s.k < length s.words = omega (arith, c.loop-k-test.true) in
    let place = c.args.base + s.k in
    let row_is : place / cols ≡ s.row = ap (λ n. n / cols) (sym h.place) ∙ div-mul-add s.row cols s.col h.col in
    let col_is : place % cols ≡ s.col = ap (λ n. n % cols) (sym h.place) ∙ mod-mul-add s.row cols s.col h.col in
    let more : c.args.base + s.k + 1 ≡ c.args.base + (s.k + 1) = omega arith in
    record {
      place = next.place ∙ ap (λ n. n + 1) h.place ∙ more;
      col = next.col;
      row = let up = next.row in let low = h.row in omega arith;
      long = length-set s.words s.k c.eval.result ∙ h.long;
      made = λ at below. elim (cases_eq at s.k) [
        | inl same ↦ rw same (get_or-set_same s.words s.k c.eval.result 0 here ∙ c.eval.ensures ∙ rw (row_is, col_is, h.rest s.k (omega arith)) refl)
        | inr other ↦ get_or-set_other s.words s.k at c.eval.result 0 other ∙ h.made at (omega (arith, other))
      ];
      rest = λ at past. get_or-set_other s.words s.k at c.eval.result 0 (λ e. absurd (omega (arith, e))) ∙ h.rest at (omega arith);
    }
