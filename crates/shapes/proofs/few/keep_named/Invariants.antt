use Rattle.std.proofs.Common.{ℕ, ◌≤◌, false, None}
use Rattle.model.specs.Indices.{Indices}
use Rattle.store.specs.Stored.{content_of}
use Rattle.shapes.specs.Lists.{with_rows}
use Rattle.shapes.specs.Named.{IsNamed}
use Rattle.shapes.specs.Rows.{IsMade}
use Rattle.shapes.specs.Sides.{one_side}
use Rattle.shapes.proofs.FewLaws.{IsUpTo}
use Rattle.shapes.proofs.few.keep_named.Given as goal

abbrev pub invariant-loop-index : goal.invariant-loop-index
invariant-loop-index l = record {
  up_to : IsUpTo l.listed l.range.start l.range.end l.index-index l.row;
  made : (rows cols : Indices) (size : ℕ) → IsNamed rows cols l.named → l.range.end ≤ size → IsMade (with_rows l.listed (one_side false size l.a.cols rows cols (content_of l.a)) (λ i j. None)) l.range.start l.row l.a.cols l.lists;
}
