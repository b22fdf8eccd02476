use Rattle.std.proofs.Common.{ℕ, ◌≢◌, ◌<◌, MatchOption, get_or}
use Rattle.store.specs.declared.blocks.RowSpan.{RowSpan}
use Rattle.store.specs.Blocks.{Misses}
use Rattle.store.proofs.blocks.only_one.Given as goal

-- of the spans so far each other one has none of the rows
abbrev pub invariant-loop-k : goal.invariant-loop-k
invariant-loop-k l = MatchOption l.at
    ((m : ℕ) (span : RowSpan) → m < l.k → Misses l.range.start l.range.end (get_or l.spans m span))
    (λ at. (m : ℕ) (span : RowSpan) → m < l.k → m ≢ at → Misses l.range.start l.range.end (get_or l.spans m span))
