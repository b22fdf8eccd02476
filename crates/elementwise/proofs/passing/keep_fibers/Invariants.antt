use Rattle.std.proofs.Common.{◌≤◌, ◌∷◌, length, take}
use Rattle.elementwise.specs.Kept.{is_passed}
use Rattle.elementwise.proofs.KeptFibers.{ArePassing}
use Rattle.elementwise.proofs.passing.keep_fibers.Given as goal

abbrev pub invariant-loop-at : goal.invariant-loop-at
invariant-loop-at l = record {
  within : l.start ≤ length l.fibers.inner.now;
  held : (l.kept.count ≤ length l.kept.inner.items) × (l.kept.count ≤ length l.kept.words.items);
  passing : ArePassing (is_passed l.test) l.fibers.from (l.fibers.head ∷ l.fibers.others.now) l.fibers.inner.now l.fibers.words.now l.ends.items (take l.kept.count l.kept.inner.items) (take l.kept.count l.kept.words.items) l.at l.start;
}
