use Rattle.std.proofs.Common.{◌≡◌, ◌≤◌, ◌-◌, ◌++◌, drop, length, take}
use Rattle.elementwise.specs.Kept.{kept_indices, kept_words, is_passed}
use Rattle.elementwise.proofs.passing.pass_fiber.Given as goal

abbrev pub invariant-loop-start : goal.invariant-loop-start
invariant-loop-start l = record {
  within : l.start ≤ length l.inner;
  held : (l.kept.count ≤ length l.kept.inner.items) × (l.kept.count ≤ length l.kept.words.items);
  indices : take l.kept.count l.kept.inner.items ++ kept_indices (is_passed l.test l.outer) (drop l.start l.inner)
      (drop l.start l.words)
      ≡ take l.fn.kept.count l.fn.kept.inner.items ++ kept_indices (is_passed l.test l.outer) l.inner l.words;
  beside : take l.kept.count l.kept.words.items ++ kept_words (is_passed l.test l.outer) (drop l.start l.inner)
      (drop l.start l.words)
      ≡ take l.fn.kept.count l.fn.kept.words.items ++ kept_words (is_passed l.test l.outer) l.inner l.words;
}

abbrev pub decreases-loop-start : goal.decreases-loop-start
decreases-loop-start l = length l.inner - l.start
