use Rattle.std.proofs.Common.{◌≡◌, length, ◌-◌, ◌+◌}
use Rattle.elementwise.proofs.Pairing.{IsPairing}
use Rattle.elementwise.proofs.pairs.pair_others.Given as goal

abbrev pub invariant-loop-i : goal.invariant-loop-i
invariant-loop-i l = record {
  pairing : IsPairing l.left l.left_words l.right l.right_words l.i l.j l.k l.inner l.lefts l.rights;
  inner_long : length l.inner ≡ length l.fn.inner;
  lefts_long : length l.lefts ≡ length l.fn.inner;
  rights_long : length l.rights ≡ length l.fn.inner;
}

abbrev pub decreases-loop-i : goal.decreases-loop-i
decreases-loop-i l = (length l.left - l.i) + (length l.right - l.j)
