use Rattle.std.proofs.Common.{◌≡◌, ◌*◌, ◌+◌, ◌/◌, ◌%◌, ◌<◌, ◌≤◌, ℕ, get_or, length}
use Rattle.algebra.specs.IndexOperators.{index_eval_of}
use Rattle.lanes.proofs.indexed.write_places.Given as goal

abbrev pub invariant-loop-k : goal.invariant-loop-k
invariant-loop-k l = record {
  place : l.row * l.cols + l.col ≡ l.base + l.k;
  col : l.col < l.cols;
  row : l.row ≤ l.base + l.k;
  long : length l.words ≡ length l.fn.words;
  made : (at : ℕ) → at < l.k → get_or l.words at 0
      ≡ index_eval_of l.op.kind l.op.domain (get_or l.fn.words at 0) ((l.base + at) / l.cols) ((l.base + at) % l.cols) l.s;
  rest : (at : ℕ) → l.k ≤ at → get_or l.words at 0 ≡ get_or l.fn.words at 0;
}
