use Rattle.std.proofs.Common.{◌≡◌, ℕ, ◌<◌, ◌≤◌, length, get_or}
use Rattle.masks.proofs.JoinedWords.{placed_word}
use Rattle.masks.proofs.join.put_alone.Given as goal

abbrev pub invariant-loop-k : goal.invariant-loop-k
invariant-loop-k l = record {
  long : length l.words ≡ length l.fn.words;
  done : (n : ℕ) → n < l.k → get_or l.words n 0 ≡ placed_word l.fn.sides l.fn.lefts l.fn.rights l.fn.words n;
  rest : (n : ℕ) → l.k ≤ n → n < length l.fn.words → get_or l.words n 0 ≡ get_or l.fn.words n 0;
}
