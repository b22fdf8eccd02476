use Rattle.std.proofs.Common.{◌≡◌, ◌+◌, ◌-◌, ◌<◌, ◌++◌, ◌∷◌, [], List, length, map, take, get_or}
use Rattle.std.specs.Vec.{vec_len, vec_capacity}
use Rattle.terms.specs.Terms.{AreSums}
use Rattle.terms.specs.declared.term.Term.{Term}
use Rattle.terms.proofs.sums.push_sums.Given as goal

abbrev pub invariant-loop-term : goal.invariant-loop-term
invariant-loop-term l = record {
  sums : List Term;
  are_sums : AreSums l.semiring.add.op (take (l.term-index + 1) l.terms) (sums ++ l.sum ∷ []);
  ends : l.lists.ends ≡ l.initial.lists.ends;
  inner : l.lists.inner.items ≡ l.initial.lists.inner.items ++ map (λ s. s.col) sums;
  words : l.lists.words.items ≡ l.initial.lists.words.items ++ map (λ s. s.word) sums;
  inner_room : vec_len l.lists.inner + (length l.rest - l.term-index) < vec_capacity l.lists.inner;
  words_room : vec_len l.lists.words + (length l.rest - l.term-index) < vec_capacity l.lists.words;
  last : (d : Term) → l.sum.col ≡ (get_or l.terms l.term-index d).col;
}
