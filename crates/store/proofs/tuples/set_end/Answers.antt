-- The last fiber goes on, or one of its own ends.
use Rattle.std.proofs.Common.{◌≡◌, ◌∙◌, ℕ, ◌+◌, List, [], ◌∷◌, ◌++◌, length, take, slice_set, sym, arith, le_of_eq}
use Rattle.std.proofs.lemmas.List.{length-set, take_all, take_more_set}
use Rattle.store.specs.Fibers.{end_at}
use Rattle.store.proofs.tuples.set_end.Goals as goal

-- a list whose last item is another
last_set : {X : Type 0} (xs : List X) (i : ℕ) (x : X) → i + 1 ≡ length xs → slice_set xs i x ≡ take i xs ++ x ∷ []
last_set xs i x one =
    let long : length (slice_set xs i x) ≡ i + 1 = length-set xs i x ∙ sym one in
    sym (take_all (i + 1) (slice_set xs i x) (le_of_eq long)) ∙ take_more_set xs i x (omega arith)

pub returns-then-count-len-clause-ok : goal.returns-then-count-len-clause-ok
returns-then-count-len-clause-ok c =
    let others = rw (c.deref.ensures.value) at c.count_others-count.ensures in
    let less = c.if-count-len.true in
    let long = c.len.ensures in
    record {
      others = c.count_others-count.result;
      are_others = others;
      ends = last_set c.args.ends.now.items c.count_others-count.result (end_at c.args.outer c.args.end) (others.last (omega arith));
    }
