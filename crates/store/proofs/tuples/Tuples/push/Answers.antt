-- The entry goes on from the rows, or it is listed and all of them aren't in order.
use Rattle.std.proofs.Common.{◌++◌, ◌∷◌, [], ap, append_assoc, arith, length, sym}
use Rattle.store.specs.Fibers.{entries_in}
use Rattle.store.specs.Tuples.{listed}
use Rattle.store.proofs.TupleLaws.{last_there, listed_more, up_to_last}
use Rattle.store.proofs.tuples.Tuples.push.Goals as goal
use Rattle.store.proofs.tuples.Tuples.push.Goals.{else-is_none_listed-via-then-is_none_listed+else-goes_on, else-is_none_listed-via-else-is_none_listed}

pub invariant_of-self : goal.invariant_of-self
invariant_of-self c =
    let kept = c.in_err-push_last.ensures in
    let before = c.self.invariant.are_rows in
    record {
      are_rows = record {
        flat = kept.flat;
        up_to = rw kept.err before.up_to;
        last = λ some h. before.last (rw kept.ends at some) (rw kept.err at h);
      };
      some = c.self.invariant.some;
      unordered = λ some order. c.self.invariant.unordered some (rw kept.err at order);
    }

pub invariant_of-self-then-goes_on : goal.invariant_of-self-then-goes_on
invariant_of-self-then-goes_on c =
    let put = c.in_ok-push_last.ensures in
    let es = entries_in c.self.inside.rows in
    let none = ap length (rw (c.deref.ensures.value, c.deref-2.ensures.value) at c.is_none_listed.ensures.yes c.if-is_none_listed.true) in
    record {
      are_rows = record {
        flat = put.flat;
        up_to = rw put.ok (up_to_last es c.args.entry (c.goes_on.ensures.yes c.if-goes_on.true));
        last = λ some h. last_there es c.args.entry (rw put.ok at h);
      };
      some = c.self.invariant.some;
      unordered = λ some order. absurd (omega arith);
    }

pub invariant_of-self-in-Continue-branch-2 : goal.invariant_of-self-in-Continue-branch-2
invariant_of-self-in-Continue-branch-2 c =
    let list = c.self.inside.list.items in
    let joined = listed c.self.inside.joined.items in
    let e = c.args.entry in
    record {
      are_rows = c.self.invariant.are_rows;
      some = c.self.invariant.some;
      unordered = λ some order.
          listed_more (entries_in c.self.inside.rows) (joined ++ list) e c.self.invariant.unordered
          (λ none. elim c.else-is_none_listed.branch [
            | else-is_none_listed-via-then-is_none_listed+else-goes_on w ↦ w.goes_on.ensures.no w.if-goes_on.false
            | else-is_none_listed-via-else-is_none_listed w ↦
                absurd (let there = rw (c.deref.ensures.value, c.deref-2.ensures.value) at c.is_none_listed.ensures.no w.if-is_none_listed.false in omega arith)
          ])
          (rw (c.in_ok-push_listed.ensures.ok, sym (append_assoc joined list (e ∷ []))) at order);
    }

pub invariant_of-self-in_err-push_listed : goal.invariant_of-self-in_err-push_listed
invariant_of-self-in_err-push_listed c =
    let kept = c.in_err-push_listed.ensures.err in
    record {
      are_rows = c.self.invariant.are_rows;
      some = c.self.invariant.some;
      unordered = λ some order. c.self.invariant.unordered (rw kept at some) (rw kept at order);
    }
