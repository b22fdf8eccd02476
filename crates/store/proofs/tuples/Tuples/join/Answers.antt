-- Rows go on, or all is listed that doesn't.
use Rattle.std.proofs.Common.{◌≡◌, ◌++◌, ◌∙◌, ap, append_assoc, arith, refl, sym}
use Rattle.model.specs.Entries.{Precedes, entry_at}
use Rattle.store.specs.Fibers.{entries_in}
use Rattle.store.specs.Tuples.{listed}
use Rattle.store.proofs.JoinLaws.{listed_others, some_ends, up_to_others}
use Rattle.store.proofs.Order.{all_append_right, all_pairs_right}
use Rattle.store.proofs.tuples.Tuples.join.Goals as goal
use Rattle.store.proofs.tuples.Tuples.join.Goals.{else-is_none_listed-via-then-is_none_listed+else-leads, else-is_none_listed-via-else-is_none_listed}

pub invariant_of-result : goal.invariant_of-result
invariant_of-result g c =
    let put = c.in_ok-put_behind.ensures in
    let ours = entries_in c.self.inside.rows in
    let theirs = c.others.inside in
    let more = entries_in theirs.rows in
    let its = c.others.invariant in
    let there = c.leads.ensures.some c.if-leads.true in
    record {
      are_rows = record {
        flat = put.flat;
        up_to = rw put.entries (up_to_others ours more theirs.row theirs.col there (c.leads.ensures.yes c.if-leads.true) its.are_rows.up_to);
        last = λ _ h. its.are_rows.last (some_ends theirs.rows.ends.items theirs.rows.inner.items theirs.rows.words.items there)
            (all_append_right (λ e. Precedes e (entry_at theirs.row theirs.col 0)) ours more (rw put.entries at h));
      };
      some = its.some;
      unordered = λ some order.
          let list = listed theirs.joined.items ++ theirs.list.items in
          its.unordered some (all_pairs_right Precedes ours (more ++ list) (rw (put.entries, append_assoc ours more list) at order));
    }

pub invariant_of-result-2 : goal.invariant_of-result-2
invariant_of-result-2 g c =
    let ours = entries_in c.self.inside.rows in
    let list = c.self.inside.list.items in
    let lists = listed c.self.inside.joined.items in
    let theirs = c.others.inside in
    let more = entries_in theirs.rows in
    let its = listed theirs.joined.items in
    let fibers : c.of_lists.result.entries ≡ more = c.of_lists.ensures ∙ rw (c.deref-3.ensures.value, c.deref-4.ensures.value, c.deref-5.ensures.value) refl in
    let all : listed c.join_lists.new.joined.items ++ theirs.list.items ≡ ((lists ++ list) ++ more) ++ (its ++ theirs.list.items) =
    ap (λ es. es ++ theirs.list.items) (c.in_ok-join_lists.ensures.all ∙ rw (c.in_ok-list_fibers.ensures, fibers) (ap (λ es. es ++ its) (sym (append_assoc lists list more))))
    ∙ append_assoc ((lists ++ list) ++ more) its theirs.list.items in
    record {
      are_rows = c.self.invariant.are_rows;
      some = c.in_ok-join_lists.ensures.some;
      unordered = λ some order.
          listed_others ours (lists ++ list) more (its ++ theirs.list.items) c.self.invariant.unordered
          (λ none there before. elim c.else-is_none_listed.branch [
            | else-is_none_listed-via-then-is_none_listed+else-leads w ↦ w.leads.ensures.no w.if-leads.false there before
            | else-is_none_listed-via-else-is_none_listed w ↦
                absurd (let there = rw (c.deref.ensures.value, c.deref-2.ensures.value) at c.is_none_listed.ensures.no w.if-is_none_listed.false in omega arith)
          ])
          c.others.invariant.unordered (rw all at some) (rw all at order);
    }
