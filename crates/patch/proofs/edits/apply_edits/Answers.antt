use Rattle.std.proofs.Common.{◌∙◌, List, ap, rules}
use Rattle.std.specs.List.Sorted.{IsStableByKey}
use Rattle.std.proofs.lemmas.Fn.{always_returns_same}
use Rattle.std.proofs.lemmas.List.Sorted.{All-permutation}
use Rattle.store.specs.Stored.{content_of}
use Rattle.patch.specs.declared.edits.Edit.{Edit}
use Rattle.patch.specs.Edits.{IsInside, edited, place_of}
use Rattle.patch.proofs.EditLaws.{edited-sorted, order_of_sorted, position_cmp}
use Rattle.patch.proofs.edits.apply_edits.Goals as goal
use Rattle.patch.proofs.edits.apply_edits.Goals.{then-is_well_filled+in_ok-apply, else-is_well_filled+in_ok-sort_by_key+in_ok-merge_into}

pub merge_into-requires-clause-inside : goal.merge_into-requires-clause-inside
merge_into-requires-clause-inside c =
    let inside = IsInside c.args.store.now.rows c.args.store.now.cols in
    rw c.deref-else-is_well_filled.ensures.value (All-permutation inside c.args.edits.now.items c.sort_by_key.new.self.items c.in_ok-sort_by_key.ensures.permutation c.requires)

pub merge_into-requires-clause-order : goal.merge_into-requires-clause-order
merge_into-requires-clause-order c =
    let sorted = c.sort_by_key.new.self.items in
    rw c.deref-else-is_well_filled.ensures.value (order_of_sorted sorted (c.in_ok-sort_by_key.ensures.sorted place_of (always_returns_same _ _ _ (λ a r f' k. search rules))))

pub returns-in_err-merge_into-clause-inside : goal.returns-in_err-merge_into-clause-inside
returns-in_err-merge_into-clause-inside c =
    let inside = IsInside c.args.store.now.rows c.args.store.now.cols in
    All-permutation inside c.args.edits.now.items c.sort_by_key.new.self.items c.in_ok-sort_by_key.ensures.permutation c.requires

pub returns-in_err-merge_into-clause-meaning : goal.returns-in_err-merge_into-clause-meaning
returns-in_err-merge_into-clause-meaning c =
    let sorted = c.sort_by_key.new.self.items in
    let stable : IsStableByKey place_of position_cmp c.args.edits.now.items sorted = c.in_ok-sort_by_key.ensures.stable place_of (always_returns_same _ _ _ (λ a r f' k. search rules)) in
    rw c.in_err-merge_into.ensures.refused (edited-sorted c.args.edits.now.items sorted stable (content_of c.args.store.now))

pub returns-then-not-few-clause-meaning : goal.returns-then-not-few-clause-meaning
returns-then-not-few-clause-meaning c i j =
    let old = content_of c.args.store.now in
    let edits = c.args.edits.now.items in
    rw (c.clear.ensures.items, c.settle.ensures) (elim c.if-is_well_filled.branch [
      | then-is_well_filled+in_ok-apply w ↦ rw w.store-is (w.in_ok-apply.ensures.content i j ∙ ap (λ (es : List Edit). edited es old i j) w.deref.ensures.value)
      | else-is_well_filled+in_ok-sort_by_key+in_ok-merge_into w ↦
          let sorted = w.sort_by_key.new.self.items in
          let stable : IsStableByKey place_of position_cmp edits sorted = w.in_ok-sort_by_key.ensures.stable place_of (always_returns_same _ _ _ (λ a r f' k. search rules)) in
          rw w.store-is (w.in_ok-merge_into.ensures.content i j ∙ ap (λ (es : List Edit). edited es old i j) w.deref-else-is_well_filled.ensures.value ∙ edited-sorted edits sorted stable old i j)
    ])
