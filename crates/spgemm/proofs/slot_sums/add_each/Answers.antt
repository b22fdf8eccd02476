use Rattle.std.proofs.Common.{◌<◌, ◌++◌, append-nil, arith, length, get_or, subst, sym}
use Rattle.std.proofs.lemmas.List.{take_all}
use Rattle.model.specs.Entries.{entry_at}
use Rattle.store.specs.Fibers.{entries_along}
use Rattle.store.proofs.Places.{length_row, row_at}
use Rattle.spgemm.specs.Slots.{AreSlotSums}
use Rattle.terms.specs.Terms.{times_row}
use Rattle.spgemm.proofs.SlotSums.{product_at_slot, product_at_no_slot}
use Rattle.spgemm.proofs.slot_sums.add_each.Goals as goal
use Rattle.spgemm.proofs.slot_sums.add_each.Goals.{in-Some, in_default}

pub add_at-requires : goal.add_at-requires
add_at-requires c = omega (arith, c.in-Some.ensures.0)

pub loop-k-init : goal.loop-k-init
loop-k-init c = λ terms here. subst (λ ts. AreSlotSums c.args.semiring.add.op c.args.slots.now.cols.items ts c.args.sums.now) (sym (append-nil terms)) here

pub loop-k-preserved : goal.loop-k-preserved
loop-k-preserved c = λ terms here.
    let row = entries_along 0 c.args.cols.now c.args.words.now in
    let s = c.loop-k in
    let d = entry_at 0 (get_or c.args.cols.now s.k 0) (get_or c.args.words.now s.k 0) in
    let long = length_row 0 c.args.cols.now c.args.words.now c.requires.lengths in
    let within : s.k < length row = omega (arith, c.loop-k-test.true) in
    let at = row_at 0 c.args.cols.now c.args.words.now s.k d c.requires.lengths c.loop-k-test.true in
    let add = c.args.semiring.add.op in
    let mul = c.args.semiring.multiply in
    let slots = c.args.slots.now.cols.items in
    elim c.match-find.branch [
      | in-Some w ↦ rw (w.sums-is, w.add_at.ensures, w.eval.ensures) (product_at_slot add mul slots terms s.sums c.args.word w.in-Some.at row s.k d at within (s.invariant terms here) c.requires.rising w.in-Some.ensures.0 w.in-Some.ensures.1)
      | in_default w ↦ rw w.sums-is (product_at_no_slot add mul slots terms s.sums c.args.word row s.k d at within (s.invariant terms here) w.in_default.ensures)
    ]

pub returns : goal.returns
returns c = λ terms here.
    let row = entries_along 0 c.args.cols.now c.args.words.now in
    let long = length_row 0 c.args.cols.now c.args.words.now c.requires.lengths in
    let all = take_all c.loop-k.k row (omega (arith, c.loop-k-test.false)) in
    subst (λ row. AreSlotSums c.args.semiring.add.op c.args.slots.now.cols.items (terms ++ times_row c.args.semiring.multiply c.args.word row) c.loop-k.sums) all (c.loop-k.invariant terms here)
