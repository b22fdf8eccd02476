use Rattle.std.proofs.Common.{◌≡◌, ◌++◌, ◌+◌, ◌-◌, List, append-nil, arith, get_or, subst, sym, take}
use Rattle.store.specs.Fibers.{entries_along}
use Rattle.store.proofs.Places.{length_row, row_at}
use Rattle.model.specs.Entries.{entry_at}
use Rattle.spgemm.specs.Slots.{AreSlotSums}
use Rattle.terms.specs.Terms.{times_row}
use Rattle.terms.specs.declared.term.Term.{Term}
use Rattle.spgemm.proofs.SlotSearch.{place_found, search_away, search_end, search_found, search_missed, search_start}
use Rattle.spgemm.proofs.SlotSums.{product_at_slot, products_away, products_left}
use Rattle.spgemm.proofs.slot_sums.add_found.Goals as goal
use Rattle.spgemm.proofs.slot_sums.add_found.Goals.{then-from-cols+then-cols-from, else-from-cols, else-from-cols-via-then-from-cols+else-cols-from, else-from-cols-via-else-from-cols}

pub loop-at-init : goal.loop-at-init
loop-at-init c = record {
  searched = search_start c.args.slots.now c.args.cols.now c.first_slot-at.result c.requires.cols c.first_slot-at.ensures.front;
  sums = λ terms here. subst (λ ts. AreSlotSums c.args.semiring.add.op c.args.slots.now ts c.args.sums.now) (sym (append-nil terms)) here;
}

pub place_from-from-requires-clause-bound : goal.place_from-from-requires-clause-bound
place_from-from-requires-clause-bound c = c.loop-at.invariant.searched.high

pub loop-at-preserved : goal.loop-at-preserved
loop-at-preserved c =
    let s = c.loop-at in
    let slots = c.args.slots.now in
    let cols = c.args.cols.now in
    let words = c.args.words.now in
    let add = c.args.semiring.add.op in
    let mul = c.args.semiring.multiply in
    let end = c.place_from-from.result in
    let inside = c.loop-at-test.true in
    let found = c.place_from-from.ensures in
    let searched = s.invariant.searched in
    let is = place_found slots cols s.at s.from end searched inside found.behind found.bound found.passed found.left in
    let row = entries_along 0 cols words in
    let long = length_row 0 cols words c.requires.lengths in
    let low = is.low in
    let high = is.high in
    let on : s.from + (end - s.from) ≡ end = omega arith in
    let passed : (terms : List Term) → AreSlotSums add slots terms c.args.sums.now → AreSlotSums add slots (terms ++ times_row mul c.args.word (take end row)) s.sums =
    λ terms here. subst (λ n. AreSlotSums add slots (terms ++ times_row mul c.args.word (take n row)) s.sums) on
    (products_away add mul slots terms s.sums c.args.word cols words c.requires.lengths (end - s.from) s.from (omega arith)
    (λ j least less. search_away slots cols s.at s.from end searched inside c.requires.rising is j least (omega arith)) (s.invariant.sums terms here)) in
    elim c.if-from-cols.branch [
      | then-from-cols+then-cols-from w ↦
          let e = entry_at 0 (get_or cols end 0) (get_or words end 0) in
          let at = row_at 0 cols words end e c.requires.lengths w.if-from-cols.true in
          rw (w.sums-is, w.from-is, w.add_at.ensures, w.eval-product.ensures) (record {
            searched = search_found slots cols s.at s.from end searched inside c.requires.rising c.requires.cols is w.if-from-cols.true w.if-cols-from.true;
            sums = λ terms here.
                product_at_slot add mul slots terms s.sums c.args.word s.at row end e at (omega (arith, w.if-from-cols.true)) (passed terms here) c.requires.rising inside (sym w.if-cols-from.true);
          })
      | else-from-cols w ↦ elim w.else-from-cols.branch [
        | else-from-cols-via-then-from-cols+else-cols-from v ↦ rw (w.sums-is, w.from-is) (record {
          searched = search_missed slots cols s.at s.from end searched inside c.requires.rising c.requires.cols is (λ room. v.if-cols-from.false);
          sums = λ terms here. passed terms here;
        })
        | else-from-cols-via-else-from-cols v ↦ rw (w.sums-is, w.from-is) (record {
          searched = search_missed slots cols s.at s.from end searched inside c.requires.rising c.requires.cols is (λ room. let out = v.if-from-cols.false in absurd (omega arith));
          sums = λ terms here. passed terms here;
        })
      ]
    ]

pub returns : goal.returns
returns c = λ terms here.
    let s = c.loop-at in
    let searched = s.invariant.searched in
    products_left c.args.semiring.add.op c.args.semiring.multiply c.args.slots.now terms s.sums c.args.word c.args.cols.now c.args.words.now s.from c.requires.lengths searched.high
    (λ j low within. search_end c.args.slots.now c.args.cols.now s.at s.from searched c.loop-at-test.false j low within) (s.invariant.sums terms here)
