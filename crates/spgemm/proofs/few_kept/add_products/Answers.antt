use Rattle.std.proofs.Common.{◌<◌, ◌++◌, append-nil, arith, get_or, length, subst, sym, take}
use Rattle.std.proofs.lemmas.List.{take_all}
use Rattle.lanes.specs.Bits.{has_bit}
use Rattle.model.specs.Entries.{entry_at}
use Rattle.store.specs.Fibers.{entries_along}
use Rattle.store.proofs.Places.{length_row, row_at}
use Rattle.spgemm.specs.Dense.{AreColumnSums}
use Rattle.terms.specs.Terms.{kept_terms, times_row}
use Rattle.spgemm.proofs.FewKept.{kept_more}
use Rattle.spgemm.proofs.few_kept.add_products.Goals as goal

pub loop-k-init : goal.loop-k-init
loop-k-init c = record { sums = λ terms here. subst (λ ts. AreColumnSums c.args.semiring.add.op ts c.args.bits.now c.args.sums.now) (sym (append-nil terms)) here }

pub loop-k-preserved : goal.loop-k-preserved
loop-k-preserved c =
    let row = entries_along 0 c.args.cols.now c.args.words.now in
    let s = c.loop-k in
    let word = c.args.word in
    let e = entry_at 0 (get_or c.args.cols.now s.k 0) (get_or c.args.words.now s.k 0) in
    let long = length_row 0 c.args.cols.now c.args.words.now c.requires.lengths in
    let within : s.k < length row = omega (arith, c.loop-k-test.true) in
    let this = row_at 0 c.args.cols.now c.args.words.now s.k e c.requires.lengths c.loop-k-test.true in
    let mul = c.args.semiring.multiply in
    let keeps = has_bit c.args.kept.now in
    record {
      sums = λ terms here. kept_more c.args.semiring.add.op mul keeps terms word row s.k e c.add_if_kept.new.bits c.add_if_kept.new.sums this within
          (c.add_if_kept.ensures (terms ++ kept_terms keeps (times_row mul word (take s.k row))) (s.invariant.sums terms here));
    }

pub returns : goal.returns
returns c = λ terms here.
    let row = entries_along 0 c.args.cols.now c.args.words.now in
    let long = length_row 0 c.args.cols.now c.args.words.now c.requires.lengths in
    let all = take_all c.loop-k.k row (omega (arith, c.loop-k-test.false)) in
    subst (λ row. AreColumnSums c.args.semiring.add.op (terms ++ kept_terms (has_bit c.args.kept.now) (times_row c.args.semiring.multiply c.args.word row)) c.loop-k.bits c.loop-k.sums) all (c.loop-k.invariant.sums terms here)
