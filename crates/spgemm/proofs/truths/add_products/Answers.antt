use Rattle.std.proofs.Common.{◌<◌, ◌+◌, ◌++◌, ◌∷◌, ◌≡◌, [], append-nil, arith, get_or, length, subst, sym, take}
use Rattle.std.proofs.lemmas.List.{take_all}
use Rattle.model.specs.Entries.{entry_at}
use Rattle.store.specs.Fibers.{entries_along}
use Rattle.store.proofs.Places.{length_row, row_at}
use Rattle.terms.specs.Terms.{apply, term_at, times_row}
use Rattle.spgemm.specs.Truths.{AreTruths}
use Rattle.spgemm.proofs.SlotSums.{more_terms}
use Rattle.spgemm.proofs.truths.add_products.Goals as goal

pub loop-k-init : goal.loop-k-init
loop-k-init c = record { sums = λ terms here. subst (λ ts. AreTruths c.args.semiring.add.op ts c.args.bits.now c.args.trues.now) (sym (append-nil terms)) here }

pub loop-k-preserved : goal.loop-k-preserved
loop-k-preserved c =
    let row = entries_along 0 c.args.cols.now c.args.words.now in
    let s = c.loop-k in
    let word = c.args.word in
    let e = entry_at 0 (get_or c.args.cols.now s.k 0) (get_or c.args.words.now s.k 0) in
    let long = length_row 0 c.args.cols.now c.args.words.now c.requires.lengths in
    let within : s.k < length row = omega (arith, c.loop-k-test.true) in
    let this = row_at 0 c.args.cols.now c.args.words.now s.k e c.requires.lengths c.loop-k-test.true in
    let mul = c.args.semiring.multiply in
    let put = c.add_product in
    record {
      sums = λ terms here.
          let before = terms ++ times_row mul word (take s.k row) in
          let more : before ++ term_at e.col (apply mul word e.word) ∷ [] ≡ terms ++ times_row mul word (take (s.k + 1) row) = rw this at (more_terms mul terms word row s.k e within) in
          subst (λ ts. AreTruths c.args.semiring.add.op ts put.new.bits put.new.trues) more (put.ensures before (s.invariant.sums terms here));
    }

pub returns : goal.returns
returns c = λ terms here.
    let row = entries_along 0 c.args.cols.now c.args.words.now in
    let long = length_row 0 c.args.cols.now c.args.words.now c.requires.lengths in
    let all = take_all c.loop-k.k row (omega (arith, c.loop-k-test.false)) in
    subst (λ row. AreTruths c.args.semiring.add.op (terms ++ times_row c.args.semiring.multiply c.args.word row) c.loop-k.bits c.loop-k.trues) all (c.loop-k.invariant.sums terms here)
