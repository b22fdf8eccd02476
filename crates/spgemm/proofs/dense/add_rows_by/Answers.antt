use Rattle.std.proofs.Common.{◌≢◌, ◌/◌, ◌<◌, ◌≤◌, ◌⊎◌, ◌∙◌, ℕ, arith, inl, inr, length, subst, sym, take}
use Rattle.std.specs.List.{All}
use Rattle.std.proofs.lemmas.List.{take_all}
use Rattle.std.proofs.lemmas.List.Elements.{All-weaker}
use Rattle.store.specs.Fibers.{entries_along}
use Rattle.store.proofs.Places.{length_row}
use Rattle.spgemm.specs.Dense.{AreColumnSums}
use Rattle.terms.specs.Terms.{terms_of_row}
use Rattle.spgemm.proofs.DenseLaws.{cols_below}
use Rattle.spgemm.proofs.SlotRows.{row_rises}
use Rattle.terms.proofs.Terms.{row_more}
use Rattle.spgemm.proofs.dense.add_rows_by.Goals as goal
use Rattle.spgemm.proofs.dense.add_rows_by.Goals.{then-cols-many, else-cols-many}

pub widened_by_row-ends-requires : goal.widened_by_row-ends-requires
widened_by_row-ends-requires c =
    let line = c.row_near-next in
    record { rising = row_rises c.args.b.now _ line.result.0.now line.result.1.now line.ensures.lengths line.ensures.entries }

pub add_products-requires-clause-inside : goal.add_products-requires-clause-inside
add_products-requires-clause-inside c = cols_below c.args.b.now _ c.row_near-next.result.0.now c.row_near-next.result.1.now _ c.row_near-next.ensures.lengths c.row_near-next.ensures.entries (omega (arith, c.requires.inside))

pub add_products-requires-else-cols-many-clause-inside : goal.add_products-requires-else-cols-many-clause-inside
add_products-requires-else-cols-many-clause-inside c = cols_below c.args.b.now _ c.row_near-next.result.0.now c.row_near-next.result.1.now _ c.row_near-next.ensures.lengths c.row_near-next.ensures.entries (omega (arith, c.requires.inside))

pub loop-k-preserved : goal.loop-k-preserved
loop-k-preserved c =
    let s = c.loop-k in
    let mul = c.args.semiring.multiply in
    let b = c.args.b.now in
    let row = entries_along c.args.row.index c.args.row.cols.now c.args.row.words.now in
    let line = c.row_near-next in
    let cols = line.result.0.now in
    let more = row_more mul b c.args.row.index c.args.row.cols.now c.args.row.words.now s.k cols line.result.1.now c.requires.lengths c.loop-k-test.true line.ensures.entries in
    let terms = terms_of_row mul (take s.k row) b in
    let put = c.widened_by_row-ends.ensures in
    let ends = c.widened_by_row-ends.result in
    let least = put.least in
    let greatest = put.greatest in
    let away : (at : ℕ) → (at < ends.0 / 64) ⊎ (ends.1 / 64 < at) → All (λ col. col / 64 ≢ at) cols = λ at out.
    All-weaker (λ col. (ends.0 ≤ col) × (col ≤ ends.1)) (λ col. col / 64 ≢ at)
    (λ col within is. let low = within.0 in let high = within.1 in elim out [ inl before ↦ absurd (omega arith) | inr behind ↦ absurd (omega arith) ]) cols put.within in
    let out_before : (at : ℕ) → (at < ends.0 / 64) ⊎ (ends.1 / 64 < at) → (at < s.ends.0 / 64) ⊎ (s.ends.1 / 64 < at) = λ at out.
    elim out [ inl before ↦ inl (omega arith) | inr behind ↦ inr (omega arith) ] in
    let past : (past : ℕ) → 0 < past → b.cols ≤ past → ends.1 < past = λ past some fits.
    put.bound past (s.invariant.past past some fits) (cols_below b _ cols line.result.1.now past line.ensures.lengths line.ensures.entries fits) in
    elim c.if-cols-many.branch [
      | then-cols-many w ↦ rw (w.bits-is, w.sums-is, w.full-is) (record {
        sums = subst (λ ts. AreColumnSums c.args.semiring.add.op ts w.add_products.new.bits w.add_products.new.sums) (sym more) (w.add_products.ensures.sums terms s.invariant.sums);
        others = λ at out. w.add_products.ensures.others at (away at out) ∙ s.invariant.others at (out_before at out);
        past = past;
        bound = w.full_words-full.ensures.bound;
        full = w.full_words-full.ensures.full;
      })
      | else-cols-many w ↦ rw (w.bits-is, w.sums-is, w.full-is) (record {
        sums = subst (λ ts. AreColumnSums c.args.semiring.add.op ts w.add_products-else-cols-many.new.bits w.add_products-else-cols-many.new.sums) (sym more) (w.add_products-else-cols-many.ensures.sums terms s.invariant.sums);
        others = λ at out. w.add_products-else-cols-many.ensures.others at (away at out) ∙ s.invariant.others at (out_before at out);
        past = past;
        bound = omega (arith, s.invariant.bound);
        full = λ at less. w.add_products-else-cols-many.ensures.stay at (s.invariant.full at less);
      })
    ]

pub returns-clause-sums : goal.returns-clause-sums
returns-clause-sums c =
    let row = entries_along c.args.row.index c.args.row.cols.now c.args.row.words.now in
    let long = length_row c.args.row.index c.args.row.cols.now c.args.row.words.now c.requires.lengths in
    let all = take_all c.loop-k.k row (omega (arith, c.loop-k-test.false)) in
    subst (λ row. AreColumnSums c.args.semiring.add.op (terms_of_row c.args.semiring.multiply row c.args.b.now) c.loop-k.bits c.loop-k.sums) all c.loop-k.invariant.sums

pub returns-clause-others : goal.returns-clause-others
returns-clause-others c = λ at out.
    let low = c.words_between.ensures.low in
    let high = c.words_between.ensures.high in
    c.loop-k.invariant.others at (elim out [ inl before ↦ inl (omega arith) | inr behind ↦ inr (omega arith) ])

pub returns-clause-bound : goal.returns-clause-bound
returns-clause-bound c = λ some.
    let room = c.requires.room in
    let inside = c.requires.inside in
    let high = c.words_between.ensures.high in
    let past = c.loop-k.invariant.past (length c.args.sums.now) (omega arith) inside in
    omega arith
