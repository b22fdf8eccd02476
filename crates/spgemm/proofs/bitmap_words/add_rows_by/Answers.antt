use Rattle.std.proofs.Common.{List, arith}
use Rattle.model.specs.Entries.{word_at}
use Rattle.model.specs.Object.{transposed_content}
use Rattle.store.proofs.Walks.{rest_shorter}
use Rattle.spgemm.specs.Dense.{AreMarkedSums}
use Rattle.terms.specs.declared.term.Term.{Term}
use Rattle.spgemm.proofs.BitmapWalk.{across_all, across_more, across_next, across_none}
use Rattle.spgemm.proofs.DenseLaws.{cols_below}
use Rattle.spgemm.proofs.bitmap_words.add_rows_by.Goals as goal

pub loop-line-init : goal.loop-line-init
loop-line-init c = record {
  walked = across_none c.args.semiring.multiply (transposed_content (word_at c.args.u.now.entries)) c.args.a.now c.args.rows.start c.args.rows.end (λ (terms : List Term). AreMarkedSums c.args.semiring.add terms c.args.marks.now c.args.sums.now) c.rows_in-rest.result.entries c.requires.order c.rows_in-rest.ensures.entries c.requires.before;
  bound = omega arith;
  marked = λ at less. absurd (omega (arith, less));
}

pub add_row-known-requires-clause-inside : goal.add_row-known-requires-clause-inside
add_row-known-requires-clause-inside c =
    let line = c.in-Some.line in
    let is = across_next c.args.semiring.multiply (transposed_content (word_at c.args.u.now.entries)) c.args.a.now c.args.rows.start c.args.rows.end (λ (terms : List Term). AreMarkedSums c.args.semiring.add terms c.loop-line.marks c.loop-line.sums) c.loop-line.rest.entries line.index line.cols.now line.words.now c.in-Some.others.entries c.loop-line.invariant.walked c.in-Some.ensures in
    cols_below c.args.a.now line.index line.cols.now line.words.now _ c.in-Some.ensures.lengths is (omega (arith, c.cols-width.ensures))

pub loop-line-smaller : goal.loop-line-smaller
loop-line-smaller c =
    let line = c.in-Some.line in
    rest_shorter line.index line.cols.now line.words.now c.loop-line.rest.entries c.in-Some.others.entries c.in-Some.ensures

pub loop-line-preserved : goal.loop-line-preserved
loop-line-preserved c =
    let line = c.in-Some.line in
    let put = c.add_row-known in
    record {
      walked = across_more c.args.semiring.multiply (transposed_content (word_at c.args.u.now.entries)) c.args.a.now c.args.rows.start c.args.rows.end (λ (terms : List Term). AreMarkedSums c.args.semiring.add terms c.loop-line.marks c.loop-line.sums) (λ (terms : List Term). AreMarkedSums c.args.semiring.add terms put.new.marks put.new.sums) c.loop-line.rest.entries line.index line.cols.now line.words.now c.in-Some.others.entries c.loop-line.invariant.walked c.in-Some.ensures (rw c.get-word.ensures at put.ensures.sums);
      bound = omega (arith, put.ensures.bound, c.cols-width.ensures);
      marked = put.ensures.known;
    }

pub returns : goal.returns
returns c = across_all c.args.semiring.multiply (transposed_content (word_at c.args.u.now.entries)) c.args.a.now c.args.rows.start c.args.rows.end (λ (terms : List Term). AreMarkedSums c.args.semiring.add terms c.loop-line.marks c.loop-line.sums) c.loop-line.rest.entries c.loop-line.invariant.walked c.in_default.ensures
