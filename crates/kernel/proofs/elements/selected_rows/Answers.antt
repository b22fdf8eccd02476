-- A test of the words as they are stored is the test of the values in its domain.
use Rattle.std.proofs.Common.{◌∙◌, rules}
use Rattle.std.specs.Int.{w128}
use Rattle.std.specs.Int.RustNames.{FitsSigned}
use Rattle.std.proofs.lemmas.Int.{to_z-of_z}
use Rattle.algebra.specs.IndexOperators.{scalar_domain}
use Rattle.algebra.specs.Value.{word_of}
use Rattle.elementwise.specs.Tests.{passes_by}
use Rattle.store.specs.Forms.{sparse_of}
use Rattle.store.specs.Stored.{content_of}
use Rattle.kernel.proofs.Computed.{selected-computed}
use Rattle.kernel.proofs.MaskLaws.{if_rows}
use Rattle.kernel.proofs.RowLaws.{kept_there}
use Rattle.kernel.proofs.elements.selected_rows.Goals as goal

pub returns : goal.returns
returns c =
    let a = c.args.a in
    let op = c.in-Some.op in
    let test = passes_by op (word_of (scalar_domain op.kind op.domain) c.args.scalar) in
    let named = c.in-Some.ensures.1 in
    let fits : FitsSigned w128 c.args.scalar = search rules in
    let lists = c.in_ok-a.ensures in
    let rows = rw (c.get.ensures, c.wrapped-s.ensures, c.scalar.ensures, to_z-of_z w128 c.args.scalar fits) at c.select_rows.ensures in
    let takes = rw (← named) at c.requires.takes in
    rw (← named) (if_rows c.select_rows.result c.args.range.start c.args.range.end _ _ _ _ (lists.cols_are ∙ a.cols)
    (λ i j low high. kept_there test (content_of (sparse_of c.in_ok-a.a)) (content_of a.store.now) i j (lists.words i j low high)
    ∙ selected-computed a op c.args.scalar takes i j)
    rows.first rows.past rows.cols rows.words)
