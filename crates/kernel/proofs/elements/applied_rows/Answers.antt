-- A function of the words as they are stored is the function of the values in its domain.
use Rattle.std.proofs.Common.{◌∙◌, ap}
use Rattle.std.specs.Option.{option_map}
use Rattle.algebra.specs.Functions.{function_of}
use Rattle.kernel.proofs.Computed.{applied-computed}
use Rattle.kernel.proofs.MaskLaws.{if_rows}
use Rattle.kernel.proofs.elements.applied_rows.Goals as goal

pub returns : goal.returns
returns c =
    let a = c.args.a in
    let f = c.args.function in
    let lists = c.in_ok-a.ensures in
    let rows = rw (c.get.ensures, c.in-Some.ensures.1) at c.apply_rows.ensures in
    if_rows c.apply_rows.result c.args.range.start c.args.range.end _ _ _ _ (lists.cols_are ∙ a.cols)
    (λ i j low high. ap (option_map (function_of f i j)) (lists.words i j low high) ∙ applied-computed a f c.requires.takes i j)
    rows.first rows.past rows.cols rows.words
