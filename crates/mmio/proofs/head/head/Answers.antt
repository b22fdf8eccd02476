-- The faults of the head come in the order of its lines.
use Rattle.std.proofs.Common.{◌≡◌, Err, length, ◌∙◌, ap, sym, arith}
use Rattle.std.proofs.lemmas.Bool.Decides.{nat_tests}
use Rattle.mmio.specs.Listing.{located}
use Rattle.mmio.proofs.HeadLaws.{matrix_behind-no_size, matrix_behind-none, matrix_behind-not_square, matrix_behind-size, matrix_in-behind, matrix_in-empty, matrix_in-no_banner}
use Rattle.mmio.proofs.head.head.Goals as goal

pub returns-then-is_empty : goal.returns-then-is_empty
returns-then-is_empty c =
    let none : length c.args.bytes.now ≡ 0 = grind (arith, nat_tests) in
    matrix_in-empty c.args.domain c.args.bytes.now none ∙ ap Err (sym c.fault_at_end.ensures)

pub returns-in-Err : goal.returns-in-Err
returns-in-Err c =
    matrix_in-no_banner c.args.domain c.args.bytes.now _ _ _ c.first_line.ensures.lines c.in-Err.ensures ∙ ap Err (sym c.fault_before.ensures)

pub returns-in_default : goal.returns-in_default
returns-in_default c =
    matrix_in-behind c.args.domain c.args.bytes.now _ _ _ c.first_line.ensures.lines c.in-Ok.ensures
    ∙ ap (located c.args.bytes.now) (matrix_behind-none _ _ _ c.in_default.ensures.lines)
    ∙ ap Err (sym c.fault_at_end-in_default.ensures)

pub returns-in_default-heading : goal.returns-in_default-heading
returns-in_default-heading c =
    matrix_in-behind c.args.domain c.args.bytes.now _ _ _ c.first_line.ensures.lines c.in-Ok.ensures
    ∙ ap (located c.args.bytes.now) (matrix_behind-no_size _ _ _ _ _ c.in-Some.ensures.lines c.in_default-heading.ensures)
    ∙ ap Err (sym c.fault_before-in_default-heading.ensures)

pub returns-then-not-has_fitting_shape : goal.returns-then-not-has_fitting_shape
returns-then-not-has_fitting_shape c =
    matrix_in-behind c.args.domain c.args.bytes.now _ _ _ c.first_line.ensures.lines c.in-Ok.ensures
    ∙ ap (located c.args.bytes.now) (matrix_behind-not_square _ _ _ _ _ _ c.in-Some.ensures.lines c.in-Some-heading.ensures (sym c.has_fitting_shape.ensures ∙ c.if-not-has_fitting_shape.true))
    ∙ ap Err (sym c.fault_before-then-not-has_fitting_shape.ensures)

pub returns : goal.returns
returns c =
    matrix_in-behind c.args.domain c.args.bytes.now _ _ _ c.first_line.ensures.lines c.in-Ok.ensures
    ∙ ap (located c.args.bytes.now) (matrix_behind-size _ _ _ _ _ _ c.in-Some.ensures.lines c.in-Some-heading.ensures (sym c.has_fitting_shape.ensures ∙ c.if-not-has_fitting_shape.false))
