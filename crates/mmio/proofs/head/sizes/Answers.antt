-- A size line has three numbers and nothing else.
use Rattle.std.proofs.Common.{refl, ◌∙◌}
use Rattle.mmio.proofs.HeadLaws.{heading_of-no_first, heading_of-no_second, heading_of-no_third, heading_of-numbers}
use Rattle.mmio.proofs.head.sizes.Goals as goal

pub returns-in_err-rows : goal.returns-in_err-rows
returns-in_err-rows c = rw c.from_residual.ensures (heading_of-no_first _ c.in_err-rows.ensures)

pub returns-in_err-cols : goal.returns-in_err-cols
returns-in_err-cols c = rw c.from_residual-in_err-cols.ensures (heading_of-no_second _ _ _ c.in_ok-rows.ensures c.in_err-cols.ensures)

pub returns-in_err-entries : goal.returns-in_err-entries
returns-in_err-entries c = rw c.from_residual-in_err-entries.ensures (heading_of-no_third _ _ _ _ _ c.in_ok-rows.ensures c.in_ok-cols.ensures c.in_err-entries.ensures)

pub returns-then-is_empty : goal.returns-then-is_empty
returns-then-is_empty c = λ kind.
    heading_of-numbers _ _ _ _ _ _ _ c.in_ok-rows.ensures c.in_ok-cols.ensures c.in_ok-entries.ensures kind ∙ rw (← c.if-is_empty.ensures) refl

pub returns-else-is_empty : goal.returns-else-is_empty
returns-else-is_empty c = λ kind.
    heading_of-numbers _ _ _ _ _ _ _ c.in_ok-rows.ensures c.in_ok-cols.ensures c.in_ok-entries.ensures kind ∙ rw (← c.if-is_empty.ensures) refl
