-- The faults come in the order of the line's parts.
use Rattle.std.proofs.Common.{refl, rules}
use Rattle.mmio.proofs.SaidLaws.{entry_said-no_col, entry_said-no_row, entry_said-parts}
use Rattle.mmio.proofs.entry.entry.Goals as goal

pub returns-in_default : goal.returns-in_default
returns-in_default c = entry_said-no_row c.args.domain c.args.heading _ c.in_default.ensures

pub returns-in_default-first_number : goal.returns-in_default-first_number
returns-in_default-first_number c = entry_said-no_col c.args.domain c.args.heading _ _ _ c.in-Some.ensures c.in_default-first_number.ensures

pub returns-in_default-value_behind : goal.returns-in_default-value_behind
returns-in_default-value_behind c =
    let parts = entry_said-parts c.args.domain c.args.heading _ _ _ _ _ (search rules) (search rules) c.in-Some.ensures c.in-Some-first_number.ensures in
    rw (parts, ← c.in_default-value_behind.ensures) refl

pub returns-in_default-position_in : goal.returns-in_default-position_in
returns-in_default-position_in c =
    let parts = entry_said-parts c.args.domain c.args.heading _ _ _ _ _ (search rules) (search rules) c.in-Some.ensures c.in-Some-first_number.ensures in
    rw (parts, ← c.in-Some-value_behind.ensures, ← c.in_default-position_in.ensures) refl

pub returns-in-Some-value : goal.returns-in-Some-value
returns-in-Some-value c =
    let parts = entry_said-parts c.args.domain c.args.heading _ _ _ _ _ (search rules) (search rules) c.in-Some.ensures c.in-Some-first_number.ensures in
    rw (parts, ← c.in-Some-value_behind.ensures, ← c.in-Some-position_in.ensures, c.in-Some-value.is) refl

pub returns-in-None : goal.returns-in-None
returns-in-None c =
    let parts = entry_said-parts c.args.domain c.args.heading _ _ _ _ _ (search rules) (search rules) c.in-Some.ensures c.in-Some-first_number.ensures in
    rw (parts, ← c.in-Some-value_behind.ensures, ← c.in-Some-position_in.ensures, c.in-None.is) refl
