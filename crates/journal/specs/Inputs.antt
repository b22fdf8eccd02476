-- What the entries of inputs tell.
use Rattle.std.specs.Prelude.{ℕ, Option, Some, None}
use Rattle.calls.specs.declared.role.Roles.{Roles}
use Rattle.history.specs.declared.made.Made.{Made}
use Rattle.journal.specs.declared.entry.Input.{Input}
use Rattle.journal.specs.declared.entry.Input.TheVariants.{Absent, There}

abbrev pub told_by : Input → Option (ℕ × Made)
told_by Absent = None
told_by (There e) = Some e.value

abbrev pub by_role : Input → Input → Input → Input → Roles (ℕ × Made)
by_role old mask first second = record {
  old = told_by old;
  mask = told_by mask;
  first = told_by first;
  second = told_by second;
}
