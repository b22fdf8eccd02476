use Rattle.std.proofs.Common.{◌≡◌, ◌++◌, ◌-◌, ◌<◌, ◌^◌, List, length, map}
use Rattle.std.specs.List.{All, flat_map}
use Rattle.model.specs.declared.entry.Entry.{Entry}
use Rattle.model.specs.Text.{ended, entry_line}
use Rattle.mmio.proofs.writing.write_rows.Given as goal

-- the lines of the rows so far are written
abbrev pub invariant-loop-row : goal.invariant-loop-row
invariant-loop-row l = record {
  done : List Entry;
  split : l.fn.rows.entries ≡ done ++ l.rest.entries;
  out : l.out.items ≡ l.initial.out.items ++ flat_map ended (map (entry_line l.domain) done);
  left : All (λ e. (e.row < 2 ^ 64 - 1) × (e.col < 2 ^ 64 - 1)) l.rest.entries;
}

abbrev pub decreases-loop-row : goal.decreases-loop-row
decreases-loop-row l = length l.rest.entries
