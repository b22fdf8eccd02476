use Rattle.std.proofs.Common.{◌≡◌, ◌++◌, map, take}
use Rattle.std.specs.List.{flat_map}
use Rattle.model.specs.Text.{ended, entry_line}
use Rattle.store.specs.Fibers.{entries_along}
use Rattle.mmio.proofs.writing.write_row.Given as goal

-- the lines of the entries so far are written
abbrev pub invariant-loop-k : goal.invariant-loop-k
invariant-loop-k l = l.out.items ≡ l.initial.out.items ++ flat_map ended (map (entry_line l.domain) (take l.k (entries_along l.row.index l.row.cols.now l.row.words.now)))
