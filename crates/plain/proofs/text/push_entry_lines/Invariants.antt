use Rattle.std.proofs.Common.{◌≡◌, ◌++◌, map, take}
use Rattle.model.specs.Text.{entry_line}
use Rattle.plain.specs.Evaluated.{lines_of}
use Rattle.plain.proofs.text.push_entry_lines.Given as goal

-- the lines of the entries so far
abbrev pub invariant-loop-entry : goal.invariant-loop-entry
invariant-loop-entry l = lines_of l.lines ≡ lines_of l.initial.lines ++ map (entry_line l.domain) (take l.entry-index l.entries)
