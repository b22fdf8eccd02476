use Rattle.std.proofs.Common.{◌≡◌, ◌++◌, map, take}
use Rattle.model.specs.Entries.{entry_at}
use Rattle.shapes.proofs.collecting.put_word.Given as goal

abbrev pub invariant-loop-col : goal.invariant-loop-col
invariant-loop-col l = l.entries.items ≡ l.fn.entries.items ++ take l.col-index (map (λ col. entry_at l.index col l.word) l.cols)
