use Rattle.std.proofs.Common.{◌<◌, length, get_or, arith}
use Rattle.std.proofs.lemmas.List.{get_or_default}
use Rattle.std.proofs.lemmas.List.Edits.{map_over_more}
use Rattle.model.specs.declared.entry.Entry.{Entry}
use Rattle.model.specs.Entries.{entry_at}
use Rattle.patch.proofs.along.transpose.Goals as goal

pub loop-entry-preserved : goal.loop-entry-preserved
loop-entry-preserved c =
    let entries = c.loop-entry.entries in
    let at = c.loop-entry.entry-index in
    let one = get_or entries at (entry_at 0 0 0) in
    let within : at < length entries = omega arith in
    map_over_more (λ (e : Entry). entry_at e.col e.row e.word) c.args.entries.now entries at one (omega arith) c.loop-entry.invariant (get_or_default entries at (entry_at 0 0 0) one within)
