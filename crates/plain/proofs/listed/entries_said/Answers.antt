-- A line adds the entry that it says, if it says one, and what mirrors it.
use Rattle.std.proofs.Common.{◌∙◌, List, ap, arith, sym}
use Rattle.model.specs.MatrixMarket.{entry_said}
use Rattle.plain.specs.Files.{texts_in}
use Rattle.plain.proofs.FileLaws.{entries_said-more}
use Rattle.plain.proofs.listed.entries_said.Goals as goal

pub loop-line-preserved : goal.loop-line-preserved
loop-line-preserved c =
    let line = c.line-item.result in
    let said = c.entry_said-said.ensures ∙ ap (λ (words : List _). entry_said c.args.domain c.args.heading (texts_in words)) c.as_slice.ensures.value in
    c.in_ok-push_said.ensures
    ∙ rw (said, c.loop-line.invariant) (sym (entries_said-more c.args.domain c.args.heading c.args.lines.now c.loop-line.line-index line (omega arith) c.line-item.is))
