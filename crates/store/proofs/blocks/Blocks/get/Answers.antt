use Rattle.std.proofs.Common.{◌∙◌, ap, sym}
use Rattle.store.specs.Stored.{content_of}
use Rattle.store.proofs.BlockLaws.{none_in_parts, word_in_part}
use Rattle.store.proofs.blocks.Blocks.get.Goals as goal

pub returns-in_err-at : goal.returns-in_err-at
returns-in_err-at c =
    let parts = c.self.inside.parts.items in
    rw (← c.self.view_is) (c.from_residual.ensures ∙ sym (none_in_parts c.args.i c.args.j parts (rw c.deref.ensures.value at c.in_err-at.ensures)))

pub returns : goal.returns
returns c =
    let parts = c.self.inside.parts.items in
    let found = rw c.deref.ensures.value at c.in_ok-at.ensures in
    let at = c.in_ok-at.at in
    let part = c.index.result.now in
    rw (← c.self.view_is) (c.get.ensures ∙ ap (λ s. content_of s c.args.i c.args.j) c.index.ensures
    ∙ sym (word_in_part c.args.i c.args.j parts at part c.self.invariant.are.apart found.0 found.1))
