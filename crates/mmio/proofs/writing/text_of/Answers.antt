-- The lines of the rows before are followed by those of these rows.
use Rattle.std.proofs.Common.{◌∙◌, ◌++◌, ap, refl, sym}
use Rattle.store.specs.Stored.{content_of}
use Rattle.mmio.specs.Written.{lines_between}
use Rattle.mmio.proofs.WriteLaws.{lines_apart}
use Rattle.mmio.proofs.writing.text_of.Goals as goal

pub returns : goal.returns
returns c =
    let store = c.args.store.now in
    let rows = c.args.rows in
    ap (λ text. lines_between c.args.domain store 0 rows.start ++ text) (c.in_ok-write_between.ensures.ok ∙ rw c.new-text.ensures.items refl)
    ∙ sym (lines_apart c.args.domain rows.start rows.end store.cols (content_of store) c.requires.order)
