use Rattle.std.proofs.Common.{◌∙◌, sym}
use Rattle.masks.proofs.SamePlaces.{zip_right}
use Rattle.masks.proofs.alike.join_both.Goals as goal

pub returns-in-Right-clause-words : goal.returns-in-Right-clause-words
returns-in-Right-clause-words c = c.copy_from_slice.ensures.after ∙ rw c.in-Right.is (sym (zip_right c.args.lefts.now c.args.rights.now (c.requires.lefts ∙ sym c.requires.rights)))
