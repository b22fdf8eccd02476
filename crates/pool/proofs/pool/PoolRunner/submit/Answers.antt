-- What is noted is what is made of the tickets' objects.
use Rattle.std.proofs.Common.{◌∙◌, ap}
use Rattle.desk.specs.Desks.{told}
use Rattle.desk.proofs.DeskLaws.{noted-known, noted-made}
use Rattle.history.specs.Histories.{Told, object_of}
use Rattle.pool.proofs.pool.PoolRunner.submit.Goals as goal

pub note-requires-clause-fits : goal.note-requires-clause-fits
note-requires-clause-fits g c = λ role.
    noted-known told c.args.inputs c.notes_of.result c.notes_of.ensures role ∙ c.requires.fits role

pub submit_own-requires : goal.submit_own-requires
submit_own-requires g c =
    ap (λ (note : Told). object_of note) c.again.ensures
    ∙ (c.in_ok-note.ensures.object ∙ noted-made told c.args.inputs c.notes_of.result c.notes_of.ensures c.args.recipe)

pub submit_shared-requires : goal.submit_shared-requires
submit_shared-requires g c =
    ap (λ (note : Told). object_of note) c.again-else-are_here.ensures
    ∙ (c.in_ok-note.ensures.object ∙ noted-made told c.args.inputs c.notes_of.result c.notes_of.ensures c.args.recipe)

pub returns-clause-object : goal.returns-clause-object
returns-clause-object g c =
    c.in_ok-note.ensures.object ∙ noted-made told c.args.inputs c.notes_of.result c.notes_of.ensures c.args.recipe
