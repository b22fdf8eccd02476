-- The entry that is added tells what the recipe makes, which is an object since its inputs are.
use Rattle.std.proofs.Common.{◌≡◌, rules}
use Rattle.history.specs.Histories.{object_in, object_of}
use Rattle.journal.specs.Inputs.{by_role}
use Rattle.journal.proofs.JournalLaws.{each_role, tells}
use Rattle.journal.proofs.journal.Log.note.Given as given
use Rattle.journal.proofs.journal.Log.note.Goals as goal
use Rattle.model.specs.Object.{IsObject}
use Rattle.runner.specs.Tickets.{made_by}

told : (g : given.Over) (c : goal.In-Ok g)
    → (object_in c.in-Ok.token.value.1 ≡ made_by object_of c.args.recipe.now c.args.inputs)
    × IsObject (object_in c.in-Ok.token.value.1)
told g c =
    tells c.args.recipe.now (by_role c.seen.result c.seen-2.result c.seen-3.result c.seen-4.result) c.args.inputs c.in-Ok.token.value
    (rw (c.of.ensures, c.of-2.ensures) at c.in-Ok.ensures.0.1)
    (each_role _ c.seen.ensures.made c.seen-2.ensures.made c.seen-3.ensures.made c.seen-4.ensures.made) c.requires.fits
    (each_role _ c.seen.ensures.is_object c.seen-2.ensures.is_object c.seen-3.ensures.is_object c.seen-4.ensures.is_object)

pub invariant_of-result : goal.invariant_of-result
invariant_of-result g c = (search rules, (told g c).1)

pub returns-clause-object : goal.returns-clause-object
returns-clause-object g c = (told g c.before.before.before.before).0

pub returns-clause-is_object : goal.returns-clause-is_object
returns-clause-is_object g c = (told g c.before.before.before.before).1
