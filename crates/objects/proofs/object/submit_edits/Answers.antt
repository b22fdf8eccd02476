-- The edits' ticket stands for the object that was kept.
use Rattle.std.proofs.Common.{◌≡◌, rules, Some}
use Rattle.calls.specs.Stores.{object_with}
use Rattle.objects.proofs.EditingLaws.{patched-object}
use Rattle.objects.specs.Values.{ticket_in}
use Rattle.patch.specs.Edits.{edited}
use Rattle.objects.proofs.object.submit_edits.Goals as goal
use Rattle.objects.proofs.object.submit_edits.Goals.{in-Both, in-Both-2}

pub returns-clause-object : goal.returns-clause-object
returns-clause-object g c =
    let kept = c.args.object.now in
    let has : ticket_in kept.value ≡ Some c.match-object.ticket.now = elim c.match-object.branch [ in-Both w ↦ search rules | in-Both-2 w ↦ search rules ] in
    let made : g.R.Runner.object_of c.in_ok-edited.edited ≡ object_with kept.of (edited kept.edits.items (g.R.Runner.object_of c.match-object.ticket.now).content) = search rules in
    rw (c.replace-old.ensures.after, c.clear.ensures.items) (patched-object g.R.Runner.object_of kept.of kept.value kept.edits.items c.match-object.ticket.now c.in_ok-edited.edited has kept.sound made)
