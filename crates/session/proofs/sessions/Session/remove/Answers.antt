-- The place is inside the object, since the call was accepted.
use Rattle.model.specs.declared.call.Act.TheVariants.{Remove}
use Rattle.model.specs.declared.call.Call.TheVariants.{On}
use Rattle.model.specs.Object.{Object, without_entry}
use Rattle.model.specs.Run.{object_at}
use Rattle.model.proofs.ObjectLaws.{inside-bounds}
use Rattle.session.specs.Performed.{count_in, environment_of}
use Rattle.session.proofs.AcceptedLaws.{remove-accepted}
use Rattle.session.proofs.PerformedLaws.{performed-edit, refused-as}
use Rattle.session.proofs.sessions.Session.remove.Goals as goal

pub edit-requires-clause-there : goal.edit-requires-clause-there
edit-requires-clause-there g c = (remove-accepted (count_in c.args.self.now) ((environment_of c.args.self.now).find_object c.args.object) c.args.place c.in_ok-check_place.ensures.remove).0

pub edit-requires-clause-inside : goal.edit-requires-clause-inside
edit-requires-clause-inside g c =
    let session = c.args.self.now in
    let inside = (remove-accepted (count_in session) ((environment_of session).find_object c.args.object) c.args.place c.in_ok-check_place.ensures.remove).1 in
    let bounds = inside-bounds c.args.place (object_at (environment_of session) c.args.object).shape inside in
    rw (c.row.ensures, c.col.ensures) bounds

pub returns-in_err-edit : goal.returns-in_err-edit
returns-in_err-edit g c =
    refused-as c.args.self.now c.edit.new.self (On c.args.object (Remove c.args.place)) c.from_residual-in_err-edit.result c.from_residual-in_err-edit.ensures.1 c.in_err-edit.ensures.refused c.edit.ensures.made

pub returns : goal.returns
returns g c =
    let session = c.args.self.now in
    let object = object_at (environment_of session) c.args.object in
    performed-edit session c.edit.new.self c.args.object (Remove c.args.place) _ _
    (λ t. let o : Object = record object { content = without_entry object.content (c.row.ensures t) (c.col.ensures t) } in o) c.in_ok-check_place.ensures.remove c.in_ok-edit.ensures.edited c.edit.ensures.made
