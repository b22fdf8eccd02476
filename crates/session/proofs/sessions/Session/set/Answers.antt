-- The place is inside the object, and the word that of the value in its domain, since the call was accepted.
use Rattle.std.proofs.Common.{FitsSigned, rules}
use Rattle.std.specs.Int.{w128}
use Rattle.std.proofs.lemmas.Int.{to_z-of_z}
use Rattle.algebra.proofs.Casts.{IsWordOf-word_of}
use Rattle.model.specs.declared.call.Act.TheVariants.{Set}
use Rattle.model.specs.declared.call.Call.TheVariants.{On}
use Rattle.model.specs.Object.{Object, with_entry}
use Rattle.model.specs.Run.{object_at}
use Rattle.model.proofs.ObjectLaws.{inside-bounds}
use Rattle.session.specs.Performed.{count_in, environment_of}
use Rattle.session.proofs.AcceptedLaws.{set-accepted, word-found}
use Rattle.session.proofs.PerformedLaws.{performed-edit, refused-as}
use Rattle.session.proofs.sessions.Session.set.Goals as goal

pub edit-requires-clause-there : goal.edit-requires-clause-there
edit-requires-clause-there g c =
    let session = c.args.self.now in
    let fits : FitsSigned w128 c.args.value = search rules in
    let accepted = rw (to_z-of_z w128 c.args.value fits) at c.in_ok-word.ensures.fault in
    (set-accepted (count_in session) ((environment_of session).find_object c.args.object) c.args.place c.args.value accepted).0

pub edit-requires-clause-inside : goal.edit-requires-clause-inside
edit-requires-clause-inside g c =
    let session = c.args.self.now in
    let fits : FitsSigned w128 c.args.value = search rules in
    let accepted = rw (to_z-of_z w128 c.args.value fits) at c.in_ok-word.ensures.fault in
    let inside = (set-accepted (count_in session) ((environment_of session).find_object c.args.object) c.args.place c.args.value accepted).1 in
    let bounds = inside-bounds c.args.place (object_at (environment_of session) c.args.object).shape inside in
    rw (c.row.ensures, c.col.ensures) bounds

pub edit-requires-clause-word : goal.edit-requires-clause-word
edit-requires-clause-word g c =
    let session = c.args.self.now in
    let find = (environment_of session).find_object c.args.object in
    let fits : FitsSigned w128 c.args.value = search rules in
    let accepted = rw (to_z-of_z w128 c.args.value fits) at c.in_ok-word.ensures.fault in
    let there = (set-accepted (count_in session) find c.args.place c.args.value accepted).0 in
    let named = word-found find c.args.value c.in_ok-word.word there (rw (to_z-of_z w128 c.args.value fits) at c.in_ok-word.ensures.word) in
    rw named (IsWordOf-word_of (object_at (environment_of session) c.args.object).domain c.args.value)

pub returns-in_err-edit : goal.returns-in_err-edit
returns-in_err-edit g c =
    refused-as c.args.self.now c.edit.new.self (On c.args.object (Set c.args.place c.args.value)) c.from_residual-in_err-edit.result c.from_residual-in_err-edit.ensures.1 c.in_err-edit.ensures.refused c.edit.ensures.made

pub returns : goal.returns
returns g c =
    let session = c.args.self.now in
    let find = (environment_of session).find_object c.args.object in
    let object = object_at (environment_of session) c.args.object in
    let fits : FitsSigned w128 c.args.value = search rules in
    let accepted = rw (to_z-of_z w128 c.args.value fits) at c.in_ok-word.ensures.fault in
    let there = (set-accepted (count_in session) find c.args.place c.args.value accepted).0 in
    let named = word-found find c.args.value c.in_ok-word.word there (rw (to_z-of_z w128 c.args.value fits) at c.in_ok-word.ensures.word) in
    performed-edit session c.edit.new.self c.args.object (Set c.args.place c.args.value) _ _
    (λ t. let o : Object = record object { content = with_entry object.content (c.row.ensures t) (c.col.ensures t) (named t) } in o) accepted c.in_ok-edit.ensures.edited c.edit.ensures.made
