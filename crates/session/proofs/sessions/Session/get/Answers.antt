-- The object is there, since the call was accepted, and its store too.
use Rattle.std.proofs.Common.{◌≡◌, ◌∙◌, FitsSigned, None, Some, ap, refl, rules, sym}
use Rattle.std.specs.Int.{w128}
use Rattle.std.proofs.lemmas.Int.{to_z-of_z}
use Rattle.algebra.specs.Value.{value_of}
use Rattle.calls.specs.declared.obj.Obj.{Obj}
use Rattle.model.specs.declared.call.Act.TheVariants.{Get}
use Rattle.model.specs.declared.shape.Signature.{Signature}
use Rattle.model.specs.declared.status.Status.TheVariants.{NoValue}
use Rattle.model.specs.Object.{Object, col_of, row_of}
use Rattle.model.specs.Run.{Environment, object_at}
use Rattle.session.specs.Performed.{count_in, environment_of}
use Rattle.session.proofs.AcceptedLaws.{act-there, some-there}
use Rattle.session.proofs.PerformedLaws.{absent_value, found_value, performed-read, read-kept, refused-late}
use Rattle.session.proofs.sessions.Session.get.Goals as goal

pub finish-requires : goal.finish-requires
finish-requires g c = record { there = act-there (count_in c.args.self.now) ((environment_of c.args.self.now).find_object c.args.object) (Get c.args.place) c.in_ok-check_place.ensures.get }

pub returns-in-Some-clause-performed : goal.returns-in-Some-clause-performed
returns-in-Some-clause-performed g c =
    let old = c.args.self.now in
    let new = c.finish.new.self in
    let kept = read-kept old new c.args.object c.in_ok-finish.ensures.ends in
    let object = object_at (environment_of old) c.args.object in
    let there = some-there ((environment_of old).find_object c.args.object) (act-there (count_in old) ((environment_of old).find_object c.args.object) (Get c.args.place) c.in_ok-check_place.ensures.get) in
    let read : object_at (environment_of new) c.args.object ≡ object = ap (λ (env : Environment Obj). object_at env c.args.object) kept in
    let stored : object.content (row_of c.args.place) (col_of c.args.place) ≡ Some c.in-Some.word =
    (λ t. ((sym read ∙ c.store.ensures.object) t).content (sym c.row.ensures t) (sym c.col.ensures t)) ∙ sym c.get.ensures ∙ c.in-Some.is in
    performed-read old new c.args.object (Get c.args.place) _ tt c.in_ok-check_place.ensures.get
    (found_value old new ((environment_of old).find_object c.args.object) object c.args.place c.in-Some.word there stored) c.in_ok-finish.ensures.ends c.finish.ensures.made

pub returns-in-Some-clause-value : goal.returns-in-Some-clause-value
returns-in-Some-clause-value g c =
    let old = c.args.self.now in
    let new = c.finish.new.self in
    let kept = read-kept old new c.args.object c.in_ok-finish.ensures.ends in
    let object = object_at (environment_of old) c.args.object in
    let read : object_at (environment_of new) c.args.object ≡ object = ap (λ (env : Environment Obj). object_at env c.args.object) kept in
    let stored : object.content (row_of c.args.place) (col_of c.args.place) ≡ Some c.in-Some.word =
    (λ t. ((sym read ∙ c.store.ensures.object) t).content (sym c.row.ensures t) (sym c.col.ensures t)) ∙ sym c.get.ensures ∙ c.in-Some.is in
    let fits : FitsSigned w128 c.value_of.result = search rules in (
      c.in-Some.word,
      stored,
      to_z-of_z w128 c.value_of.result fits ∙ c.value_of.ensures ∙ ap (λ (of : Signature). value_of of.domain c.in-Some.word) c.known-domain.ensures
          ∙ ap (λ (o : Object). value_of o.domain c.in-Some.word) read,
    )

pub returns-in-None-clause-performed : goal.returns-in-None-clause-performed
returns-in-None-clause-performed g c =
    let old = c.args.self.now in
    let new = c.finish.new.self in
    let kept = read-kept old new c.args.object c.in_ok-finish.ensures.ends in
    let object = object_at (environment_of old) c.args.object in
    let there = some-there ((environment_of old).find_object c.args.object) (act-there (count_in old) ((environment_of old).find_object c.args.object) (Get c.args.place) c.in_ok-check_place.ensures.get) in
    let read : object_at (environment_of new) c.args.object ≡ object = ap (λ (env : Environment Obj). object_at env c.args.object) kept in
    let none : object.content (row_of c.args.place) (col_of c.args.place) ≡ None =
    (λ t. ((sym read ∙ c.store.ensures.object) t).content (sym c.row.ensures t) (sym c.col.ensures t)) ∙ sym c.get.ensures ∙ c.in-None.is in
    refused-late old new c.args.object (Get c.args.place) NoValue c.in_ok-check_place.ensures.get
    (absent_value old new ((environment_of old).find_object c.args.object) object c.args.place there none) refl c.in_ok-finish.ensures.ends c.finish.ensures.made
