-- The object and the monoid are there, since the call was accepted, and the object's store too.
use Rattle.std.proofs.Common.{◌≡◌, ◌∙◌, FitsSigned, ap, rules, sym}
use Rattle.std.specs.Int.{w128}
use Rattle.std.proofs.lemmas.Int.{to_z-of_z}
use Rattle.algebra.specs.declared.operator_names.MonoidName.{MonoidName}
use Rattle.algebra.specs.OperatorNames.{monoid_named}
use Rattle.algebra.specs.Value.{value_of}
use Rattle.calls.specs.declared.obj.Obj.{Obj}
use Rattle.model.specs.declared.call.Act.TheVariants.{Reduce}
use Rattle.model.specs.Object.{Object}
use Rattle.model.specs.Reductions.{sum_in}
use Rattle.model.specs.Run.{Environment, object_at}
use Rattle.session.specs.Performed.{count_in, environment_of}
use Rattle.session.proofs.AcceptedLaws.{act-there, reduce-accepted}
use Rattle.session.proofs.PerformedLaws.{late-none, performed-read, read-kept}
use Rattle.session.proofs.ResultLaws.{sum-stored}
use Rattle.session.proofs.sessions.Session.reduce_by.Goals as goal

pub finish-requires : goal.finish-requires
finish-requires g c = record { there = act-there (count_in c.args.self.now) ((environment_of c.args.self.now).find_object c.args.object) (Reduce c.args.monoid) c.in_ok-monoid.ensures.fault }

pub returns-clause-performed : goal.returns-clause-performed
returns-clause-performed g c =
    performed-read c.args.self.now c.finish.new.self c.args.object (Reduce c.args.monoid) _ tt c.in_ok-monoid.ensures.fault
    (late-none c.args.self.now c.finish.new.self c.args.object (Reduce c.args.monoid) tt) c.in_ok-finish.ensures.ends c.finish.ensures.made

pub returns-clause-value : goal.returns-clause-value
returns-clause-value g c =
    let old = c.args.self.now in
    let new = c.finish.new.self in
    let kept = read-kept old new c.args.object c.in_ok-finish.ensures.ends in
    let find = (environment_of old).find_object c.args.object in
    let accepted = reduce-accepted (count_in old) find c.args.monoid c.in_ok-monoid.ensures.fault in
    let read : object_at (environment_of old) c.args.object ≡ object_at (environment_of new) c.args.object = ap (λ (env : Environment Obj). object_at env c.args.object) (sym kept) in
    let o : Object = object_at (environment_of new) c.args.object in
    let monoid = c.in_ok-monoid.monoid in
    let named : monoid_named monoid ≡ c.args.monoid = c.in_ok-monoid.ensures.monoid in
    let fits : FitsSigned w128 c.value_of.result = search rules in
    let offered = rw (sym named) at accepted.1 in
    let compatible = rw (read, sym named) at accepted.2 in
    let sum = sum-stored (monoid_named monoid) o c.store.result.now offered compatible c.store.ensures.object c.store.ensures.store in
    to_z-of_z w128 c.value_of.result fits ∙ c.value_of.ensures
    ∙ ap (value_of monoid.op.domain) (c.reduce_all_by-sum.ensures ∙ sum)
    ∙ ap (λ (name : MonoidName). value_of name.domain (sum_in name o)) named
    ∙ ap (λ (p : Object). value_of c.args.monoid.domain (sum_in c.args.monoid p)) (sym read)
