-- The object is there, since the call was accepted, and the tuples are of its shape and its domain.
use Rattle.std.proofs.Common.{◌≡◌, ◌∙◌, ap, refl, rules, subst, sym}
use Rattle.std.specs.Arc.{arc_value}
use Rattle.calls.specs.declared.obj.Obj.{Obj}
use Rattle.calls.specs.Stores.{IsStoreOf, object_with}
use Rattle.model.specs.declared.call.Act.TheVariants.{Build}
use Rattle.model.specs.declared.shape.Signature.{Signature}
use Rattle.model.specs.declared.status.Status.TheVariants.{OutputNotEmpty}
use Rattle.model.specs.Builds.{are_inside, are_values_of, built}
use Rattle.model.specs.Object.{Object, signature_of}
use Rattle.model.specs.Run.{Environment, object_at}
use Rattle.model.proofs.ObjectLaws.{objects_equal}
use Rattle.session.specs.Performed.{count_in, environment_of, state_of}
use Rattle.session.proofs.AcceptedLaws.{BuildsOn, act-there, build-accepted, some-there}
use Rattle.session.proofs.PerformedLaws.{performed-build, read-kept, refused-late, refused-read-as}
use Rattle.session.proofs.ResultLaws.{built-is_store, late-build, late-full, no-entries, some-entries}
use Rattle.store.specs.Stored.{Stored, content_of}
use Rattle.session.proofs.sessions.Session.build.Goals as goal

pub finish-requires : goal.finish-requires
finish-requires g c = record { there = act-there (count_in c.args.self.now) ((environment_of c.args.self.now).find_object c.args.object) (Build c.args.dup c.args.tuples) c.in_ok-op.ensures.fault }

pub returns-then-nvals-gt0 : goal.returns-then-nvals-gt0
returns-then-nvals-gt0 g c =
    let old = c.args.self.now in
    let new = c.finish.new.self in
    let find = (environment_of old).find_object c.args.object in
    let there = some-there find (act-there (count_in old) find (Build c.args.dup c.args.tuples) c.in_ok-op.ensures.fault) in
    let kept = ap (λ (env : Environment Obj). object_at env c.args.object) (read-kept old new c.args.object c.in_ok-finish.ensures.ends) in
    let full = some-entries (object_at (environment_of new) c.args.object) c.store.result.now c.nvals.result c.nvals.ensures (search rules) c.store.ensures.object c.store.ensures.store in
    refused-late old new c.args.object (Build c.args.dup c.args.tuples) OutputNotEmpty c.in_ok-op.ensures.fault
    (late-full find (object_at (environment_of old) c.args.object) c.args.dup c.args.tuples there (rw kept at full)) refl c.in_ok-finish.ensures.ends c.finish.ensures.made

pub build-requires-clause-inside : goal.build-requires-clause-inside
build-requires-clause-inside g c =
    let old = c.args.self.now in
    let builds = (build-accepted (count_in old) ((environment_of old).find_object c.args.object) c.args.dup c.args.tuples c.in_ok-op.ensures.fault).1 in
    let kept = ap (λ (env : Environment Obj). signature_of (object_at env c.args.object)) (read-kept old c.finish.new.self c.args.object c.in_ok-finish.ensures.ends) in
    ap (λ (of : Signature). are_inside of.shape c.args.tuples) (c.known-of.ensures ∙ kept) ∙ builds.inside

pub build-requires-clause-values : goal.build-requires-clause-values
build-requires-clause-values g c =
    let old = c.args.self.now in
    let builds = (build-accepted (count_in old) ((environment_of old).find_object c.args.object) c.args.dup c.args.tuples c.in_ok-op.ensures.fault).1 in
    let kept = ap (λ (env : Environment Obj). signature_of (object_at env c.args.object)) (read-kept old c.finish.new.self c.args.object c.in_ok-finish.ensures.ends) in
    ap (λ (of : Signature). are_values_of of.domain c.args.tuples) (c.known-of.ensures ∙ kept) ∙ builds.values

pub returns-in_err-store : goal.returns-in_err-store
returns-in_err-store g c =
    refused-read-as c.args.self.now c.finish.new.self c.args.object (Build c.args.dup c.args.tuples) c.from_residual-in_err-store.result c.from_residual-in_err-store.ensures.1 c.in_ok-finish.ensures.ends c.finish.ensures.made

pub returns-in_err-store-2 : goal.returns-in_err-store-2
returns-in_err-store-2 g c =
    refused-read-as c.args.self.now c.finish.new.self c.args.object (Build c.args.dup c.args.tuples) c.from_residual-in_err-store-2.result c.from_residual-in_err-store-2.ensures.1 c.in_ok-finish.ensures.ends c.finish.ensures.made

pub put-requires-clause-value : goal.put-requires-clause-value
put-requires-clause-value g c =
    let old = c.args.self.now in
    let now = object_at (environment_of c.finish.new.self) c.args.object in
    let builds = (build-accepted (count_in old) ((environment_of old).find_object c.args.object) c.args.dup c.args.tuples c.in_ok-op.ensures.fault).1 in
    let kept = ap (λ (env : Environment Obj). object_at env c.args.object) (read-kept old c.finish.new.self c.args.object c.in_ok-finish.ensures.ends) in
    let on : BuildsOn now c.args.dup c.args.tuples = subst (λ (o : Object). BuildsOn o c.args.dup c.args.tuples) (sym kept) builds in
    let content = rw (c.in_ok-op.ensures.op, c.known-of.ensures) at c.in_ok-store.ensures.content in
    let rows = rw c.known-of.ensures at c.in_ok-store.ensures.rows in
    let cols = rw c.known-of.ensures at c.in_ok-store.ensures.cols in
    let fits : IsStoreOf (signature_of now) c.in_ok-store.store = built-is_store now c.args.dup c.args.tuples c.in_ok-store.store on rows cols content in
    (rw c.known-of.ensures (subst (IsStoreOf (signature_of now)) (sym c.in_ok-store-2.ensures) fits), tt)

pub returns : goal.returns
returns g c =
    let old = c.args.self.now in
    let new = c.finish.new.self in
    let find = (environment_of old).find_object c.args.object in
    let o = object_at (environment_of old) c.args.object in
    let there = some-there find (act-there (count_in old) find (Build c.args.dup c.args.tuples) c.in_ok-op.ensures.fault) in
    let kept = ap (λ (env : Environment Obj). object_at env c.args.object) (read-kept old new c.args.object c.in_ok-finish.ensures.ends) in
    let zero : c.nvals.result ≡ 0 = search rules in
    let empty = no-entries (object_at (environment_of new) c.args.object) c.store.result.now c.nvals.result c.nvals.ensures zero c.store.ensures.object c.store.ensures.store in
    let known : c.known-of.result ≡ signature_of o = c.known-of.ensures ∙ ap signature_of kept in
    let content = rw (c.in_ok-op.ensures.op, known) at c.in_ok-store.ensures.content in
    let made : Object = record o { content = built c.args.dup o.domain c.args.tuples } in
    let is : object_with c.known-of.result (content_of (arc_value c.in_ok-store-2.store)) ≡ made =
    (λ t. object_with (known t) (let s : Stored = c.in_ok-store-2.ensures t in content_of s))
    ∙ objects_equal (object_with (signature_of o) (content_of c.in_ok-store.store)) made refl refl content in
    performed-build old c.put.new.self c.args.object c.args.dup c.args.tuples (state_of new) (object_with c.known-of.result (content_of (arc_value c.in_ok-store-2.store))) _ c.in_ok-op.ensures.fault
    (late-build find o c.args.dup c.args.tuples there (rw kept at empty)) c.in_ok-finish.ensures.ends c.put.ensures.state is (c.put.ensures.made ∙ c.finish.ensures.made)
