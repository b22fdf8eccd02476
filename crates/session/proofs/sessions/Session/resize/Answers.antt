-- The object is there, since the call was accepted.
use Rattle.std.proofs.Common.{◌∙◌, [], ap, is_some, refl}
use Rattle.model.specs.declared.call.Act.TheVariants.{Resize}
use Rattle.model.specs.declared.call.Call.TheVariants.{On}
use Rattle.model.specs.declared.shape.Signature.{Signature}
use Rattle.calls.specs.declared.obj.Obj.{Obj}
use Rattle.calls.specs.Stores.{object_with}
use Rattle.model.specs.Marks.{State, told}
use Rattle.model.specs.Run.{Environment, object_at, resized}
use Rattle.objects.specs.Tables.{with_kept}
use Rattle.objects.specs.Values.{map_with, mark_with}
use Rattle.session.specs.Performed.{count_in, environment_of, state_of}
use Rattle.session.proofs.AcceptedLaws.{act-there}
use Rattle.session.proofs.EpochLaws.{early-settled, performed-settled, refused-settled, settles-on}
use Rattle.session.proofs.PerformedLaws.{late-none, performed-edit}
use Rattle.session.proofs.StateLaws.{later-put}
use Rattle.session.proofs.sessions.Session.resize.Goals as goal

pub returns-in_err-begin : goal.returns-in_err-begin
returns-in_err-begin g c =
    refused-settled c.args.self.now c.begin.new.self c.begin.ensures.settles c.begin.ensures.made (On c.args.object (Resize c.args.shape)) c.from_residual-in_err-begin.result c.from_residual-in_err-begin.ensures.1

pub known-of-requires : goal.known-of-requires
known-of-requires g c =
    ap (λ (env : Environment Obj). is_some (env.find_object c.args.object)) c.begin.ensures.settles.environment
    ∙ act-there (count_in c.args.self.now) ((environment_of c.args.self.now).find_object c.args.object) (Resize c.args.shape) c.in_ok-check_resize.ensures

pub resized-requires-clause-there : goal.resized-requires-clause-there
resized-requires-clause-there g c =
    ap (λ (env : Environment Obj). is_some (env.find_object c.args.object)) c.begin.ensures.settles.environment
    ∙ act-there (count_in c.args.self.now) ((environment_of c.args.self.now).find_object c.args.object) (Resize c.args.shape) c.in_ok-check_resize.ensures

pub returns-in_err-value : goal.returns-in_err-value
returns-in_err-value g c =
    refused-settled c.args.self.now c.resized.new.self (settles-on _ _ _ c.begin.ensures.settles c.resized.ensures.state) (c.resized.ensures.made ∙ c.begin.ensures.made)
    (On c.args.object (Resize c.args.shape)) c.from_residual-in_err-value.result c.from_residual-in_err-value.ensures.1

pub put-requires-clause-there : goal.put-requires-clause-there
put-requires-clause-there g c =
    ap (λ (s : State Obj). is_some (s.environment.find_object c.args.object)) c.resized.ensures.state
    ∙ ap (λ (env : Environment Obj). is_some (env.find_object c.args.object)) c.begin.ensures.settles.environment
    ∙ act-there (count_in c.args.self.now) ((environment_of c.args.self.now).find_object c.args.object) (Resize c.args.shape) c.in_ok-check_resize.ensures

pub put-requires-clause-value : goal.put-requires-clause-value
put-requires-clause-value g c = rw c.known-of.ensures c.in_ok-value.ensures.value.is_value

pub returns : goal.returns
returns g c =
    let session = c.begin.new.self in
    let settles = c.begin.ensures.settles in
    let s = state_of session in
    let o = object_at (environment_of session) c.args.object in
    performed-settled c.args.self.now session settles c.begin.ensures.made c.put.new.self (On c.args.object (Resize c.args.shape)) _ refl c.in_ok-check_resize.ensures
    (late-none c.args.self.now session c.args.object (Resize c.args.shape) tt)
    (performed-edit session c.put.new.self c.args.object (Resize c.args.shape) (resized o c.args.shape) _ refl
    (early-settled c.args.self.now session settles c.begin.ensures.made (On c.args.object (Resize c.args.shape)) ∙ c.in_ok-check_resize.ensures)
    (c.put.ensures.state
    ∙ ap (λ (s : State Obj). with_kept s c.args.object (object_with (record c.known-of.result { shape = c.args.shape }) (map_with g.R.Runner.object_of [] c.in_ok-value.value)) (mark_with [] c.in_ok-value.value)) c.resized.ensures.state
    ∙ later-put g.R.Runner.object_of s c.args.object (resized o c.args.shape) (environment_of session).count (told s c.args.object) c.in_ok-value.value
    (record c.known-of.result { shape = c.args.shape }) c.in_ok-value.ensures.value (ap (λ (of : Signature). let now : Signature = record of { shape = c.args.shape } in now) c.known-of.ensures))
    (c.put.ensures.made ∙ c.resized.ensures.made))
