-- The object is there, and there is a number after the next one.
use Rattle.std.proofs.Common.{◌∙◌, ◌+◌, ◌==◌, ◌^◌, ◌-◌, [], ℕ, ap, is_some, refl}
use Rattle.calls.specs.declared.obj.Obj.{Obj}
use Rattle.model.specs.declared.call.Call.TheVariants.{Dup}
use Rattle.calls.specs.Stores.{object_with}
use Rattle.model.specs.Marks.{Mark, State, told, with_mark}
use Rattle.model.specs.Object.{Object}
use Rattle.model.specs.Run.{Environment, object_at, with_object}
use Rattle.objects.specs.Tables.{same_object}
use Rattle.objects.specs.Values.{map_with, mark_with}
use Rattle.session.specs.Performed.{count_in, environment_of, next_object, state_of}
use Rattle.session.proofs.AcceptedLaws.{dup-accepted, number_left-dup}
use Rattle.session.proofs.NumberLaws.{not_there}
use Rattle.session.proofs.EpochLaws.{early-settled, performed-settled, refused-settled, settles-on}
use Rattle.session.proofs.PerformedLaws.{performed-dup}
use Rattle.session.proofs.StateLaws.{later-put}
use Rattle.session.proofs.sessions.Session.dup.Goals as goal

abbrev put_under : State Obj → ℕ → Object → Mark → State Obj
put_under s n o mark =
    with_mark same_object s (with_object same_object s.environment (record { 0 = n }) o (s.environment.count + 1)) (record { 0 = n }) mark

pub known-of-requires : goal.known-of-requires
known-of-requires g c = ap (λ (env : Environment Obj). is_some (env.find_object c.args.object)) c.begin.ensures.settles.environment ∙ (dup-accepted (count_in c.args.self.now) ((environment_of c.args.self.now).find_object c.args.object) c.in_ok-check_dup.ensures).0

pub copied-requires : goal.copied-requires
copied-requires g c = record { there = ap (λ (env : Environment Obj). is_some (env.find_object c.args.object)) c.begin.ensures.settles.environment ∙ (dup-accepted (count_in c.args.self.now) ((environment_of c.args.self.now).find_object c.args.object) c.in_ok-check_dup.ensures).0 }

pub insert-requires-clause-left : goal.insert-requires-clause-left
insert-requires-clause-left g c =
    ap (λ (n : ℕ). n == 2 ^ 64 - 1) (c.copied.ensures.made ∙ c.begin.ensures.made)
    ∙ number_left-dup c.args.self.now.next (environment_of c.args.self.now).count ((environment_of c.args.self.now).find_object c.args.object) c.in_ok-check_dup.ensures

pub insert-requires-clause-value : goal.insert-requires-clause-value
insert-requires-clause-value g c = rw c.known-of.ensures c.in_ok-value.ensures.value.is_value

pub returns-in_err-value-clause-performed : goal.returns-in_err-value-clause-performed
returns-in_err-value-clause-performed g c =
    refused-settled c.args.self.now c.copied.new.self (settles-on _ _ _ c.begin.ensures.settles c.copied.ensures.state) (c.copied.ensures.made ∙ c.begin.ensures.made)
    (Dup (next_object c.args.self.now) c.args.object) c.from_residual-in_err-value.result c.from_residual-in_err-value.ensures.1

pub returns-in_err-made-clause-performed : goal.returns-in_err-made-clause-performed
returns-in_err-made-clause-performed g c =
    refused-settled c.args.self.now c.insert.new.self (settles-on _ _ _ c.begin.ensures.settles (c.in_err-made.ensures.kept ∙ c.copied.ensures.state)) (c.in_err-made.ensures.unmade ∙ c.copied.ensures.made ∙ c.begin.ensures.made)
    (Dup (next_object c.args.self.now) c.args.object) c.from_residual-in_err-made.result c.from_residual-in_err-made.ensures.1

pub returns-in_err-begin-clause-performed : goal.returns-in_err-begin-clause-performed
returns-in_err-begin-clause-performed g c =
    refused-settled c.args.self.now c.begin.new.self c.begin.ensures.settles c.begin.ensures.made (Dup (next_object c.args.self.now) c.args.object) c.from_residual-in_err-begin.result c.from_residual-in_err-begin.ensures.1

pub returns-clause-performed : goal.returns-clause-performed
returns-clause-performed g c =
    let old = c.args.self.now in
    let session = c.begin.new.self in
    let settles = c.begin.ensures.settles in
    let s = state_of session in
    let o = object_at (environment_of session) c.args.object in
    performed-settled old session settles c.begin.ensures.made c.insert.new.self (Dup (next_object old) c.args.object) _ refl c.in_ok-check_dup.ensures refl
    (performed-dup session c.insert.new.self (next_object old) c.args.object _
    (early-settled old session settles c.begin.ensures.made (Dup (next_object old) c.args.object) ∙ c.in_ok-check_dup.ensures)
    (c.in_ok-made.ensures.put
    ∙ (λ t. put_under (c.copied.ensures.state t) ((c.copied.ensures.made ∙ c.begin.ensures.made) t) (object_with c.known-of.result (map_with g.R.Runner.object_of [] c.in_ok-value.value)) (mark_with [] c.in_ok-value.value))
    ∙ later-put g.R.Runner.object_of s (next_object old) o ((environment_of session).count + 1) (told s c.args.object) c.in_ok-value.value c.known-of.result c.in_ok-value.ensures.value c.known-of.ensures)
    (c.in_ok-made.ensures.made ∙ ap (λ (n : ℕ). n + 1) c.copied.ensures.made))

pub returns-in_err-begin-clause-unused : goal.returns-in_err-begin-clause-unused
returns-in_err-begin-clause-unused g c = not_there (environment_of c.args.self.now) (next_object c.args.self.now) c.args.self.now.fresh

pub returns-in_err-check_dup-clause-unused : goal.returns-in_err-check_dup-clause-unused
returns-in_err-check_dup-clause-unused g c = not_there (environment_of c.args.self.now) (next_object c.args.self.now) c.args.self.now.fresh

pub returns-in_err-value-clause-unused : goal.returns-in_err-value-clause-unused
returns-in_err-value-clause-unused g c = not_there (environment_of c.args.self.now) (next_object c.args.self.now) c.args.self.now.fresh

pub returns-in_err-made-clause-unused : goal.returns-in_err-made-clause-unused
returns-in_err-made-clause-unused g c = not_there (environment_of c.args.self.now) (next_object c.args.self.now) c.args.self.now.fresh

pub returns-clause-unused : goal.returns-clause-unused
returns-clause-unused g c = not_there (environment_of c.args.self.now) (next_object c.args.self.now) c.args.self.now.fresh
