-- The session makes the object, and the name stands for it; or all is as it was, but that values may have come to be
-- there.
use Rattle.std.proofs.Common.{◌≡◌, ◌∙◌, ℕ, cond, false, List, Some, Err, arith, ap, inl, inr, is_some, refl, rules, true}
use Rattle.std.specs.HashMap.{get_by_text}
use Rattle.std.specs.Str.{bytes_eq}
use Rattle.std.specs.String.{string_bytes}
use Rattle.calls.specs.declared.obj.Obj.{Obj}
use Rattle.model.specs.declared.call.Call.TheVariants.{Create}
use Rattle.model.specs.declared.status.Status.TheVariants as status
use Rattle.model.specs.Marks.{Unmarked}
use Rattle.model.specs.Object.{empty_object}
use Rattle.model.specs.Run.{Environment}
use Rattle.model.proofs.SettlesLaws.{settles-self}
use Rattle.script.specs.Named.{number_in, state_in}
use Rattle.script.proofs.CreateLaws.{fault-taken, left-created}
use Rattle.script.proofs.MadeLaws.{create-same, made-created, made-ends, made-there, names-after, refused-name, refused-named, unmade-ends, unmade-kept}
use Rattle.session.specs.Performed.{environment_of, next_object, state_of}
use Rattle.session.proofs.PerformedLaws.{unmarked-absent}
use Rattle.script.proofs.environment.Environment.create.Goals as goal

pub returns-then-contains_key : goal.returns-then-contains_key
returns-then-contains_key g c =
    let names = c.args.self.now in
    let taken : is_some (number_in names c.args.name.now) ≡ true = search rules in
    record {
      ends = inl (inl (fault-taken (number_in names) (environment_of names.session) c.args.name.now c.args.domain c.args.shape names.there taken, refl));
      made = omega arith;
    }

pub returns-in_err-name : goal.returns-in_err-name
returns-in_err-name g c =
    refused-named c.args.self.now c.args.self.now (Create c.args.name.now c.args.domain c.args.shape) c.from_residual.result c.from_residual.ensures.1 (settles-self (state_in c.args.self.now)) (omega arith)

pub invariant_of-self : goal.invariant_of-self
invariant_of-self g c =
    let names = c.args.self.now in
    let free : is_some (number_in names c.args.name.now) ≡ false = search rules in
    let kept = unmade-kept (number_in names) names.session c.create.new.self (Create (next_object names.session) c.args.domain c.args.shape) (Create c.args.name.now c.args.domain c.args.shape) refl refl
    (create-same (number_in names) names.session c.args.name.now c.args.domain c.args.shape c.requires free) _ c.in_err-object.ensures.performed.ends in
    record {
      distinct = names.distinct;
      there = λ name object is. ap (λ (env : Environment Obj). is_some (env.find_object object)) kept ∙ names.there name object is;
    }

pub returns-in_err-object : goal.returns-in_err-object
returns-in_err-object g c =
    let names = c.args.self.now in
    let free : is_some (number_in names c.args.name.now) ≡ false = search rules in
    let refused : c.from_residual-in_err-object.result ≡ Err c.in_err-object.field-0.0 = search rules in
    rw refused (record {
      ends = unmade-ends (number_in names) names.session c.create.new.self (Create (next_object names.session) c.args.domain c.args.shape) (Create c.args.name.now c.args.domain c.args.shape) refl refl
          (create-same (number_in names) names.session c.args.name.now c.args.domain c.args.shape c.requires free) _ c.in_err-object.ensures.performed.ends;
      made = rw c.in_err-object.ensures.performed.made (omega arith);
    })

pub put-requires : goal.put-requires
put-requires g c =
    let names = c.args.self.now in
    rw c.in_ok-object.ensures.made (made-there (state_of names.session) (state_of c.create.new.self) (next_object names.session) (empty_object c.args.domain c.args.shape) Unmarked
    (made-created (state_of names.session) (state_of c.create.new.self) (next_object names.session) c.args.domain c.args.shape c.in_ok-object.ensures.performed.ends.left))

pub invariant_of-self-2 : goal.invariant_of-self-2
invariant_of-self-2 g c =
    let names = c.args.self.now in
    let next = next_object names.session in
    let after = names-after c.put.result (number_in names) (λ name. get_by_text c.put.new.numbers name) (state_of names.session) (state_of c.create.new.self) (state_of c.put.new.session) (string_bytes c.in_ok-name.name) next (empty_object c.args.domain c.args.shape) Unmarked
    (made-created (state_of names.session) (state_of c.create.new.self) next c.args.domain c.args.shape c.in_ok-object.ensures.performed.ends.left)
    c.in_ok-object.ensures.unused (unmarked-absent names.session next c.in_ok-object.ensures.unused) names.distinct names.there (rw c.in_ok-object.ensures.made at c.put.ensures.named) (search rules) c.put.ensures.kept (rw c.in_ok-object.ensures.made at c.put.ensures.gone) in
    record { distinct = after.0; there = after.1 }

pub returns-in_err-put : goal.returns-in_err-put
returns-in_err-put g c =
    let names = c.args.self.now in
    let next = next_object names.session in
    let refused : c.from_residual-in_err-put.result ≡ Err status.OutOfMemory = search rules in
    rw refused (record {
      ends = inr (inr (
        refl,
        refused-name (number_in names) (λ name. get_by_text c.put.new.numbers name) (state_of names.session) (state_of c.create.new.self) (state_of c.put.new.session) next (empty_object c.args.domain c.args.shape) Unmarked
            (made-created (state_of names.session) (state_of c.create.new.self) next c.args.domain c.args.shape c.in_ok-object.ensures.performed.ends.left)
            c.in_ok-object.ensures.unused (unmarked-absent names.session next c.in_ok-object.ensures.unused) c.in_err-put.ensures.kept (rw c.in_ok-object.ensures.made at c.in_err-put.ensures.gone),
      ));
      made = rw (c.in_err-put.ensures.count, c.in_ok-object.ensures.performed.made) (omega arith);
    })

pub returns : goal.returns
returns g c =
    let names = c.args.self.now in
    let next = next_object names.session in
    let free : is_some (number_in names c.args.name.now) ≡ false = search rules in
    let named : string_bytes c.in_ok-name.name ≡ c.args.name.now = search rules in
    let adds : (q : List ℕ) → get_by_text c.put.new.numbers q ≡ cond (bytes_eq c.args.name.now q) (Some next) (get_by_text names.numbers q) =
    λ q. rw (named, c.in_ok-object.ensures.made) at (c.in_ok-put.ensures.named q) in
    record {
      ends = rw c.in_ok-put.ensures.made (made-ends (number_in names) names.session c.create.new.self (Create next c.args.domain c.args.shape) (Create c.args.name.now c.args.domain c.args.shape) refl refl
          (create-same (number_in names) names.session c.args.name.now c.args.domain c.args.shape c.requires free)
          (λ name. get_by_text c.put.new.numbers name) c.in_ok-object.object refl refl
          (left-created (number_in names) (λ name. get_by_text c.put.new.numbers name) (state_of names.session) c.args.name.now next adds names.there c.in_ok-object.ensures.unused names.distinct c.args.domain c.args.shape)
          c.in_ok-object.ensures.performed.ends);
      made = rw (c.in_ok-put.ensures.count, c.in_ok-object.ensures.performed.made) (omega arith);
    }
