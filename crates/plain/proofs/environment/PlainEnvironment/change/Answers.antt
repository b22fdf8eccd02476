-- What the call makes stands in the place of its name.
use Rattle.std.proofs.Common.{◌≡◌, ◌∙◌, ap, subst, MatchResult, None, Some}
use Rattle.std.specs.Str.{bytes_eq}
use Rattle.std.specs.String.{string_bytes}
use Rattle.model.specs.Grammar.{Name}
use Rattle.model.specs.Run.{Environment, with_object}
use Rattle.plain.specs.Environments.{environment_of, named, with_name}
use Rattle.plain.specs.Evaluated.{object_of}
use Rattle.plain.proofs.EffectLaws.{effect-is}
use Rattle.plain.proofs.environment.PlainEnvironment.change.Goals as goal

pub returns-in-Some : goal.returns-in-Some
returns-in-Some c =
    let old = c.args.self.now in
    let o = c.in-Some.object in
    let is = ap (λ live. with_object bytes_eq (environment_of old) (string_bytes o.name) (object_of o) live) c.count_after-live.ensures
    ∙ effect-is old (named c.args.call.now) (Some (with_name o)) c.requires.stays (rw c.in-Some.is at c.in_ok-object.ensures) in
    subst (λ (left : Environment Name). MatchResult c.put.result (λ done. environment_of c.put.new.self ≡ left) (λ refused. environment_of c.put.new.self ≡ environment_of old)) is c.put.ensures

pub returns-in-None : goal.returns-in-None
returns-in-None c = effect-is c.args.self.now (named c.args.call.now) None c.requires.stays (rw c.in-None.is at c.in_ok-object.ensures)
