-- The first byte of a load is an `l`.
use Rattle.std.proofs.Common.{◌≡◌, ◌∙◌, Some, None, not, refl, rules}
use Rattle.std.specs.List.{find}
use Rattle.model.specs.Grammar.{is_blank}
use Rattle.lines.proofs.LoadLaws.{first_byte_of_load}
use Rattle.lines.proofs.loads.may_load.Goals as goal

pub returns-in-Some : goal.returns-in-Some
returns-in-Some c = λ h.
    let is : Some c.in-Some.first ≡ Some 108 = c.in-Some.ensures ∙ first_byte_of_load c.args.line.now h in
    let first : c.in-Some.first ≡ 108 = cc in
    rw first refl

pub returns-in-None : goal.returns-in-None
returns-in-None c = λ h.
    let none : find (λ byte. not (is_blank byte)) c.args.line.now ≡ None = search rules in
    absurd (let bad : None ≡ Some 108 = rw none at (first_byte_of_load c.args.line.now h) in cc)
