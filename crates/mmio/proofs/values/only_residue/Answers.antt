-- The digits behind a sign say the value where they end the only word.
use Rattle.std.proofs.Common.{refl}
use Rattle.mmio.proofs.ValueLaws.{only_residue-digits, only_residue-other}
use Rattle.mmio.proofs.values.only_residue.Goals as goal

pub returns-in-Some : goal.returns-in-Some
returns-in-Some c =
    let said = only_residue-digits c.args.line.now c.without_blanks-text.result.now _ _ _ _ c.without_blanks-text.ensures.words c.without_blanks-text.ensures.begins
    c.without_sign-is_negative.ensures.sign c.without_sign-is_negative.ensures.rest c.in-Some.ensures.found c.in-Some.ensures.value c.in-Some.ensures.rest in
    rw (said, ← c.if-is_empty.ensures, c.signed_word.ensures) refl

pub returns-in-Some-2 : goal.returns-in-Some-2
returns-in-Some-2 c =
    let said = only_residue-digits c.args.line.now c.without_blanks-text.result.now _ _ _ _ c.without_blanks-text.ensures.words c.without_blanks-text.ensures.begins
    c.without_sign-is_negative.ensures.sign c.without_sign-is_negative.ensures.rest c.in-Some.ensures.found c.in-Some.ensures.value c.in-Some.ensures.rest in
    rw (said, ← c.if-is_empty.ensures) refl

pub returns-in-None : goal.returns-in-None
returns-in-None c =
    let said = only_residue-other c.args.line.now c.without_blanks-text.result.now _ c.without_blanks-text.ensures.words c.without_blanks-text.ensures.begins
    c.without_sign-is_negative.ensures.rest c.in-None.ensures.found in
    rw (said, ← c.if-has_one_word.ensures) refl
