-- What `parse` reads of a word without a sign is what the definition reads.
use Rattle.std.proofs.Common.{◌≡◌, ◌≢◌, ◌≤◌, ◌∙◌, None, get_or, length, sym, rules}
use Rattle.std.specs.Result.{result_ok}
use Rattle.std.specs.Str.{IsUtf8}
use Rattle.std.specs.Str.Parse.{ParsesUnsigned}
use Rattle.std.proofs.lemmas.Str.Parse.{parse_plain}
use Rattle.algebra.proofs.Digits.{fails-without, numerals, read-user_number, user_number-no_text}
use Rattle.algebra.proofs.names.user_number.Goals as goal

pub returns : goal.returns
returns c =
    let text : c.in_ok-ok.field-0.now ≡ c.args.digits.now = search rules in
    let no_sign : get_or c.args.digits.now 0 0 ≢ 43 = search rules in
    let short : length c.args.digits.now ≤ 10 = search rules in
    let parsed : ParsesUnsigned 32 10 c.args.digits.now c.parse.result = rw text at c.parse.ensures.value.0 in
    c.ok-2.ensures.value ∙ read-user_number c.args.digits.now c.parse.result short (parse_plain numerals 32 c.args.digits.now c.parse.result parsed no_sign)

pub returns-in_err-ok : goal.returns-in_err-ok
returns-in_err-ok c =
    let failed : result_ok c.from_utf8.result ≡ None = sym c.ok.ensures.value ∙ c.in_err-ok.was in
    c.from_residual.ensures ∙ user_number-no_text c.args.digits.now (fails-without _ _ (IsUtf8 c.args.digits.now) c.from_utf8.result failed c.from_utf8.ensures.cases)
