-- What begins with no blank begins with a word.
use Rattle.std.proofs.Common.{◌<◌, length, arith}
use Rattle.std.proofs.lemmas.Bool.Decides.{nat_tests}
use Rattle.mmio.proofs.FrontLaws.{words_of-first}
use Rattle.mmio.proofs.fronts.first_word.Goals as goal

pub returns : goal.returns
returns c =
    let some : 0 < length c.without_blanks-text.result.now = grind (arith, nat_tests) in
    let parts = words_of-first c.without_blanks-text.result.now some (c.without_blanks-text.ensures.begins some) in
    let e = c.without_blanks-text.ensures.words in
    cc
