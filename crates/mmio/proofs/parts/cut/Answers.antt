-- A text is cut behind a line feed, or not at all.
use Rattle.std.proofs.Common.{◌≡◌, ◌+◌, ◌++◌, ◌<◌, length, get_or, arith, sym, ap, ◌∙◌}
use Rattle.std.proofs.lemmas.Bool.Decides.{nat_tests}
use Rattle.std.proofs.lemmas.List.{append-nil, get_or-drop, length-drop}
use Rattle.mmio.specs.Listing.{words_told}
use Rattle.mmio.proofs.PartLaws.{words_told-cut, words_told-none}
use Rattle.mmio.proofs.parts.cut.Goals as goal

pub returns-in-Some-clause-words : goal.returns-in-Some-clause-words
returns-in-Some-clause-words c =
    let text = c.args.text.now in
    let k = c.args.place + c.in-Some.at in
    let inside : k < length text = omega (arith, c.in-Some.ensures.0.high, length-drop c.args.place text) in
    let feed : get_or text k 0 ≡ 10 = grind (arith, nat_tests, c.in-Some.ensures.1, get_or-drop c.args.place text c.in-Some.at 0) in
    rw (c.split_at-in-Some.ensures.front, c.split_at-in-Some.ensures.back) (words_told-cut text k inside feed)

pub returns-in-None-clause-words : goal.returns-in-None-clause-words
returns-in-None-clause-words c = sym (append-nil _) ∙ ap (λ none. words_told c.args.text.now ++ none) (sym words_told-none)
