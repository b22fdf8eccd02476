-- Each turn reads the first item of what is left.
use Rattle.std.proofs.Common.{◌∙◌, drop, sym, ap, refl}
use Rattle.model.specs.Grammar.{all_read, items_of, nth_word, number_of}
use Rattle.lines.proofs.ReadLaws.{behind, read-more, read-none}
use Rattle.lines.proofs.TupleLaws.{items_of-first}
use Rattle.lines.proofs.lists.numbers.Goals as goal

pub returns-in_default-leading_number : goal.returns-in_default-leading_number
returns-in_default-leading_number c =
    let rest = c.in-Some.rest.now in
    let items = items_of-first rest (drop 1 (items_of rest)) refl in
    let before = rw c.in-Some.is at c.loop-left.invariant in
    before ∙ ap (λ words. behind c.loop-left.numbers.items (all_read number_of words)) items ∙ read-none number_of c.loop-left.numbers.items (nth_word (items_of rest) 0) (drop 1 (items_of rest)) (sym c.in_default-leading_number.ensures.number)

pub loop-left-preserved : goal.loop-left-preserved
loop-left-preserved c =
    let rest = c.in-Some.rest.now in
    let items = items_of-first rest _ c.in-Some-leading_number.ensures.others in
    let before = rw c.in-Some.is at c.loop-left.invariant in
    let more = before ∙ ap (λ words. behind c.loop-left.numbers.items (all_read number_of words)) items ∙ read-more number_of c.loop-left.numbers.items (nth_word (items_of rest) 0) _ c.in-Some-leading_number.number (sym c.in-Some-leading_number.ensures.number) in
    rw c.in_ok-push.ensures.items more
