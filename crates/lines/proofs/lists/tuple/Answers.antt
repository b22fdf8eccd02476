-- A tuple by the numbers that its items begin with.
use Rattle.std.proofs.Common.{◌≡◌, ◌∙◌, ◌<◌, ◌^◌, ◌∷◌, [], ap, pos, rules, sym, to_z}
use Rattle.std.specs.Int.{w128}
use Rattle.std.proofs.lemmas.Int.{to_z_pos}
use Rattle.model.specs.Grammar.{items_of, nth_word}
use Rattle.lines.proofs.TupleLaws.{items_of-first, tuple_of-no_index, tuple_of-number, tuple_of-one, tuple_of-one_item, tuple_of-two}
use Rattle.lines.proofs.lists.tuple.Goals as goal

pub returns-in_err-first : goal.returns-in_err-first
returns-in_err-first c = c.from_residual.ensures ∙ sym (tuple_of-no_index c.args.word.now (sym c.in_err-first.ensures.number))

pub returns-in_err-rest : goal.returns-in_err-rest
returns-in_err-rest c =
    let word = c.args.word.now in
    let items = items_of-first word [] (rw c.in_err-rest.was at c.in_ok-first.ensures.others) in
    c.from_residual-in_err-rest.ensures ∙ sym (tuple_of-one_item word (nth_word (items_of word) 0) items)

pub returns-in_default : goal.returns-in_default
returns-in_default c =
    let word = c.args.word.now in
    let rest = c.in_ok-rest.rest.now in
    let items = items_of-first word (items_of rest) (rw c.in_ok-rest.was at c.in_ok-first.ensures.others) in
    c.tuple_at.ensures ∙ sym (tuple_of-one word (nth_word (items_of word) 0) rest c.in_ok-first.first items (sym c.in_ok-first.ensures.number) (sym c.in_default.ensures.number))

pub returns-in-Some-last : goal.returns-in-Some-last
returns-in-Some-last c =
    let word = c.args.word.now in
    let rest = c.in_ok-rest.rest.now in
    let last = c.in-Some-last.value.now in
    let items = items_of-first word (items_of rest) (rw c.in_ok-rest.was at c.in_ok-first.ensures.others) in
    let others = items_of-first rest (items_of last) (rw c.in-Some-last.is at c.in-Some.ensures.others) in
    c.tuple_at-in-Some-last.ensures ∙ sym (tuple_of-two word (nth_word (items_of word) 0) rest (nth_word (items_of rest) 0) last c.in_ok-first.first c.in-Some.second items others (sym c.in_ok-first.ensures.number) (sym c.in-Some.ensures.number))

pub returns-in-None : goal.returns-in-None
returns-in-None c =
    let word = c.args.word.now in
    let rest = c.in_ok-rest.rest.now in
    let items = items_of-first word (items_of rest) (rw c.in_ok-rest.was at c.in_ok-first.ensures.others) in
    let others = items_of-first rest [] (rw c.in-None.is at c.in-Some.ensures.others) in
    let both : items_of word ≡ nth_word (items_of word) 0 ∷ nth_word (items_of rest) 0 ∷ [] = items ∙ ap (λ more. nth_word (items_of word) 0 ∷ more) others in
    let tuple = tuple_of-number word (nth_word (items_of word) 0) (nth_word (items_of rest) 0) c.in_ok-first.first c.in-Some.second both (sym c.in_ok-first.ensures.number) (sym c.in-Some.ensures.number) in
    let small : c.in-Some.second < 2 ^ 127 = search rules in
    let wide : to_z w128 c.in-Some.second ≡ pos c.in-Some.second = to_z_pos w128 c.in-Some.second small in
    rw (c.from-value.ensures, wide) (sym tuple)
