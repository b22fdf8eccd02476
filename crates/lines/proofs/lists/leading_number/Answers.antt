-- The digits that a word begins with end at a comma, at the word's end, or at a byte that is in no number.
use Rattle.std.proofs.Common.{◌<◌, refl, sym, ap, arith, rules, drop, length}
use Rattle.std.proofs.lemmas.Bool.Decides.{nat_tests}
use Rattle.std.proofs.lemmas.List.{take_rest}
use Rattle.lines.proofs.ItemLaws.{first_item-none, first_item-other, first_item-digits, first_item-comma, items_of-comma, items_of-digits}
use Rattle.lines.proofs.lists.leading_number.Goals as goal

pub returns-then-count-eq0-clause-number : goal.returns-then-count-eq0-clause-number
returns-then-count-eq0-clause-number c =
    let is = c.if-count-eq0.true in
    sym (first_item-none c.args.word.now (rw is at c.leading_digits-value.ensures.ended (omega arith)))

pub returns-then-count-word-clause-number : goal.returns-then-count-word-clause-number
returns-then-count-word-clause-number c =
    let read = c.leading_digits-value.ensures in
    sym (first_item-digits c.args.word.now c.leading_digits-value.result.1 read.within read.digits c.leading_digits-value.result.0 (omega (arith, c.if-count-eq0.false)) read.few (search rules) read.exact c.if-count-word.true)

pub returns-then-count-word-clause-others : goal.returns-then-count-word-clause-others
returns-then-count-word-clause-others c =
    let read = c.leading_digits-value.ensures in
    ap (drop 1) (items_of-digits c.args.word.now c.leading_digits-value.result.1 read.within read.digits c.if-count-word.true)

pub returns-then-word-count-eq44-clause-number : goal.returns-then-word-count-eq44-clause-number
returns-then-word-count-eq44-clause-number c =
    let read = c.leading_digits-value.ensures in
    sym (first_item-comma c.args.word.now c.leading_digits-value.result.1 read.within read.digits c.leading_digits-value.result.0 (omega (arith, c.if-count-eq0.false)) read.few (search rules) read.exact (omega (arith, read.within, c.if-count-word.false)) (rw c.if-word-count-eq44.true refl))

pub returns-then-word-count-eq44-clause-others : goal.returns-then-word-count-eq44-clause-others
returns-then-word-count-eq44-clause-others c =
    let read = c.leading_digits-value.ensures in
    rw (take_rest) (ap (drop 1) (items_of-comma c.args.word.now c.leading_digits-value.result.1 read.within read.digits (omega (arith, read.within, c.if-count-word.false)) (rw c.if-word-count-eq44.true refl)))

pub returns-then-count-lt-SAFE_DIGITS-clause-number : goal.returns-then-count-lt-SAFE_DIGITS-clause-number
returns-then-count-lt-SAFE_DIGITS-clause-number c =
    let read = c.leading_digits-value.ensures in
    let inside : c.leading_digits-value.result.1 < length c.args.word.now = omega (arith, read.within, c.if-count-word.false) in
    sym (first_item-other c.args.word.now c.leading_digits-value.result.1 read.within read.digits inside (read.ended c.if-count-lt-SAFE_DIGITS.true inside) (let apart = c.if-word-count-eq44.false in grind (arith, nat_tests)))
