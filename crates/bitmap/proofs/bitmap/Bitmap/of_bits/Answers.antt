use Rattle.std.proofs.Common.{◌≡◌, ℕ, ◌<◌, ◌∙◌, ◌/◌, ◌+◌, ap, arith, count_ones, get_or, map, subst, sym}
use Rattle.std.specs.List.{sum}
use Rattle.bitmap.proofs.KernelLaws.{places_counted}
use Rattle.bitmap.proofs.PlaceLaws.{held_is}
use Rattle.bitmap.proofs.bitmap.Bitmap.of_bits.Goals as goal

pub invariant_of-result : goal.invariant_of-result
invariant_of-result c =
    let bits = c.args.bits.items in
    let words = c.args.words.items in
    let small : (k : ℕ) → get_or bits k 0 < 18446744073709551616 = subst (λ xs. (k : ℕ) → get_or xs k 0 < 18446744073709551616) c.deref.ensures.value c.count_ones.ensures.words in
    let counted : c.count_ones.result ≡ sum (map count_ones bits) = c.count_ones.ensures.number ∙ ap (λ xs. sum (map count_ones xs)) c.deref.ensures.value in
    places_counted c.args.rows c.args.cols c.count_ones.result bits words c.requires.small c.requires.words
    (c.requires.bits ∙ ap (λ n. n / 64 + 1) (sym c.requires.words))
    (λ at past. c.requires.none_behind at (omega (arith, c.requires.words))) small counted

pub returns-clause-content : goal.returns-clause-content
returns-clause-content c = held_is c.args.rows c.args.cols c.args.bits.items c.args.words.items
