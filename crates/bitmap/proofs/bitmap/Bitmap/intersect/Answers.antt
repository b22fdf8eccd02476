use Rattle.std.proofs.Common.{◌≡◌, ℕ, ◌<◌, ◌∙◌, ap, arith, bit_and, count_ones, get_or, length, map, refl, subst, sym}
use Rattle.std.specs.List.{sum}
use Rattle.std.specs.Vec.{vec_len, with_items}
use Rattle.std.proofs.lemmas.List.{with_items_is}
use Rattle.algebra.specs.Operators.{eval_of}
use Rattle.lanes.specs.Bits.{has_bit}
use Rattle.lanes.specs.Lists.{zip_with}
use Rattle.model.specs.ElementWise.{of_both}
use Rattle.bitmap.proofs.KernelLaws.{both_bits, both_places, both_word, made_of, same_lists}
use Rattle.bitmap.proofs.PlaceLaws.{map_of}
use Rattle.bitmap.proofs.bitmap.Bitmap.intersect.Goals as goal

pub invariant_of-result : goal.invariant_of-result
invariant_of-result g c =
    let a = c.a.inside in
    let b = c.b.inside in
    let rows : b.rows ≡ a.rows = rw (← c.a.view_is, ← c.b.view_is) at c.requires.rows in
    let cols : b.cols ≡ a.cols = rw (← c.a.view_is, ← c.b.view_is) at c.requires.cols in
    let long = same_lists a.rows a.cols a.count b.rows b.cols b.count a.bits.items a.words.items b.bits.items b.words.items c.a.invariant c.b.invariant rows cols in
    let bits_fit : length c.and_words.new.out ≡ vec_len c.in_ok-bits.bits = omega arith in
    let bits = (with_items c.in_ok-bits.bits c.and_words.new.out).items in
    let words = c.in_ok-words.words.items in
    let bits_are : bits ≡ zip_with bit_and a.bits.items b.bits.items = with_items_is c.in_ok-bits.bits c.and_words.new.out bits_fit ∙ c.and_words.ensures ∙ rw (c.deref.ensures.value, c.deref-2.ensures.value) refl in
    let words_long : length words ≡ length a.words.items = c.in_ok-words.ensures.length ∙ ap length c.deref-3.ensures.value in
    let small : (k : ℕ) → get_or bits k 0 < 18446744073709551616 = subst (λ xs. (k : ℕ) → get_or xs k 0 < 18446744073709551616) c.deref-5.ensures.value c.count_ones.ensures.words in
    let counted : c.count_ones.result ≡ sum (map count_ones bits) = c.count_ones.ensures.number ∙ ap (λ xs. sum (map count_ones xs)) c.deref-5.ensures.value in
    both_places a.rows a.cols a.count c.count_ones.result bits words a.bits.items a.words.items b.bits.items c.a.invariant words_long long.0 bits_are small counted

pub returns-clause-content : goal.returns-clause-content
returns-clause-content g c =
    let a = c.a.inside in
    let b = c.b.inside in
    let f = eval_of c.args.op.kind c.args.op.domain in
    let rows : b.rows ≡ a.rows = rw (← c.a.view_is, ← c.b.view_is) at c.requires.rows in
    let cols : b.cols ≡ a.cols = rw (← c.a.view_is, ← c.b.view_is) at c.requires.cols in
    let long = same_lists a.rows a.cols a.count b.rows b.cols b.count a.bits.items a.words.items b.bits.items b.words.items c.a.invariant c.b.invariant rows cols in
    let each = c.a.invariant.word_each in
    let bits_fit : length c.and_words.new.out ≡ vec_len c.in_ok-bits.bits = omega arith in
    let bits = (with_items c.in_ok-bits.bits c.and_words.new.out).items in
    let words = c.in_ok-words.words.items in
    let bits_are : bits ≡ zip_with bit_and a.bits.items b.bits.items = with_items_is c.in_ok-bits.bits c.and_words.new.out bits_fit ∙ c.and_words.ensures ∙ rw (c.deref.ensures.value, c.deref-2.ensures.value) refl in
    rw (← c.a.view_is, ← c.b.view_is) (λ i j.
    made_of a.rows a.cols bits words a.bits.items a.words.items b.bits.items b.words.items (of_both f) refl
    (λ at inside. both_word f bits words a.bits.items a.words.items b.bits.items b.words.items at
    (ap (λ bs. has_bit bs at) bits_are ∙ both_bits a.bits.items b.bits.items at long.0)
    (rw (c.deref-3.ensures.value, c.deref-4.ensures.value) at (c.in_ok-words.ensures.words at (rw c.deref-3.ensures.value (omega arith))))) i j
    ∙ ap (λ r. of_both f (map_of a.rows a.cols a.bits.items a.words.items i j) (map_of r a.cols b.bits.items b.words.items i j)) (sym rows)
    ∙ ap (λ n. of_both f (map_of a.rows a.cols a.bits.items a.words.items i j) (map_of b.rows n b.bits.items b.words.items i j)) (sym cols))
