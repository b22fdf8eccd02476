use Rattle.std.proofs.Common.{◌≡◌, ℕ, ◌<◌, ◌∙◌, ◌+◌, ◌*◌, ◌/◌, ap, arith, bit_and, count_ones, get_or, length, map, refl, subst, sym}
use Rattle.std.specs.List.{sum}
use Rattle.std.specs.Vec.{vec_len, with_items}
use Rattle.std.proofs.lemmas.List.{ext_get_or, with_items_is}
use Rattle.lanes.specs.Bits.{has_bit}
use Rattle.lanes.specs.Lists.{zip_with}
use Rattle.bitmap.proofs.KernelLaws.{both_bits, both_places, kept_where}
use Rattle.bitmap.proofs.bitmap.Bitmap.keep.Goals as goal

pub invariant_of-result : goal.invariant_of-result
invariant_of-result g c =
    let a = c.self.inside in
    let each = c.self.invariant.word_each in
    let wide = c.self.invariant.bit_each in
    let keeps : length c.args.keeps.now ≡ a.rows * a.cols / 64 + 1 = rw (← c.self.view_is) at c.requires in
    let same : length c.args.keeps.now ≡ length a.bits.items = keeps ∙ ap (λ n. n / 64 + 1) (sym each) ∙ sym wide in
    let bits_fit : length c.and_words.new.out ≡ vec_len c.in_ok-bits.bits = omega arith in
    let bits = (with_items c.in_ok-bits.bits c.and_words.new.out).items in
    let made = c.in_ok-words.ensures in
    let words : c.in_ok-words.words.items ≡ a.words.items = ext_get_or 0 c.in_ok-words.words.items c.deref-2.result.now made.length (λ k within. made.words k (omega arith)) ∙ c.deref-2.ensures.value in
    let bits_are : bits ≡ zip_with bit_and a.bits.items c.args.keeps.now = with_items_is c.in_ok-bits.bits c.and_words.new.out bits_fit ∙ c.and_words.ensures ∙ rw c.deref.ensures.value refl in
    let small : (k : ℕ) → get_or bits k 0 < 18446744073709551616 = subst (λ xs. (k : ℕ) → get_or xs k 0 < 18446744073709551616) c.deref-3.ensures.value c.count_ones.ensures.words in
    let counted : c.count_ones.result ≡ sum (map count_ones bits) = c.count_ones.ensures.number ∙ ap (λ xs. sum (map count_ones xs)) c.deref-3.ensures.value in
    both_places a.rows a.cols a.count c.count_ones.result bits c.in_ok-words.words.items a.bits.items a.words.items c.args.keeps.now c.self.invariant (ap length words) same bits_are small counted

pub returns-clause-content : goal.returns-clause-content
returns-clause-content g c =
    let a = c.self.inside in
    let each = c.self.invariant.word_each in
    let wide = c.self.invariant.bit_each in
    let keeps : length c.args.keeps.now ≡ a.rows * a.cols / 64 + 1 = rw (← c.self.view_is) at c.requires in
    let same : length c.args.keeps.now ≡ length a.bits.items = keeps ∙ ap (λ n. n / 64 + 1) (sym each) ∙ sym wide in
    let bits_fit : length c.and_words.new.out ≡ vec_len c.in_ok-bits.bits = omega arith in
    let bits = (with_items c.in_ok-bits.bits c.and_words.new.out).items in
    let made = c.in_ok-words.ensures in
    let words : c.in_ok-words.words.items ≡ a.words.items = ext_get_or 0 c.in_ok-words.words.items c.deref-2.result.now made.length (λ k within. made.words k (omega arith)) ∙ c.deref-2.ensures.value in
    let bits_are : bits ≡ zip_with bit_and a.bits.items c.args.keeps.now = with_items_is c.in_ok-bits.bits c.and_words.new.out bits_fit ∙ c.and_words.ensures ∙ rw c.deref.ensures.value refl in
    rw (← c.self.view_is, words) (kept_where a.rows a.cols bits a.words.items a.bits.items c.args.keeps.now
    (λ at. ap (λ bs. has_bit bs at) bits_are ∙ both_bits a.bits.items c.args.keeps.now at same))
