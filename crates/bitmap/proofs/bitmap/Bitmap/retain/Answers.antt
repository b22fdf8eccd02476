-- The bits that are left are those that both lists have.
use Rattle.std.proofs.Common.{◌≡◌, ◌∙◌, ◌<◌, ◌+◌, ◌*◌, ◌/◌, ℕ, ap, arith, bit_and, count_ones, get_or, length, map, refl, subst, sym}
use Rattle.std.specs.List.{sum}
use Rattle.std.specs.Vec.{with_items}
use Rattle.std.proofs.lemmas.List.{with_items_is}
use Rattle.lanes.specs.Bits.{has_bit}
use Rattle.lanes.specs.Lists.{zip_with}
use Rattle.bitmap.proofs.KernelLaws.{both_bits, both_places, cleared, kept_where}
use Rattle.bitmap.proofs.bitmap.Bitmap.retain.Goals as goal

pub invariant_of-self : goal.invariant_of-self
invariant_of-self c =
    let s = c.self.inside in
    let keeps = c.args.keeps.now in
    let here = c.self.invariant in
    let asked : length keeps ≡ s.rows * s.cols / 64 + 1 = rw (← c.self.view_is) at c.requires in
    let same : length keeps ≡ length s.bits.items = asked ∙ ap (λ n. n / 64 + 1) (sym here.word_each) ∙ sym here.bit_each in
    let new = c.clear_others.new.bits in
    let long : length new ≡ length s.bits.items = c.clear_others.ensures.length ∙ ap length c.deref_mut.ensures.value in
    let bits = (with_items s.bits new).items in
    let bits_are : bits ≡ zip_with bit_and s.bits.items keeps =
    with_items_is s.bits new (omega (arith, long, s.bits.ok.0)) ∙ cleared s.bits.items keeps new same long (rw c.deref_mut.ensures.value at c.clear_others.ensures.words) in
    let ones = c.count_ones-self-inside in
    let small : (k : ℕ) → get_or bits k 0 < 18446744073709551616 = subst (λ xs. (k : ℕ) → get_or xs k 0 < 18446744073709551616) c.deref.ensures.value ones.ensures.words in
    let counted : ones.result ≡ sum (map count_ones bits) = ones.ensures.number ∙ ap (λ xs. sum (map count_ones xs)) c.deref.ensures.value in
    both_places s.rows s.cols s.count ones.result bits s.words.items s.bits.items s.words.items keeps here refl same bits_are small counted

pub returns-clause-content : goal.returns-clause-content
returns-clause-content c =
    let s = c.self.inside in
    let keeps = c.args.keeps.now in
    let here = c.self.invariant in
    let asked : length keeps ≡ s.rows * s.cols / 64 + 1 = rw (← c.self.view_is) at c.requires in
    let same : length keeps ≡ length s.bits.items = asked ∙ ap (λ n. n / 64 + 1) (sym here.word_each) ∙ sym here.bit_each in
    let new = c.clear_others.new.bits in
    let long : length new ≡ length s.bits.items = c.clear_others.ensures.length ∙ ap length c.deref_mut.ensures.value in
    let bits = (with_items s.bits new).items in
    let bits_are : bits ≡ zip_with bit_and s.bits.items keeps =
    with_items_is s.bits new (omega (arith, long, s.bits.ok.0)) ∙ cleared s.bits.items keeps new same long (rw c.deref_mut.ensures.value at c.clear_others.ensures.words) in
    rw (← c.self.view_is) (kept_where s.rows s.cols bits s.words.items s.bits.items keeps
    (λ at. ap (λ bs. has_bit bs at) bits_are ∙ both_bits s.bits.items keeps at same))
