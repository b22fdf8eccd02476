-- The words are cast where they lie.
use Rattle.std.proofs.Common.{◌≡◌, ◌∙◌, ap, arith, get_or, length, map}
use Rattle.std.specs.Vec.{vec_len, with_items}
use Rattle.std.proofs.lemmas.List.{get_or-map, length-map, with_items_is}
use Rattle.algebra.specs.Value.{cast_of}
use Rattle.bitmap.proofs.KernelLaws.{kept_of, places_kept}
use Rattle.bitmap.proofs.bitmap.Bitmap.cast.Goals as goal

pub invariant_of-self : goal.invariant_of-self
invariant_of-self c =
    let s = c.self.inside in
    let f = cast_of c.args.from c.args.to in
    let made : c.cast_words.new.words ≡ map f s.words.items = c.cast_words.ensures ∙ ap (map f) c.deref_mut.ensures.value in
    let long : length c.cast_words.new.words ≡ length s.words.items = ap length made ∙ length-map s.words.items f in
    let fits : length c.cast_words.new.words ≡ vec_len s.words = omega (arith, s.words.ok.0) in
    let back = with_items_is s.words c.cast_words.new.words fits in
    places_kept s.rows s.cols s.count s.bits.items s.words.items (with_items s.words c.cast_words.new.words).items c.self.invariant (ap length back ∙ long)

pub returns-clause-content : goal.returns-clause-content
returns-clause-content c =
    let s = c.self.inside in
    let f = cast_of c.args.from c.args.to in
    let made : c.cast_words.new.words ≡ map f s.words.items = c.cast_words.ensures ∙ ap (map f) c.deref_mut.ensures.value in
    let long : length c.cast_words.new.words ≡ length s.words.items = ap length made ∙ length-map s.words.items f in
    let fits : length c.cast_words.new.words ≡ vec_len s.words = omega (arith, s.words.ok.0) in
    let back = with_items_is s.words c.cast_words.new.words fits in
    let each = c.self.invariant.word_each in
    rw (← c.self.view_is) (kept_of s.rows s.cols s.bits.items s.words.items (with_items s.words c.cast_words.new.words).items (λ at word. f word)
    (λ at within. ap (λ ws. get_or ws at 0) (back ∙ made) ∙ get_or-map f s.words.items at 0 0 (omega arith)))
