-- Inside the column the bits say what is let through, and outside there is nothing.
use Rattle.std.proofs.Common.{◌≡◌, ◌∙◌, ◌&&◌, ◌<◌, ℕ, Bool, None, Option, ap, arith, cond, false, inl, inr, ltb, refl, sym, true}
use Rattle.std.proofs.lemmas.Bool.{cases_Bool}
use Rattle.std.proofs.lemmas.Bool.Decides.{nat_tests}
use Rattle.bitmap.specs.Bitmaps.{place_of}
use Rattle.lanes.specs.Bits.{has_bit}
use Rattle.model.specs.Entries.{word_at}
use Rattle.store.proofs.Content.{nothing_outside}
use Rattle.masks.specs.Masks.{lets_word}
use Rattle.masks.proofs.marked.MarkedMask.keep_column.Goals as goal

either_none : (b : Bool) → ◌≡◌ {A = Option ℕ} (cond b None None) None
either_none true = refl
either_none false = refl

pub returns-clause-content : goal.returns-clause-content
returns-clause-content c = λ i j.
    let old = c.args.column.now in
    let keeps = c.deref.result.now in
    let lets = lets_word c.args.self.test (word_at c.args.self.bitmap.now.entries i j) in
    c.retain.ensures.content i j ∙ elim (cases_Bool (ltb i old.rows && ltb j old.cols)) [
      | inl inside ↦
          let column = c.requires.column in
          let row : i < old.rows = grind (arith, nat_tests) in
          let first : j ≡ 0 = grind (arith, nat_tests) in
          let place : place_of old.cols i j ≡ i = rw (column, first) (omega arith) in
          let bit : has_bit keeps (place_of old.cols i j) ≡ lets = rw (c.deref.ensures.value, place, first) (c.in_ok-read_bits.ensures.bits i (omega (arith, c.rows.ensures.rows))) in
          ap (λ b. cond b (word_at old.entries i j) None) bit
      | inr outside ↦
          let none : word_at old.entries i j ≡ None = nothing_outside old.rows old.cols old.entries i j c.rows.ensures.inside outside in
          rw none (either_none (has_bit keeps (place_of old.cols i j)) ∙ sym (either_none lets))
    ]
