-- Blocks that are given for all pieces cover the rows.
use Rattle.std.proofs.Common.{◌≡◌, ◌∙◌, ℕ, zero, suc, ◌<◌, ◌≤◌, ◌+◌, ◌-◌, ◌⊎◌, true, List, [], ◌∷◌, length, arith}
use Rattle.std.proofs.Common.{Some, eqb, inl, inr, refl, slice_get, sym, ap, subst}
use Rattle.std.proofs.lemmas.Bool.{and_parts, eqb-true, false≢true}
use Rattle.kernel.specs.declared.block.Block.{Block}
use Rattle.kernel.specs.declared.block.Block.TheVariants.{Rows, Whole}
use Rattle.kernel.specs.Covers.{Covers}
use Rattle.pieces.specs.declared.part.Part.{Part}
use Rattle.pieces.specs.declared.part.Part.TheVariants.{Due, Given, Joined}
use Rattle.pieces.specs.Parts.{AreParts, Parts, all_given, blocks_in, end_of, has_rows, start_of}
use Rattle.pieces.proofs.CutLaws.{start_next}

-- a piece ends no later than a later one
ends_rise : (f : ℕ → ℕ) (n : ℕ) → ((k : ℕ) → k + 1 < n → f k < f (k + 1)) → (d k : ℕ) → k + d < n → f k ≤ f (k + d)
ends_rise f n h zero k low = let e : k + 0 ≡ k = omega arith in subst (λ m. f k ≤ f m) (sym e) (omega arith)
ends_rise f n h (suc d) k low =
    let e : k + suc d ≡ k + d + 1 = omega arith in
    let more = h (k + d) (omega arith) in
    let before = ends_rise f n h d k (omega arith) in
    subst (λ m. f k ≤ f m) (sym e) (omega (arith, more, before))

module _ (p : Parts) (are : AreParts p) where
  end_above : (k : ℕ) → k + 1 < length p.ends → end_of p.ends k < end_of p.ends (k + 1)
  end_above k low = subst (λ n. n < end_of p.ends (k + 1)) (start_next p.ends k) (are.rising (k + 1) low)

  -- each piece lies inside the rows
  pub end_inside : (k : ℕ) → k < length p.ends → end_of p.ends k ≤ p.rows
  end_inside k low =
      let last : ℕ = length p.ends - 1 in
      let e : k + (last - k) ≡ last = omega arith in
      let rise = ends_rise (end_of p.ends) (length p.ends) end_above (last - k) k (omega arith) in
      subst (λ n. end_of p.ends k ≤ n) (ap (end_of p.ends) e ∙ are.last) rise

  -- no piece is all rows
  pub piece_part : (k : ℕ) → k < length p.ends → (0 < start_of p.ends k) ⊎ (end_of p.ends k < p.rows)
  piece_part zero low = inr (omega (arith, end_above 0 are.several, end_inside 1 are.several))
  piece_part (suc k) low =
      let e : k + 1 ≡ suc k = omega arith in
      let before = are.rising k (omega arith) in
      let start : start_of p.ends (suc k) ≡ end_of p.ends k = ap (start_of p.ends) (sym e) ∙ start_next p.ends k in
      inl (omega (arith, before, start))

  -- blocks for each piece from one on cover the rows from its start on
  pub covers_from : (k : ℕ) (parts : List Part) → k + length parts ≡ length p.ends
      → ((j : ℕ) (block : Block) → slice_get parts j ≡ Some (Given block) → has_rows (start_of p.ends (k + j)) (end_of p.ends (k + j)) block ≡ true)
      → all_given parts ≡ true → Covers (start_of p.ends k) p.rows (blocks_in parts)
  unfolding Covers
  covers_from k [] sized fits all =
      let e : k ≡ length p.ends - 1 + 1 = omega (arith, sized, are.several) in
      ap (start_of p.ends) e ∙ (start_next p.ends (length p.ends - 1) ∙ are.last)
  covers_from k (Due ∷ parts) sized fits all = absurd cc
  covers_from k (Joined ∷ parts) sized fits all = absurd cc
  covers_from k (Given (Whole store) ∷ parts) sized fits all = absurd (false≢true (fits 0 (Whole store) refl))
  covers_from k (Given (Rows block) ∷ parts) sized fits all =
      let here : k + 0 ≡ k = omega arith in
      let is : has_rows (start_of p.ends k) (end_of p.ends k) (Rows block) ≡ true
      = subst (λ n. has_rows (start_of p.ends n) (end_of p.ends n) (Rows block) ≡ true) here (fits 0 (Rows block) refl) in
      let both = and_parts (eqb block.first (start_of p.ends k)) (eqb block.past (end_of p.ends k)) is in
      let first = eqb-true block.first (start_of p.ends k) both.0 in
      let past = eqb-true block.past (end_of p.ends k) both.1 in
      let rest = covers_from (k + 1) parts (omega (arith, sized)) (λ j b at.
      let e : k + suc j ≡ k + 1 + j = omega arith in
      subst (λ n. has_rows (start_of p.ends n) (end_of p.ends n) b ≡ true) e (fits (suc j) b at)) all in (
        first,
        omega (arith, are.rising k (omega (arith, sized)), first, past),
        subst (λ n. Covers n p.rows (blocks_in parts)) (start_next p.ends k ∙ sym past) rest,
      )
