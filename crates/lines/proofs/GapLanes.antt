-- Gaps among the lanes of a vector, as a mask.
use Rattle.std.proofs.Common.{◌≡◌, ℕ, ◌+◌, ◌-◌, ◌%◌, ◌^◌, ◌<◌, ◌≤◌, Bool, List, [], ◌∷◌, cond, false, true, get_or, inl, inr, leb, length, map, not, refl, replicate, suc, sym, ap, ap₂, ◌∙◌, arith, w8, Fits}
use Rattle.std.proofs.lemmas.Bool.{cases_lt}
use Rattle.std.proofs.lemmas.Bool.Decides.{nat_tests}
use Rattle.std.proofs.lemmas.List.{length-map}
use Rattle.std.proofs.lemmas.Simd.{get_or-chunk, length-chunk, mask_l-mod, map-map, none_from_empty_mask, run_in_chunk_fails, run_in_chunk_le, run_in_chunk_stops, tops_compared, trailing_mask_l, zip2_splat, zip2_splat_left}
use Rattle.std.specs.List.{prefix_len}
use lib.Count.{count_trailing_zeros}
use lib.Lanes.{Each1, chunk, mask_l, top, zip2}
use Rattle.lines.specs.Gaps.{AreInner, is_gap}

-- a byte less 33 is at least 94 where it is a gap
gap_lane : (x : ℕ) → x < 256 → leb 94 ((x + (256 - 33)) % 256) ≡ is_gap x
gap_lane x small = grind (arith, nat_tests)

each_gap : (v : List ℕ) → Each1 (Fits w8) v → map (λ x. leb 94 ((x + (256 - 33)) % 256)) v ≡ map is_gap v
each_gap [] fits = refl
each_gap (x ∷ xs) fits = ap₂ (λ a b. a ∷ b) (gap_lane x fits.0.fits) (each_gap xs fits.1)

abbrev pub less : ℕ → ℕ → ℕ
less a b = (a + (256 - b)) % 256

abbrev pub at_most : ℕ → ℕ → ℕ
at_most a b = cond (leb a b) 255 0

-- the mask of the lanes that are at least 94 once 33 was taken off
pub gap_lanes : (v : List ℕ) → length v ≡ 16 → Each1 (Fits w8) v
    → mask_l (map (top 7) (zip2 at_most (replicate 16 94) (zip2 less v (replicate 16 33)))) % 2 ^ 64 ≡ mask_l (map is_gap v)
gap_lanes v long fits =
    let lanes = zip2 less v (replicate 16 33) in
    let less_is : lanes ≡ map (λ x. less x 33) v = zip2_splat less v 16 33 long in
    let tops : map (top 7) (zip2 at_most (replicate 16 94) lanes) ≡ zip2 leb (replicate 16 94) lanes = tops_compared w8 leb (replicate 16 94) lanes in
    let size : length lanes ≡ 16 = ap length less_is ∙ length-map v (λ x. less x 33) ∙ long in
    let each : zip2 leb (replicate 16 94) lanes ≡ map is_gap v =
    zip2_splat_left leb 94 16 lanes size ∙ ap (map (λ x. leb 94 x)) less_is ∙ map-map (λ x. leb 94 x) (λ x. less x 33) v ∙ each_gap v fits in
    ap (λ ms. mask_l ms % 2 ^ 64) (tops ∙ each) ∙ mask_l-mod (map is_gap v) 64 (let same = length-map v is_gap in omega arith)

-- a mask without a lane that passes is empty
empty_mask : (p : ℕ → Bool) (xs : List ℕ) → ((k : ℕ) → k < length xs → p (get_or xs k 0) ≡ false)
    → mask_l (map p xs) ≡ 0
empty_mask p [] none = refl
empty_mask p (x ∷ xs) none = rw (none 0 (omega arith), empty_mask p xs (λ k less. none (suc k) (omega arith))) refl

module _ (line : List ℕ) (at mask : ℕ) (room : at + 16 ≤ length line)
    (is : mask ≡ mask_l (map is_gap (chunk at 16 line))) where
  -- where the mask is empty, there is no gap among the lanes
  pub no_gap : mask ≡ 0 → AreInner line at (at + 16)
  no_gap none = none_from_empty_mask is_gap line at 16 0 room (sym is ∙ none)

  -- else its lowest bit is that of the first gap
  pub first_gap : 0 < mask → (count_trailing_zeros 64 mask < 16)
      × (is_gap (get_or line (at + count_trailing_zeros 64 mask) 0) ≡ true)
      × AreInner line at (at + count_trailing_zeros 64 mask)
  first_gap some =
      let lanes = chunk at 16 line in
      let place = count_trailing_zeros 64 mask in
      let size = length-chunk at 16 line room in
      let counted : place ≡ prefix_len (λ x. not (is_gap x)) lanes =
      ap (count_trailing_zeros 64) is ∙ trailing_mask_l is_gap 64 lanes (omega arith) (rw is at some) in
      let most : place ≤ 16 = run_in_chunk_le is_gap line at 16 place 0 room counted in
      let before : AreInner line at (at + place) = run_in_chunk_fails is_gap line at 16 place 0 room counted in
      let inside : place < 16 = elim (cases_lt place 16) [
        | inl less ↦ less
        | inr past ↦
            let none : mask ≡ 0 = is ∙ empty_mask is_gap lanes (λ k less. rw (get_or-chunk at 16 line k 0 (omega arith)) (before (at + k) (omega arith) (omega arith))) in
            absurd (omega arith)
      ] in
      (inside, run_in_chunk_stops is_gap line at 16 place 0 room counted inside, before)
