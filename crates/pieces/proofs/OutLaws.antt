-- For callers: what is left to wait for once all pieces were taken.
use Rattle.std.proofs.Common.{◌≡◌, ℕ, zero, suc, ◌<◌, ◌≤◌, ◌⊎◌, true, false, List, [], ◌∷◌, length, replicate, arith}
use Rattle.std.proofs.Common.{Some, inl, inr, refl, slice_get}
use Rattle.std.proofs.lemmas.Bool.{lt-ltb}
use Rattle.std.proofs.lemmas.Option.{slice_get_within}
use Rattle.pieces.specs.declared.part.Part.{Part}
use Rattle.pieces.specs.declared.part.Part.TheVariants.{Due, Given, Joined}
use Rattle.pieces.specs.Parts.{AreParts, Parts, all_given, is_out}
use Rattle.pieces.proofs.PartLaws.{due_at}

-- not all blocks are there
one_missing : (ps : List Part) → all_given ps ≡ false → ((k : ℕ) × (slice_get ps k ≡ Some Due)) ⊎ ((k : ℕ) × (slice_get ps k ≡ Some Joined))
one_missing [] h = absurd cc
one_missing (Due ∷ ps) h = inl (0, refl)
one_missing (Joined ∷ ps) h = inr (0, refl)
one_missing (Given block ∷ ps) h = elim (one_missing ps h) [ inl due ↦ inl (suc due.0, due.1) | inr joined ↦ inr (suc joined.0, joined.1) ]

all_joined : (ps : List Part) (n : ℕ) → length ps ≡ n → ((j : ℕ) → j < n → slice_get ps j ≡ Some Joined) → ps ≡ replicate n Joined
all_joined [] zero e h = refl
all_joined [] (suc n) e h = absurd (omega (arith, e))
all_joined (p ∷ ps) zero e h = absurd (omega (arith, e))
all_joined (p ∷ ps) (suc n) e h =
    let first : Some p ≡ Some Joined = h 0 (omega arith) in
    let same : p ≡ Joined = cc (first) in
    let rest = all_joined ps n (omega (arith, e)) (λ j low. h (suc j) (omega arith)) in
    cc (same, rest)

-- where no piece is still to be taken, one is out, or all blocks were handed out
pub out_or_joined : (p : Parts) → AreParts p → length p.ends ≤ p.taken
    → ((k : ℕ) × (is_out p k ≡ true)) ⊎ (p.parts ≡ replicate (length p.ends) Joined)
out_or_joined p are all = elim (one_missing p.parts are.pending) [
  | inl due ↦
      let low = slice_get_within p.parts due.0 Due due.1 in
      inl (due.0, rw (lt-ltb due.0 p.taken (omega (arith, low, all, are.sized)), due_at p.parts due.0 due.1))
  | inr joined ↦ inr (all_joined p.parts (length p.ends) are.sized (λ j low. are.joined joined.0 j joined.1 low))
]
