-- Lists with one item more or less.
use Rattle.std.proofs.Common.{◌≡◌, ℕ, zero, suc, ◌+◌, ◌-◌, ◌<◌, ◌≤◌, List, [], ◌∷◌, ◌++◌, length, get_or, set, take, drop, refl, sym, ◌∙◌, add-one, ap, arith}
use Rattle.std.specs.List.{copy_within, insert, remove}
use Rattle.std.proofs.Math.Seq.{paste, take-append_seam}
use Rattle.std.proofs.lemmas.List.{drop-append-le, length-drop, take_all, length-append}
use Rattle.std.proofs.lemmas.List.Edits.{length-paste, take-paste}
use Rattle.model.specs.Entries.{entry_at}
use Rattle.store.specs.Fibers.{placed}

-- ---- entries by their places

pub placed_set : (os inner words : List ℕ) (p w : ℕ) → length inner ≡ length os → length words ≡ length os
    → placed os inner (set words p w) ≡ set (placed os inner words) p (entry_at (get_or os p 0) (get_or inner p 0) w)
placed_set [] inner words p w i l = refl
placed_set (a ∷ os) [] words p w i l = absurd (omega arith)
placed_set (a ∷ os) (b ∷ inner) [] p w i l = absurd (omega arith)
placed_set (a ∷ os) (b ∷ inner) (v ∷ words) zero w i l = refl
placed_set (a ∷ os) (b ∷ inner) (v ∷ words) (suc p) w i l = ap (λ es. entry_at a b v ∷ es) (placed_set os inner words p w (omega arith) (omega arith))

pub placed_insert : (os inner words : List ℕ) (p o c w : ℕ) → length inner ≡ length os → length words ≡ length os
    → p ≤ length os → placed (insert os p o) (insert inner p c)
    (insert words p w) ≡ insert (placed os inner words) p (entry_at o c w)
placed_insert os inner words zero o c w i l within = refl
placed_insert [] inner words (suc p) o c w i l within = absurd (omega arith)
placed_insert (a ∷ os) [] words (suc p) o c w i l within = absurd (omega arith)
placed_insert (a ∷ os) (b ∷ inner) [] (suc p) o c w i l within = absurd (omega arith)
placed_insert (a ∷ os) (b ∷ inner) (v ∷ words) (suc p) o c w i l within = ap (λ es. entry_at a b v ∷ es) (placed_insert os inner words p o c w (omega arith) (omega arith) (omega arith))

pub placed_remove : (os inner words : List ℕ) (p : ℕ) → length inner ≡ length os → length words ≡ length os → p < length os
    → placed (remove os p) (remove inner p) (remove words p) ≡ remove (placed os inner words) p
placed_remove [] inner words p i l within = absurd (omega arith)
placed_remove (a ∷ os) [] words p i l within = absurd (omega arith)
placed_remove (a ∷ os) (b ∷ inner) [] p i l within = absurd (omega arith)
placed_remove (a ∷ os) (b ∷ inner) (v ∷ words) zero i l within = refl
placed_remove (a ∷ os) (b ∷ inner) (v ∷ words) (suc p) i l within = ap (λ es. entry_at a b v ∷ es) (placed_remove os inner words p (omega arith) (omega arith) (omega arith))

-- ---- an item inserted by a move of those behind it

shifted : {X : Type 0} (xs : List X) (at : ℕ) (x : X) → at ≤ length xs
    → set (take (suc at) (xs ++ x ∷ []) ++ drop at xs) at x ≡ insert xs at x
shifted [] zero x within = refl
shifted [] (suc at) x within = absurd (omega arith)
shifted (y ∷ ys) zero x within = refl
shifted (y ∷ ys) (suc at) x within = ap (λ zs. y ∷ zs) (shifted ys at x (omega arith))

pub moved_up : {X : Type 0} (xs : List X) (at : ℕ) (x : X) → at ≤ length xs
    → set (copy_within (xs ++ x ∷ []) at (length xs) (at + 1)) at x ≡ insert xs at x
moved_up xs at x within =
    let d = xs ++ x ∷ [] in
    let n = length xs - at in
    let s = drop at d in
    let long = length-append xs (x ∷ []) in
    let long_s = length-drop at d in
    let front = take-paste d (at + 1) s n (omega arith) (omega arith) in
    let size = length-paste d (at + 1) s n (omega arith) (omega arith) in
    let all : take (at + 1 + n) (paste d (at + 1) s n) ≡ paste d (at + 1) s n = take_all (at + 1 + n) (paste d (at + 1) s n) (omega arith) in
    let count : n ≡ length (drop at xs) = sym (length-drop at xs) in
    let rest : take n s ≡ drop at xs = ap (take n) (drop-append-le at xs (x ∷ []) within) ∙ ap (λ k. take k (drop at xs ++ x ∷ [])) count ∙ take-append_seam (drop at xs) (x ∷ []) in
    ap (λ zs. set zs at x) (sym all ∙ front ∙ ap (λ zs. take (at + 1) d ++ zs) rest ∙ ap (λ k. take k d ++ drop at xs) (add-one at)) ∙ shifted xs at x within
