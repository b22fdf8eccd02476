-- Folds by an operation that is associative and commutative on some words: neither the order of the
-- words nor the parts in which they are combined matter.
use Rattle.std.proofs.Common.{◌≡◌, ℕ, zero, suc, ◌<◌, List, [], ◌∷◌, Some, length, get_or, set, refl, sym, ◌∙◌, ap, arith}
use Rattle.std.specs.List.{All, concat, filter_map, fold, reduce, swap}
use Rattle.std.specs.List.Sorted.{IsPermutation}
use Rattle.std.proofs.lemmas.List.Elements.{All-tail}
use Rattle.std.proofs.lemmas.List.Sorted.{IsPermutation-keeps, IsPermutation-swap, All-permutation}
use Rattle.std.proofs.lemmas.List.Sums.{fold-append}

-- an operation on the words of which a fact holds
pub record CombinesWords (IsWord : ℕ → Type 0) (f : ℕ → ℕ → ℕ) : Type 0 where
  pub word : (a b : ℕ) → IsWord (f a b)
  pub commutes : (a b : ℕ) → IsWord a → IsWord b → f a b ≡ f b a
  pub associates : (a b c : ℕ) → IsWord a → IsWord b → IsWord c → f (f a b) c ≡ f a (f b c)

-- two words can be put on in either order
transposed : (W : ℕ → Type 0) (f : ℕ → ℕ → ℕ) (laws : CombinesWords W f) (c x y : ℕ) → W c → W x → W y
    → f (f c x) y ≡ f (f c y) x
transposed W f laws c x y p q r =
    laws.associates c x y p q r ∙ ap (f c) (laws.commutes x y q r) ∙ sym (laws.associates c y x p r q)

-- a word of the list and the one in front of it can change places
exchanged_first : (W : ℕ → Type 0) (f : ℕ → ℕ → ℕ) (laws : CombinesWords W f) (l : List ℕ) (j a c d : ℕ)
    → j < length l → W c → W a → All W l
    → fold f (f c (get_or l j d)) (set l j a) ≡ fold f (f c a) l
exchanged_first W f laws [] j a c d inside p q all = absurd (omega arith)
exchanged_first W f laws (b ∷ l) zero a c d inside p q all =
    ap (λ s. fold f s l) (transposed W f laws c b a p (all zero d (omega arith)) q)
exchanged_first W f laws (b ∷ l) (suc j) a c d inside p q all =
    let below : j < length l = omega arith in
    let first : W b = all zero d (omega arith) in
    let tail = All-tail W b l all in
    ap (λ s. fold f s (set l j a)) (transposed W f laws c (get_or l j d) b p (tail j d below) first)
    ∙ exchanged_first W f laws l j a (f c b) d below (laws.word c b) q tail
    ∙ ap (λ s. fold f s l) (transposed W f laws c b a p first q)

-- two words of the list can change places
exchanged : (W : ℕ → Type 0) (f : ℕ → ℕ → ℕ) (laws : CombinesWords W f) (l : List ℕ) (i j c d : ℕ)
    → i < length l → j < length l → W c → All W l
    → fold f c (set (set l i (get_or l j d)) j (get_or l i d)) ≡ fold f c l
exchanged W f laws [] i j c d p q word all = absurd (omega arith)
exchanged W f laws (a ∷ l) zero zero c d p q word all = refl
exchanged W f laws (a ∷ l) zero (suc j) c d p q word all =
    exchanged_first W f laws l j a c d (omega arith) word (all zero d (omega arith)) (All-tail W a l all)
exchanged W f laws (a ∷ l) (suc i) zero c d p q word all =
    exchanged_first W f laws l i a c d (omega arith) word (all zero d (omega arith)) (All-tail W a l all)
exchanged W f laws (a ∷ l) (suc i) (suc j) c d p q word all =
    exchanged W f laws l i j (f c a) d (omega arith) (omega arith) (laws.word c a) (All-tail W a l all)

swapped : (W : ℕ → Type 0) (f : ℕ → ℕ → ℕ) (laws : CombinesWords W f) (l : List ℕ) (i j c : ℕ)
    → i < length l → j < length l → W c → All W l → fold f c (swap l i j) ≡ fold f c l
swapped W f laws [] i j c p q word all = refl
swapped W f laws (a ∷ l) i j c p q word all = exchanged W f laws (a ∷ l) i j c a p q word all

-- a list in another order folds to the same
pub fold-permutation : (W : ℕ → Type 0) (f : ℕ → ℕ → ℕ) (laws : CombinesWords W f) (xs ys : List ℕ) (c : ℕ)
    → IsPermutation xs ys → All W xs → W c → fold f c ys ≡ fold f c xs
fold-permutation W f laws xs ys c permutes all word =
    (IsPermutation-keeps xs (λ l. All W l × (fold f c l ≡ fold f c xs)) (all, refl)
    (λ l i j p q same. (All-permutation W l (swap l i j) (IsPermutation-swap l (swap l i j) i j p q refl) same.0, swapped W f laws l i j c p q word same.0 ∙ same.1))
    ys permutes).1

-- a fold of words from a word is a word
pub fold-word : (W : ℕ → Type 0) (f : ℕ → ℕ → ℕ) (laws : CombinesWords W f) (xs : List ℕ) (c : ℕ) → W c
    → W (fold f c xs)
fold-word W f laws [] c p = p
fold-word W f laws (x ∷ xs) c p = fold-word W f laws xs (f c x) (laws.word c x)

-- what is put onto a fold can be put onto its start
pub put_on_start : (W : ℕ → Type 0) (f : ℕ → ℕ → ℕ) (laws : CombinesWords W f) (xs : List ℕ) (c a : ℕ)
    → W c → W a → All W xs → f c (fold f a xs) ≡ fold f (f c a) xs
put_on_start W f laws [] c a p q all = refl
put_on_start W f laws (x ∷ xs) c a p q all =
    put_on_start W f laws xs c (f a x) p (laws.word a x) (All-tail W x xs all)
    ∙ ap (λ s. fold f s xs) (sym (laws.associates c a x p q (all zero a (omega arith))))

-- folding the folds of parts is folding the parts one after the other
fold-parts : (W : ℕ → Type 0) (f : ℕ → ℕ → ℕ) (laws : CombinesWords W f) (parts : List (List ℕ)) (c : ℕ)
    → W c → All (All W) parts → fold f c (filter_map (reduce f) parts) ≡ fold f c (concat parts)
fold-parts W f laws [] c p all = refl
fold-parts W f laws ([] ∷ parts) c p all = fold-parts W f laws parts c p (All-tail (All W) [] parts all)
fold-parts W f laws ((x ∷ xs) ∷ parts) c p all =
    let part = all zero [] (omega arith) in
    ap (λ s. fold f s (filter_map (reduce f) parts)) (put_on_start W f laws xs c x p (part zero x (omega arith)) (All-tail W x xs part))
    ∙ fold-parts W f laws parts (fold f (f c x) xs) (fold-word W f laws xs (f c x) (laws.word c x)) (All-tail (All W) (x ∷ xs) parts all)
    ∙ sym (fold-append f (f c x) xs (concat parts))

-- reducing what the parts reduce to is reducing the whole
pub reduce-parts : (W : ℕ → Type 0) (f : ℕ → ℕ → ℕ) (laws : CombinesWords W f) (parts : List (List ℕ))
    → All (All W) parts → reduce f (filter_map (reduce f) parts) ≡ reduce f (concat parts)
reduce-parts W f laws [] all = refl
reduce-parts W f laws ([] ∷ parts) all = reduce-parts W f laws parts (All-tail (All W) [] parts all)
reduce-parts W f laws ((x ∷ xs) ∷ parts) all =
    let part = all zero [] (omega arith) in
    let word = fold-word W f laws xs x (part zero x (omega arith)) in
    ap Some (fold-parts W f laws parts (fold f x xs) word (All-tail (All W) (x ∷ xs) parts all) ∙ sym (fold-append f x xs (concat parts)))
