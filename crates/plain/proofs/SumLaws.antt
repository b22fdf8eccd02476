-- Sums, one term after the other.
use Rattle.std.proofs.Common.{◌≡◌, ℕ, ◌+◌, ◌<◌, List, [], ◌∷◌, ◌++◌, Option, Some, None, get_or, length, map, refl, sym, take, ◌∙◌, ap}
use Rattle.std.specs.List.{cons_option, reduce}
use Rattle.std.proofs.lemmas.List.{append-nil, map_more}
use Rattle.std.proofs.lemmas.List.Sums.{fold-append}
use Rattle.algebra.specs.declared.operator_names.SemiringName.{SemiringName}
use Rattle.model.specs.declared.call.Form.{Form}
use Rattle.model.specs.declared.call.Form.TheVariants.{MatrixMatrix, MatrixVector, VectorMatrix}
use Rattle.model.specs.declared.entry.Entry.{Entry}
use Rattle.model.specs.Object.{Content, Object, in_domain}
use Rattle.model.specs.Operations.{multiplied}
use Rattle.model.specs.Product.{product, sum_of}
use Rattle.model.specs.Reductions.{row_words}
use Rattle.plain.specs.Evaluated.{added, place_in, terms_of}
use Rattle.plain.proofs.GridLaws.{filter_map-below-more}

pub sum-more : (f : ℕ → ℕ → ℕ) (ts : List ℕ) (t : Option ℕ)
    → reduce f (ts ++ cons_option t []) ≡ added f (reduce f ts) t
sum-more f [] None = refl
sum-more f (u ∷ us) None = ap (reduce f) (append-nil (u ∷ us))
sum-more f [] (Some t) = refl
sum-more f (u ∷ us) (Some t) = ap Some (fold-append f u us (t ∷ []))

-- one column more of a row
pub row-more : (f : ℕ → ℕ → ℕ) (c : Content) (i n : ℕ) (sum term new : Option ℕ) → sum ≡ reduce f (row_words n c i)
    → term ≡ c i n → new ≡ added f sum term → new ≡ reduce f (row_words (n + 1) c i)
row-more f c i n sum term new so_far is more =
    let next = ap (reduce f) (filter_map-below-more (λ k. c i k) n) ∙ sum-more f (row_words n c i) (c i n) in
    more ∙ rw (so_far, is) (sym next)

-- one entry more of a list
pub entries-more : (f : ℕ → ℕ → ℕ) (es : List Entry) (i : ℕ) (e : Entry) (sum new : Option ℕ) → i < length es
    → sum ≡ reduce f (map (λ (e : Entry). e.word) (take i es)) → new ≡ added f sum (Some (get_or es i e).word)
    → new ≡ reduce f (map (λ (e : Entry). e.word) (take (i + 1) es))
entries-more f es i e sum new inside so_far more =
    let next = map_more (λ (e : Entry). e.word) es i e inside in
    more ∙ rw so_far (sym (ap (reduce f) next ∙ sum-more f (map (λ (e : Entry). e.word) (take i es)) (Some (get_or es i e).word)))

-- ---- products

-- a product sums a row of terms
pub product-row : (form : Form) (semiring : SemiringName) (n : ℕ) (a b : Object) (i j : ℕ)
    → sum_of semiring (row_words n (terms_of form semiring a b (place_in form i j).1) (place_in form i j).0)
    ≡ multiplied form semiring n (in_domain semiring.domain a) (in_domain semiring.domain b) i j
unfolding product
product-row MatrixMatrix semiring n a b i j = refl
product-row MatrixVector semiring n a b i j = refl
product-row VectorMatrix semiring n a b i j = refl
