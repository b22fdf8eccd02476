-- What an operation has in a row rests on the same row of its inputs.
use Rattle.std.proofs.Common.{◌≡◌, ◌∙◌, ℕ, Bool, List, [], ◌∷◌, Option, Some, None, ap, cond, refl}
use Rattle.std.specs.List.{cons_option, filter_map}
use Rattle.std.specs.Option.{option_and_then}
use Rattle.algebra.specs.declared.operator_names.SemiringName.{SemiringName}
use Rattle.model.specs.Entries.{below}
use Rattle.model.specs.ElementWise.{kept_where}
use Rattle.model.specs.Object.{Content}
use Rattle.model.specs.Product.{product, product_of, sum_of}
use Rattle.model.specs.Reductions.{row_words}

pub kept_there : (test : ℕ → ℕ → ℕ → Bool) (c d : Content) (i j : ℕ) → c i j ≡ d i j
    → kept_where test c i j ≡ kept_where test d i j
kept_there test c d i j same = ap (option_and_then (λ word. cond (test i j word) (Some word) None)) same

same_each : {X Y : Type 0} (f g : X → Option Y) → ((x : X) → f x ≡ g x) → (xs : List X)
    → filter_map f xs ≡ filter_map g xs
same_each f g same [] = refl
same_each f g same (x ∷ xs) =
    ap (λ o. cons_option o (filter_map f xs)) (same x) ∙ ap (cons_option (g x)) (same_each f g same xs)

pub words_there : (cols : ℕ) (c d : Content) (i : ℕ) → ((j : ℕ) → c i j ≡ d i j) → row_words cols c i ≡ row_words cols d i
words_there cols c d i same = same_each (λ j. c i j) (λ j. d i j) same (below cols)

pub product_there : (semiring : SemiringName) (n : ℕ) (a b c : Content) (i j : ℕ) → ((k : ℕ) → a i k ≡ c i k)
    → product semiring n a b i j ≡ product semiring n c b i j
unfolding product
product_there semiring n a b c i j same =
    ap (sum_of semiring)
    (same_each (λ k. product_of semiring (a i k) (b k j)) (λ k. product_of semiring (c i k) (b k j))
    (λ k. ap (λ w. product_of semiring w (b k j)) (same k)) (below n))
