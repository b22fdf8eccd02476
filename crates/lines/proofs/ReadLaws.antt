-- Words that are read one after the other.
use Rattle.std.proofs.Common.{◌≡◌, ◌∙◌, ℕ, List, [], ◌∷◌, ◌++◌, Option, Some, None, ap, refl, sym}
use Rattle.std.specs.Option.{option_and_then, option_map}
use Rattle.std.proofs.lemmas.List.{append_assoc}
use Rattle.model.specs.Grammar.{all_read}

-- what was read, and then what is read of the others
abbrev pub behind : {A : Type 0} → List A → Option (List A) → Option (List A)
behind done others = option_map (λ more. done ++ more) others

-- nothing was read
pub behind-none : {A : Type 0} (o : Option (List A)) → o ≡ behind [] o
behind-none None = refl
behind-none (Some xs) = refl

moved : {A : Type 0} (done : List A) (x : A) (o : Option (List A))
    → behind done (option_map (λ xs. x ∷ xs) o) ≡ behind (done ++ x ∷ []) o
moved done x None = refl
moved done x (Some xs) = ap Some (sym (append_assoc done (x ∷ []) xs))

put_first : {A : Type 0} (x : A) (o : Option (List A))
    → option_and_then (λ xs. Some (x ∷ xs)) o ≡ option_map (λ xs. x ∷ xs) o
put_first x None = refl
put_first x (Some xs) = refl

more_as_map : {A : Type 0} (read : List ℕ → Option A) (word : List ℕ) (words : List (List ℕ)) (x : A)
    → read word ≡ Some x → all_read read (word ∷ words) ≡ option_map (λ xs. x ∷ xs) (all_read read words)
more_as_map read word words x is = rw is (put_first x (all_read read words))

-- one word more was read
pub read-more : {A : Type 0} (read : List ℕ → Option A) (done : List A) (word : List ℕ) (words : List (List ℕ)) (x : A)
    → read word ≡ Some x
    → behind done (all_read read (word ∷ words)) ≡ behind (done ++ x ∷ []) (all_read read words)
read-more read done word words x is = ap (behind done) (more_as_map read word words x is) ∙ moved done x (all_read read words)

-- a word says nothing
pub read-none : {A : Type 0} (read : List ℕ → Option A) (done : List A) (word : List ℕ) (words : List (List ℕ))
    → read word ≡ None
    → behind done (all_read read (word ∷ words)) ≡ None
read-none read done word words is = rw is refl
