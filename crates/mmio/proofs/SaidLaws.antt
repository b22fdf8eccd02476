-- What an entry line says, part by part.
use Rattle.std.proofs.Common.{◌≡◌, ℕ, suc, ℤ, pos, ◌-◌, ◌^◌, ◌<◌, ◌≤◌, ◌==◌, ◌&&◌, Bool, true, false, not, cond, List, [], ◌∷◌, length, Option, None, Some, Ok, Err, refl, ap, sym, ◌∙◌, inl, inr, arith}
use Rattle.std.specs.Option.{option_map, option_map_or}
use Rattle.std.proofs.lemmas.Bool.{cases_lt}
use Rattle.std.proofs.lemmas.Bool.Decides.{nat_tests}
use Rattle.algebra.specs.Value.{residue, word_of}
use Rattle.algebra.specs.declared.domain.Domain.{Domain}
use Rattle.algebra.specs.declared.domain.Domain.TheVariants.{Bool as Boolean, Int64, Uint64, User}
use Rattle.model.specs.declared.market.Field.{Field}
use Rattle.model.specs.declared.market.Field.TheVariants.{Pattern, Integer}
use Rattle.model.specs.declared.market.Heading.{Heading}
use Rattle.model.specs.declared.market.Mistake.TheVariants as mistake
use Rattle.model.specs.Entries.{entry_at}
use Rattle.model.specs.Grammar.{◌>>=◌, digits_value, nth_word, where_it}
use Rattle.model.specs.MatrixMarket.{Line, are_digits, entry_said, is_of_64_bits, is_position, value_said, whole_of, words_for}
use Rattle.mmio.proofs.DigitLaws.{in_64_bits-none, in_64_bits-some}
use Rattle.mmio.proofs.ValueLaws.{in_domain-residue}
use Rattle.mmio.specs.Fronts.{LeadsWithNumber, in_64_bits}
use Rattle.mmio.specs.Said.{entry_by, in_domain, position_in, residue_said, value_behind}

-- ---- where a word of the position is missing

second_fails : {X : Type 0} (a c : Bool) (x y : X) → cond (not (a && false && c)) x y ≡ x
second_fails true c x y = refl
second_fails false c x y = refl

third_fails : {X : Type 0} (a b : Bool) (x y : X) → cond (not (a && b && false)) x y ≡ x
third_fails true true x y = refl
third_fails true false x y = refl
third_fails false b x y = refl

-- an entry line begins with digits
pub entry_said-no_row : (domain : Domain) (h : Heading) (words : Line) → are_digits (nth_word words 0) ≡ false
    → Err mistake.Entry ≡ entry_said domain h words
unfolding entry_said
entry_said-no_row domain h words none = sym (rw none (second_fails _ _ _ _))

-- ..and then others
pub entry_said-no_col : (domain : Domain) (h : Heading) (words : Line) (row : Option ℕ) (rest : Line)
    → LeadsWithNumber words row rest → are_digits (nth_word rest 0) ≡ false
    → Err mistake.Entry ≡ entry_said domain h words
unfolding entry_said
entry_said-no_col domain h [] row rest leads none = let e = leads.parts in absurd (cc)
entry_said-no_col domain h (i ∷ words) row rest leads none =
    let e = leads.parts in
    let same : words ≡ rest = cc in
    let last : are_digits (nth_word words 0) ≡ false = rw same none in
    sym (rw last (third_fails (suc (length words) == words_for h.field) (are_digits i) _ _))

-- ---- where both are there

-- a number of 64 bits or more is past every dimension
large_row : (h : Heading) (m n : ℕ) → h.rows < 2 ^ 64 → 2 ^ 64 ≤ m → is_position h m n ≡ false
large_row h m n rows large = grind (arith, nat_tests)

large_col : (h : Heading) (m n : ℕ) → h.cols < 2 ^ 64 → 2 ^ 64 ≤ n → is_position h m n ≡ false
large_col h m n cols large = grind (arith, nat_tests)

position_in-is : (h : Heading) (m n : ℕ) → h.rows < 2 ^ 64 → h.cols < 2 ^ 64
    → position_in h (in_64_bits m) (in_64_bits n) ≡ cond (is_position h m n) (Some (m - 1, n - 1)) None
position_in-is h m n rows cols = elim (cases_lt m (2 ^ 64)) [
  | inr large ↦ rw (in_64_bits-none m large, large_row h m n rows large) refl
  | inl small ↦ elim (cases_lt n (2 ^ 64)) [
    | inr wide ↦ rw (in_64_bits-some m small, in_64_bits-none n wide, large_col h m n cols wide) refl
    | inl narrow ↦ rw (in_64_bits-some m small, in_64_bits-some n narrow) refl
  ]
]

word_of-one : (domain : Domain) → 1 ≡ word_of domain (pos 1)
word_of-one Boolean = refl
word_of-one Int64 = refl
word_of-one Uint64 = refl
word_of-one (User k) = refl

where_in_domain : (domain : Domain) (fits : Bool) (z : ℤ)
    → (fits ≡ true → in_domain domain (residue z) ≡ word_of domain z)
    → option_map (in_domain domain) (option_map residue (cond fits (Some z) None)) ≡ option_map (word_of domain)
    (cond fits (Some z) None)
where_in_domain domain true z same = ap Some (same refl)
where_in_domain domain false z same = refl

words_in_domain : (domain : Domain) (value : Option ℤ)
    → option_map (in_domain domain) (option_map residue (where_it is_of_64_bits value)) ≡ option_map (word_of domain)
    (where_it is_of_64_bits value)
words_in_domain domain None = refl
words_in_domain domain (Some z) = where_in_domain domain (is_of_64_bits z) z (in_domain-residue domain z)

none_more : {X : Type 0} (n : ℕ) (x y : X) → cond (n == 0) x y ≡ cond (suc (suc n) == 2) x y
none_more n x y = grind (arith, nat_tests)

one_more : {X : Type 0} (n : ℕ) (x y : X) → cond (n == 1) x y ≡ cond (suc (suc n) == 3) x y
one_more n x y = grind (arith, nat_tests)

then_mapped : (t : Bool) (f : Option ℕ → Option ℕ) (value : Option ℕ)
    → ((cond t (Some value) None) >>= λ v. Some (f v)) ≡ cond t (Some (f value)) None
then_mapped true f value = refl
then_mapped false f value = refl

-- the value of a line by what stands behind the position
value_behind-is : (domain : Domain) (field : Field) (i j : List ℕ) (words : Line)
    → value_behind domain field words ≡ cond (length (i ∷ j ∷ words) == words_for field)
    (Some (option_map (word_of domain) (value_said field (i ∷ j ∷ words)))) None
value_behind-is domain Pattern i j words =
    none_more (length words) (Some (Some 1)) None ∙ ap (λ word. cond (length (i ∷ j ∷ words) == 2) (Some (Some word)) None) (word_of-one domain)
value_behind-is domain Integer i j words =
    then_mapped (length words == 1) (option_map (in_domain domain)) (residue_said (nth_word words 0))
    ∙ one_more (length words) (Some (option_map (in_domain domain) (residue_said (nth_word words 0)))) None
    ∙ ap (λ value. cond (length (i ∷ j ∷ words) == 3) (Some value) None) (words_in_domain domain (whole_of (nth_word words 0)))

by_parts : (domain : Domain) (i j : ℕ) (complete inside : Bool) (value : Option ℤ)
    → cond (not (complete && true && true)) (Err mistake.Entry)
    (cond (not inside) (Err mistake.Index) (option_map_or (λ z. Ok (entry_at (i - 1) (j - 1) (word_of domain z))) value (Err mistake.Value)))
    ≡ option_map_or (entry_by (cond inside (Some (i - 1, j - 1)) None)) (cond complete (Some (option_map (word_of domain) value)) None) (Err mistake.Entry)
by_parts domain i j false inside value = refl
by_parts domain i j true false value = refl
by_parts domain i j true true None = refl
by_parts domain i j true true (Some z) = refl

entry_said-is : (domain : Domain) (h : Heading) (i j : List ℕ) (words : Line) → h.rows < 2 ^ 64 → h.cols < 2 ^ 64
    → are_digits i ≡ true → are_digits j ≡ true
    → entry_said domain h (i ∷ j ∷ words) ≡ option_map_or (entry_by (position_in h (in_64_bits (digits_value i)) (in_64_bits (digits_value j)))) (value_behind domain h.field words) (Err mistake.Entry)
unfolding entry_said
entry_said-is domain h i j words rows cols row col =
    rw (row, col, position_in-is h (digits_value i) (digits_value j) rows cols, value_behind-is domain h.field i j words)
    (by_parts domain (digits_value i) (digits_value j) (length (i ∷ j ∷ words) == words_for h.field) (is_position h (digits_value i) (digits_value j)) (value_said h.field (i ∷ j ∷ words)))

-- an entry line that begins with two numbers says an entry by these and what stands behind them
pub entry_said-parts : (domain : Domain) (h : Heading) (words behind rest : Line) (row col : Option ℕ)
    → h.rows < 2 ^ 64 → h.cols < 2 ^ 64
    → LeadsWithNumber words row behind → LeadsWithNumber behind col rest
    → entry_said domain h words ≡ option_map_or (entry_by (position_in h row col)) (value_behind domain h.field rest)
    (Err mistake.Entry)
entry_said-parts domain h words behind rest row col rows cols first second =
    let e = first.parts in let f = second.parts in
    let same : words ≡ nth_word words 0 ∷ nth_word behind 0 ∷ rest = e ∙ ap (λ rest. nth_word words 0 ∷ rest) f in
    ap (entry_said domain h) same ∙ entry_said-is domain h (nth_word words 0) (nth_word behind 0) rest rows cols first.digits second.digits
    ∙ ap (λ row. option_map_or (entry_by (position_in h row (in_64_bits (digits_value (nth_word behind 0))))) (value_behind domain h.field rest) (Err mistake.Entry)) (sym first.value)
    ∙ ap (λ col. option_map_or (entry_by (position_in h row col)) (value_behind domain h.field rest) (Err mistake.Entry)) (sym second.value)
