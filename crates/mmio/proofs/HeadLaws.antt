-- What the head of a file says by its banner and its size line.
use Rattle.std.proofs.Common.{◌≡◌, ℕ, suc, ◌^◌, ◌≤◌, ◌==◌, nat_lt, Bool, true, false, cond, List, [], ◌∷◌, length, Option, None, Some, Result, Ok, Err, refl, ap, sym, ◌∙◌, map, arith, inl, inr}
use Rattle.std.specs.Option.{option_map_or}
use Rattle.std.proofs.lemmas.Bool.{cases_lt}
use Rattle.std.proofs.lemmas.Bool.Decides.{nat_tests}
use Rattle.std.proofs.lemmas.List.{length-map}
use Rattle.algebra.specs.declared.domain.Domain.{Domain}
use Rattle.model.specs.declared.market.Field.{Field}
use Rattle.model.specs.declared.market.Heading.{Heading}
use Rattle.model.specs.declared.market.Misread.{Misread}
use Rattle.model.specs.declared.market.Mistake.{Mistake}
use Rattle.model.specs.declared.market.Mistake.TheVariants as mistake
use Rattle.model.specs.declared.market.Symmetry.{Symmetry}
use Rattle.model.specs.Fault.{is_dimension}
use Rattle.model.specs.Grammar.{◌>>=◌, digits_value, lines_of, nth_word, where_it, words_of}
use Rattle.model.specs.MatrixMarket.{Line, Matrix, are_digits, digits_of, has_fitting_shape, heading_of, ToldLine, is_banner, kind_of, matrix_behind, matrix_in, matrix_in_lines, matrix_listed}
use Rattle.mmio.proofs.DigitLaws.{in_64_bits-none, in_64_bits-some}
use Rattle.mmio.proofs.ListingLaws.{no_text}
use Rattle.mmio.specs.Fronts.{LeadsWithNumber, in_64_bits}
use Rattle.mmio.specs.Heads.{heading_by, kind_announced}
use Rattle.mmio.specs.Listing.{fault_in, located, told_in}

-- ---- the banner

-- a banner has five words
pub kind_announced-count : (domain : Domain) (words : Line) → (length words == 5) ≡ false
    → Err mistake.Banner ≡ kind_announced domain words
unfolding is_banner
kind_announced-count domain words count = rw count refl

-- ---- the size line

-- the number that a word writes
abbrev number_in : List ℕ → Option ℕ
number_in word = cond (are_digits word) (in_64_bits (digits_value word)) None

large_dimension : (n : ℕ) → 2 ^ 64 ≤ n → is_dimension n ≡ false
large_dimension n large = grind (arith, nat_tests)

dimension_of_digits : (digits : Bool) (n : ℕ)
    → where_it is_dimension (cond digits (Some n) None) ≡ where_it is_dimension (cond digits (in_64_bits n) None)
dimension_of_digits true n = elim (cases_lt n (2 ^ 64)) [
  | inl small ↦ rw (in_64_bits-some n small) refl
  | inr large ↦ rw (in_64_bits-none n large, large_dimension n large) refl
]
dimension_of_digits false n = refl

count_of_digits : (digits : Bool) (n : ℕ) → where_it (λ n. nat_lt n (2 ^ 64))
    (cond digits (Some n) None) ≡ cond digits (in_64_bits n) None
count_of_digits true n = refl
count_of_digits false n = refl

abbrev heading_with : Field × Symmetry → Option ℕ → Option ℕ → Option ℕ → Option Heading
heading_with kind rows cols entries =
    rows >>= λ rows. cols >>= λ cols. entries >>= λ entries.
    Some (record { field = kind.0; symmetry = kind.1; rows = rows; cols = cols; entries = entries })

heading_of-is : (kind : Field × Symmetry) (words : Line)
    → heading_of kind words ≡ cond (length words == 3)
    (heading_by kind (number_in (nth_word words 0)) (number_in (nth_word words 1)) (number_in (nth_word words 2))) None
unfolding heading_of
heading_of-is kind words =
    let rows = nth_word words 0 in let cols = nth_word words 1 in let entries = nth_word words 2 in
    let given : Option ℕ → Option ℕ → Option ℕ → Option Heading = λ r c e. cond (length words == 3) (heading_with kind r c e) None in
    ap (λ r. given r (where_it is_dimension (digits_of cols)) (where_it (λ n. nat_lt n (2 ^ 64)) (digits_of entries))) (dimension_of_digits (are_digits rows) (digits_value rows))
    ∙ ap (λ c. given (where_it is_dimension (number_in rows)) c (where_it (λ n. nat_lt n (2 ^ 64)) (digits_of entries))) (dimension_of_digits (are_digits cols) (digits_value cols))
    ∙ ap (λ e. given (where_it is_dimension (number_in rows)) (where_it is_dimension (number_in cols)) e) (count_of_digits (are_digits entries) (digits_value entries))

none_in : (word : List ℕ) → are_digits word ≡ false → number_in word ≡ None
none_in word none = rw none refl

either_way : (t : Bool) (heading : Option Heading) → heading ≡ None → cond t heading None ≡ None
either_way true heading none = none
either_way false heading none = refl

second_none : (kind : Field × Symmetry) (rows entries : Option ℕ) → heading_with kind rows None entries ≡ None
second_none kind None entries = refl
second_none kind (Some n) entries = refl

third_none : (kind : Field × Symmetry) (rows cols : Option ℕ) → heading_with kind rows cols None ≡ None
third_none kind None cols = refl
third_none kind (Some m) None = refl
third_none kind (Some m) (Some n) = refl

pub heading_of-no_first : (words : Line) → are_digits (nth_word words 0) ≡ false → (kind : Field × Symmetry)
    → heading_of kind words ≡ None
heading_of-no_first words none kind =
    heading_of-is kind words
    ∙ either_way (length words == 3) _ (ap (λ r. heading_by kind r (number_in (nth_word words 1)) (number_in (nth_word words 2))) (none_in (nth_word words 0) none))

pub heading_of-no_second : (words rest : Line) (rows : Option ℕ) → LeadsWithNumber words rows rest
    → are_digits (nth_word rest 0) ≡ false → (kind : Field × Symmetry) → heading_of kind words ≡ None
heading_of-no_second words rest rows first none kind =
    let second : nth_word words 1 ≡ nth_word rest 0 = ap (λ words. nth_word words 1) first.parts in
    heading_of-is kind words
    ∙ either_way (length words == 3) _
    (ap (λ c. heading_by kind (number_in (nth_word words 0)) c (number_in (nth_word words 2))) (ap number_in second ∙ none_in (nth_word rest 0) none)
    ∙ second_none kind (where_it is_dimension (number_in (nth_word words 0))) (number_in (nth_word words 2)))

pub heading_of-no_third : (words rest last : Line) (rows cols : Option ℕ) → LeadsWithNumber words rows rest
    → LeadsWithNumber rest cols last → are_digits (nth_word last 0) ≡ false
    → (kind : Field × Symmetry) → heading_of kind words ≡ None
heading_of-no_third words rest last rows cols first second none kind =
    let third : nth_word words 2 ≡ nth_word last 0 = ap (λ words. nth_word words 2) first.parts ∙ ap (λ words. nth_word words 1) second.parts in
    heading_of-is kind words
    ∙ either_way (length words == 3) _
    (ap (λ e. heading_by kind (number_in (nth_word words 0)) (number_in (nth_word words 1)) e) (ap number_in third ∙ none_in (nth_word last 0) none)
    ∙ third_none kind (where_it is_dimension (number_in (nth_word words 0))) (where_it is_dimension (number_in (nth_word words 1))))

leading_number : (words rest : Line) (number : Option ℕ) → LeadsWithNumber words number rest
    → number_in (nth_word words 0) ≡ number
leading_number words rest number first = rw first.digits (sym first.value)

three_words : {X : Type 0} (a b c : List ℕ) (behind : Line) (x y : X)
    → cond (length (a ∷ b ∷ c ∷ behind) == 3) x y ≡ cond (length behind == 0) x y
three_words a b c behind x y = grind (arith, nat_tests)

-- three numbers, and nothing behind them, say a heading
pub heading_of-numbers : (words rest last behind : Line) (rows cols entries : Option ℕ)
    → LeadsWithNumber words rows rest → LeadsWithNumber rest cols last → LeadsWithNumber last entries behind
    → (kind : Field × Symmetry) → heading_of kind words ≡ cond (length behind == 0)
    (heading_by kind rows cols entries) None
heading_of-numbers words rest last behind rows cols entries first second third kind =
    let all : words ≡ nth_word words 0 ∷ nth_word rest 0 ∷ nth_word last 0 ∷ behind =
    first.parts ∙ ap (λ rest. nth_word words 0 ∷ rest) second.parts ∙ ap (λ last. nth_word words 0 ∷ nth_word rest 0 ∷ last) third.parts in
    ap (heading_of kind) all
    ∙ heading_of-is kind (nth_word words 0 ∷ nth_word rest 0 ∷ nth_word last 0 ∷ behind)
    ∙ three_words (nth_word words 0) (nth_word rest 0) (nth_word last 0) behind _ None
    ∙ ap (λ r. cond (length behind == 0) (heading_by kind r (number_in (nth_word rest 0)) (number_in (nth_word last 0))) None) (leading_number words rest rows first)
    ∙ ap (λ c. cond (length behind == 0) (heading_by kind rows c (number_in (nth_word last 0))) None) (leading_number rest last cols second)
    ∙ ap (λ e. cond (length behind == 0) (heading_by kind rows cols e) None) (leading_number last behind entries third)

-- ---- both

pub matrix_in-empty : (domain : Domain) (bytes : List ℕ) → length bytes ≡ 0 → matrix_in domain bytes ≡ Err (fault_in bytes (record { left = 0; mistake = mistake.Banner }))
unfolding matrix_in matrix_in_lines lines_of
matrix_in-empty domain bytes none = rw (no_text bytes none) refl

abbrev wrong_at : ℕ → Mistake → Result Matrix Misread
wrong_at left m = Err (record { left = left; mistake = m })

mistake_announced : (t : Bool) (kind : Option (Field × Symmetry)) (go_on : Field × Symmetry → Result Matrix Misread)
    (left : ℕ) (m : Mistake)
    → Err m ≡ cond t (option_map_or Ok kind (Err mistake.Unsupported)) (Err mistake.Banner)
    → cond t (option_map_or go_on kind (wrong_at left mistake.Unsupported))
    (wrong_at left mistake.Banner) ≡ wrong_at left m
mistake_announced true (Some kind) go_on left m is = absurd (cc)
mistake_announced true None go_on left m is = cc
mistake_announced false kind go_on left m is = cc

kind_then : (t : Bool) (announced : Option (Field × Symmetry)) (go_on : Field × Symmetry → Result Matrix Misread)
    (left : ℕ) (kind : Field × Symmetry)
    → Ok kind ≡ cond t (option_map_or Ok announced (Err mistake.Unsupported)) (Err mistake.Banner)
    → cond t (option_map_or go_on announced (wrong_at left mistake.Unsupported))
    (wrong_at left mistake.Banner) ≡ go_on kind
kind_then true (Some other) go_on left kind is = let same : other ≡ kind = cc in ap go_on same
kind_then true None go_on left kind is = absurd (cc)
kind_then false announced go_on left kind is = absurd (cc)

first_kind : (domain : Domain) (line rest : List ℕ) → matrix_in_lines domain (map words_of (line ∷ lines_of rest))
    ≡ cond (is_banner (words_of line)) (option_map_or (λ kind. matrix_behind domain kind (told_in rest)) (kind_of domain (words_of line)) (wrong_at (suc (length (map words_of (lines_of rest)))) mistake.Unsupported))
    (wrong_at (suc (length (map words_of (lines_of rest)))) mistake.Banner)
unfolding matrix_in_lines told_in
first_kind domain line rest = refl

-- a mistake of the first line is the first one
pub matrix_in-no_banner : (domain : Domain) (bytes line rest : List ℕ) (m : Mistake)
    → lines_of bytes ≡ line ∷ lines_of rest → Err m ≡ kind_announced domain (words_of line)
    → matrix_in domain bytes ≡ Err (fault_in bytes (record { left = suc (length (lines_of rest)); mistake = m }))
unfolding matrix_in matrix_in_lines
matrix_in-no_banner domain bytes line rest m cut announced =
    let left = suc (length (map words_of (lines_of rest))) in
    let first = mistake_announced (is_banner (words_of line)) (kind_of domain (words_of line)) (λ kind. matrix_behind domain kind (told_in rest)) left m announced in
    ap (λ lines. located bytes (matrix_in_lines domain (map words_of lines))) cut
    ∙ ap (located bytes) (first_kind domain line rest)
    ∙ ap (located bytes) first
    ∙ ap (λ n. Err (fault_in bytes (record { left = suc n; mistake = m }))) (length-map (lines_of rest) words_of)

-- else the lines behind it say what the matrix is
pub matrix_in-behind : (domain : Domain) (bytes line rest : List ℕ) (kind : Field × Symmetry)
    → lines_of bytes ≡ line ∷ lines_of rest → Ok kind ≡ kind_announced domain (words_of line)
    → matrix_in domain bytes ≡ located bytes (matrix_behind domain kind (told_in rest))
unfolding matrix_in matrix_in_lines
matrix_in-behind domain bytes line rest kind cut announced =
    let left = suc (length (map words_of (lines_of rest))) in
    ap (λ lines. located bytes (matrix_in_lines domain (map words_of lines))) cut
    ∙ ap (located bytes) (first_kind domain line rest)
    ∙ ap (located bytes) (kind_then (is_banner (words_of line)) (kind_of domain (words_of line)) (λ kind. matrix_behind domain kind (told_in rest)) left kind announced)

pub matrix_behind-none : (domain : Domain) (kind : Field × Symmetry) (lines : List ToldLine) → lines ≡ []
    → matrix_behind domain kind lines ≡ wrong_at 0 mistake.SizeLine
unfolding matrix_behind
matrix_behind-none domain kind lines none = rw none refl

pub matrix_behind-no_size : (domain : Domain) (kind : Field × Symmetry) (lines more : List ToldLine) (size : ToldLine)
    → lines ≡ size ∷ more → None ≡ heading_of kind size.words
    → matrix_behind domain kind lines ≡ wrong_at size.left mistake.SizeLine
unfolding matrix_behind
matrix_behind-no_size domain kind lines more size is none = rw (is, ← none) refl

pub matrix_behind-not_square : (domain : Domain) (kind : Field × Symmetry) (lines more : List ToldLine)
    (size : ToldLine) (h : Heading) → lines ≡ size ∷ more → Some h ≡ heading_of kind size.words
    → has_fitting_shape h ≡ false → matrix_behind domain kind lines ≡ wrong_at size.left mistake.NotSquare
unfolding matrix_behind
matrix_behind-not_square domain kind lines more size h is some other = rw (is, ← some, other) refl

pub matrix_behind-size : (domain : Domain) (kind : Field × Symmetry) (lines more : List ToldLine) (size : ToldLine)
    (h : Heading) → lines ≡ size ∷ more → Some h ≡ heading_of kind size.words
    → has_fitting_shape h ≡ true → matrix_behind domain kind lines ≡ matrix_listed domain h more
unfolding matrix_behind
matrix_behind-size domain kind lines more size h is some fits = rw (is, ← some, fits) refl
