-- What an entry line says that is written as programs write it.
use Rattle.std.proofs.Common.{◌≡◌, ℕ, zero, suc, ◌+◌, ◌-◌, ◌%◌, ◌^◌, ◌<◌, ◌≤◌, ◌==◌, ◌||◌, Bool, true, false, not, List, [], ◌∷◌, ◌++◌, map, length, get_or, take, drop, Option, Some, Ok, refl, ap, sym, ◌∙◌, inl, inr, arith, append_assoc, slice_index}
use Rattle.std.specs.List.{All, list_all, slice_split}
use Rattle.std.specs.Str.Lines.{strip_carriage_return}
use Rattle.std.proofs.lemmas.Bool.{and_parts, cases_Bool}
use Rattle.std.proofs.lemmas.Bool.Decides.{nat_tests}
use Rattle.std.proofs.lemmas.List.{drop_more, length-append, length-take-le, take-append-drop}
use Rattle.std.proofs.lemmas.List.Elements.{All-append, All-cons, All-nil, All-weaker}
use Rattle.std.proofs.lemmas.List.Splits.{length-slice_split, slice_split_at, slice_split_none}
use Rattle.algebra.specs.declared.domain.Domain.{Domain}
use Rattle.model.specs.declared.market.Field.TheVariants.{Pattern, Integer}
use Rattle.model.specs.declared.market.Heading.{Heading}
use Rattle.model.specs.Entries.{entry_at}
use Rattle.model.specs.Grammar.{digits_value, is_blank, is_digit, lines_of, without_empty_last, words_of}
use Rattle.model.specs.MatrixMarket.{are_digits, is_position}
use Rattle.model.proofs.TextLaws.{IsPrinted, IsWord, three_words-printed, words_of-three}
use Rattle.mmio.proofs.DigitLaws.{short_in_64_bits}
use Rattle.mmio.proofs.ListingLaws.{told_in-told}
use Rattle.mmio.proofs.SaidLaws.{entry_said-parts}
use Rattle.mmio.proofs.ValueLaws.{residue_said-is}
use Rattle.mmio.specs.Fronts.{LeadsWithNumber, in_64_bits}
use Rattle.mmio.specs.Said.{in_domain, is_negative, residue_said, signed_word, unsigned}
use Rattle.mmio.specs.Usual.{IsNumberBefore, SaysFirst}

-- ---- numbers

-- so many digits at the front of a text are a number before the byte behind them
pub number_before_at : (text : List ℕ) (n end value : ℕ) → 0 < n → n ≤ 19 → n < length text
    → list_all is_digit (take n text) ≡ true → get_or text n 0 ≡ end
    → value ≡ digits_value (take n text) % 2 ^ 64 → IsNumberBefore text end value (drop (n + 1) text)
number_before_at text n end value some short inside digits byte exact =
    let long = length-take-le n text (omega arith) in
    let filled : (length (take n text) == 0) ≡ false = grind (arith, nat_tests) in
    let small = short_in_64_bits (take n text) digits (omega arith) in
    record {
      digits = take n text;
      parts = sym (take-append-drop n text) ∙ ap (λ rest. take n text ++ rest) (drop_more text n 0 inside ∙ ap (λ b. b ∷ drop (n + 1) text) byte);
      are = rw (filled, digits) refl;
      value = ap Some exact ∙ sym small;
    }

digits_whole : (digits : List ℕ) → list_all is_digit digits ≡ true → All (λ b. 33 ≤ b) digits
digits_whole [] is = All-nil (λ b. 33 ≤ b)
digits_whole (b ∷ digits) is =
    let parts = and_parts (is_digit b) (list_all is_digit digits) is in
    let low : 33 ≤ b = grind (arith, nat_tests) in
    All-cons (λ b. 33 ≤ b) b digits low (digits_whole digits parts.1)

digits_all : (digits : List ℕ) → are_digits digits ≡ true → list_all is_digit digits ≡ true
digits_all digits are = (and_parts (not (length digits == 0)) (list_all is_digit digits) are).1

digits_stop : (n : ℕ) (digits : List ℕ) (end : ℕ) (rest : List ℕ) → n ≤ length (digits ++ end ∷ rest)
    → list_all is_digit (take n (digits ++ end ∷ rest)) ≡ true
    → (n < length (digits ++ end ∷ rest) → is_digit (get_or (digits ++ end ∷ rest) n 0) ≡ false)
    → list_all is_digit digits ≡ true → is_digit end ≡ false → n ≡ length digits
digits_stop zero [] end rest within front stops are other = refl
digits_stop (suc n) [] end rest within front stops are other =
    let first = (and_parts (is_digit end) (list_all is_digit (take n rest)) front).0 in absurd (cc)
digits_stop zero (d ∷ ds) end rest within front stops are other =
    let first = (and_parts (is_digit d) (list_all is_digit ds) are).0 in
    let no = stops (omega arith) in
    absurd (cc)
digits_stop (suc n) (d ∷ ds) end rest within front stops are other =
    let behind = (and_parts (is_digit d) (list_all is_digit (take n (ds ++ end ∷ rest))) front).1 in
    let digits = (and_parts (is_digit d) (list_all is_digit ds) are).1 in
    ap suc (digits_stop n ds end rest (omega arith) behind (λ below. stops (omega arith)) digits other)

byte_behind : (digits : List ℕ) (end : ℕ) (rest : List ℕ) → get_or (digits ++ end ∷ rest) (length digits) 0 ≡ end
byte_behind [] end rest = refl
byte_behind (d ∷ ds) end rest = byte_behind ds end rest

-- where digits stand before a byte that is none, they are all at the front
pub number_behind : (text : List ℕ) (n end : ℕ) (digits rest : List ℕ) → n ≤ length text
    → list_all is_digit (take n text) ≡ true → (n < length text → is_digit (get_or text n 0) ≡ false)
    → text ≡ digits ++ end ∷ rest → are_digits digits ≡ true → is_digit end ≡ false
    → (n ≡ length digits) × (0 < n) × (n < length text) × (get_or text n 0 ≡ end)
number_behind text n end digits rest within front stops parts are other =
    let filled : 0 < length digits = grind (arith, nat_tests) in
    let long : length text ≡ length digits + suc (length rest) = ap length parts ∙ length-append digits (end ∷ rest) in
    let same : n ≡ length digits = digits_stop n digits end rest (rw (← parts) within) (rw (← parts) front) (rw (← parts) stops) (digits_all digits are) other in
    (same, omega arith, omega arith, rw (parts, same) (byte_behind digits end rest))

digits_word : (digits : List ℕ) → are_digits digits ≡ true → IsWord digits
digits_word [] are = absurd (cc)
digits_word (b ∷ bs) are = record { filled = omega arith; whole = digits_whole (b ∷ bs) (digits_all (b ∷ bs) are) }

-- digits have no sign
no_sign : (digits : List ℕ) → are_digits digits ≡ true → (unsigned digits ≡ digits) × (is_negative digits ≡ false)
no_sign [] are = absurd (cc)
no_sign (b ∷ bs) are =
    let digit = (and_parts (is_digit b) (list_all is_digit bs) (digits_all (b ∷ bs) are)).0 in
    let no_minus : (b == 45) ≡ false = grind (arith, nat_tests) in
    let no_plus : (b == 43) ≡ false = grind (arith, nat_tests) in
    (rw (no_minus, no_plus) refl, no_minus)

-- a value at the front of a text, which a byte ends
record IsValueBefore (text : List ℕ) (end : ℕ) (residue : Option ℕ) (rest : List ℕ) : Type 0 where
  word : List ℕ
  parts : text ≡ word ++ end ∷ rest
  is : IsWord word
  value : residue_said word ≡ residue

signed_before : (text digits rest : List ℕ) (end magnitude : ℕ) (minus : Bool) → minus ≡ is_negative text
    → digits ≡ unsigned text → IsNumberBefore digits end magnitude rest
    → IsValueBefore text end (signed_word minus (Some magnitude)) rest
signed_before [] digits rest end magnitude minus sign same number =
    let e = ap length (sym number.parts ∙ same) in absurd (omega (arith, length-append number.digits (end ∷ rest), e))
signed_before (b ∷ bs) digits rest end magnitude minus sign same number = elim (cases_Bool ((b == 45) || (b == 43))) [
  | inl signed ↦
      let behind : digits ≡ bs = same ∙ rw signed refl in
      let whole = digits_word number.digits number.are in
      let low : 33 ≤ b = grind (arith, nat_tests) in
      let without : unsigned (b ∷ number.digits) ≡ number.digits = rw signed refl in
      record {
        word = b ∷ number.digits;
        parts = ap (λ bs. b ∷ bs) (sym behind ∙ number.parts);
        is = record { filled = omega arith; whole = All-cons (λ b. 33 ≤ b) b number.digits low whole.whole };
        value = residue_said-is (b ∷ number.digits) ∙ rw (without, number.are, ← number.value, ← sign) refl;
      }
  | inr plain ↦
      let all : digits ≡ b ∷ bs = same ∙ rw plain refl in
      let own = no_sign number.digits number.are in
      let none : (b == 45) ≡ false = grind (arith, nat_tests) in
      record {
        word = number.digits;
        parts = sym all ∙ number.parts;
        is = digits_word number.digits number.are;
        value = residue_said-is number.digits ∙ rw (own.0, own.1, number.are, ← number.value, sign, none) refl;
      }
]

-- ---- lines

without_empty_last-cons : (part : List ℕ) (parts : List (List ℕ)) → 0 < length parts
    → without_empty_last (part ∷ parts) ≡ part ∷ without_empty_last parts
without_empty_last-cons part [] h = absurd (omega arith)
without_empty_last-cons part (next ∷ parts) h = refl

unstripped : (line : List ℕ) → IsPrinted line → strip_carriage_return line ≡ line
unstripped [] all = refl
unstripped (b ∷ bs) all =
    let last : 32 ≤ get_or (b ∷ bs) (length (b ∷ bs) - 1) 0 = all (length (b ∷ bs) - 1) 0 (omega arith) in
    let other : (get_or (b ∷ bs) (length (b ∷ bs) - 1) 0 == 13) ≡ false = grind (arith, nat_tests) in
    rw other refl

-- a line feed ends a line without control characters
first_line_is : (line rest : List ℕ) → IsPrinted line → lines_of (line ++ 10 ∷ rest) ≡ line ∷ lines_of rest
unfolding lines_of
first_line_is line rest printed =
    let feed : ℕ → Bool = λ b. b == 10 in
    let none : All (λ b. feed b ≡ false) line = All-weaker (λ b. 32 ≤ b) (λ b. feed b ≡ false) (λ b low. grind (arith, nat_tests)) line printed in
    let count = length-slice_split feed rest in
    ap (λ parts. map strip_carriage_return (without_empty_last parts)) (slice_split_at feed line 10 rest none refl)
    ∙ ap (map strip_carriage_return) (without_empty_last-cons line (slice_split feed rest) (omega (arith, count)))
    ∙ ap (λ line. line ∷ map strip_carriage_return (without_empty_last (slice_split feed rest))) (unstripped line printed)

no_blanks : (word : List ℕ) → IsWord word → All (λ b. is_blank b ≡ false) word
no_blanks word is = All-weaker (λ b. 33 ≤ b) (λ b. is_blank b ≡ false) (λ b low. grind (arith, nat_tests)) word is.whole

not_empty : (word : List ℕ) → IsWord word → (length word == 0) ≡ false
not_empty word is = let filled = is.filled in grind (arith, nat_tests)

words_of-two : (a b : List ℕ) → IsWord a → IsWord b → words_of (a ++ 32 ∷ b) ≡ a ∷ b ∷ []
words_of-two a b p q =
    let parts : slice_split is_blank (a ++ 32 ∷ b) ≡ a ∷ b ∷ [] =
    slice_split_at is_blank a 32 b (no_blanks a p) refl ∙ ap (λ (words : List (List ℕ)). a ∷ words) (slice_split_none is_blank b (no_blanks b q)) in
    rw (parts, not_empty a p, not_empty b q) refl

two_words-printed : (a b : List ℕ) → IsWord a → IsWord b → IsPrinted (a ++ 32 ∷ b)
two_words-printed a b p q =
    let P : ℕ → Type 0 = λ b. 32 ≤ b in
    let printed : (word : List ℕ) → IsWord word → IsPrinted word = λ word is. All-weaker (λ b. 33 ≤ b) P (λ b low. omega arith) word is.whole in
    let space : 32 ≤ 32 = omega arith in
    All-append P a (32 ∷ b) (printed a p) (All-cons P 32 b space (printed b q))

-- what begins with digits is no comment
digits_told : (digits : List ℕ) → are_digits digits ≡ true → not (slice_index digits 0 == 37) ≡ true
digits_told [] are = absurd (cc)
digits_told (b ∷ bs) are = let digit = (and_parts (is_digit b) (list_all is_digit bs) (digits_all (b ∷ bs) are)).0 in grind (arith, nat_tests)

leads : (digits : List ℕ) (others : List (List ℕ)) (number : ℕ) → are_digits digits ≡ true
    → Some number ≡ in_64_bits (digits_value digits) → LeadsWithNumber (digits ∷ others) (Some number) others
leads digits others number are value = record { parts = refl; digits = are; value = value }

-- ---- entries

-- two numbers and a value
pub says_value : (domain : Domain) (h : Heading) (text second third digits rest : List ℕ)
    (row col magnitude residue : ℕ) (minus : Bool)
    → h.rows < 2 ^ 64 → h.cols < 2 ^ 64 → h.field ≡ Integer → IsNumberBefore text 32 row second
    → IsNumberBefore second 32 col third
    → minus ≡ is_negative third → digits ≡ unsigned third → IsNumberBefore digits 10 magnitude rest
    → Some residue ≡ signed_word minus (Some magnitude) → is_position h row col ≡ true
    → SaysFirst domain h text (Ok (entry_at (row - 1) (col - 1) (in_domain domain residue))) rest
says_value domain h text second third digits rest row col magnitude residue minus rows cols field i j sign same number value inside =
    let v = signed_before third digits rest 10 magnitude minus sign same number in
    let a = i.digits in let b = j.digits in let c = v.word in
    let p = digits_word a i.are in let q = digits_word b j.are in
    let line = a ++ 32 ∷ b ++ 32 ∷ c in
    let split : text ≡ line ++ 10 ∷ rest =
    i.parts ∙ ap (λ t. a ++ 32 ∷ t) (j.parts ∙ ap (λ t. b ++ 32 ∷ t) v.parts)
    ∙ sym (append_assoc (a ++ 32 ∷ b) (32 ∷ c) (10 ∷ rest) ∙ append_assoc a (32 ∷ b) (32 ∷ c ++ 10 ∷ rest)) in
    let words = words_of-three a b c p q v.is in
    let cut : lines_of text ≡ line ∷ lines_of rest = ap lines_of split ∙ first_line_is line rest (three_words-printed a b c p q v.is) in
    let told = told_in-told text line rest line cut refl (rw words (digits_told a i.are)) in
    let parts = entry_said-parts domain h (a ∷ b ∷ c ∷ []) (b ∷ c ∷ []) (c ∷ []) (Some row) (Some col) rows cols (leads a (b ∷ c ∷ []) row i.are i.value) (leads b (c ∷ []) col j.are j.value) in
    record {
      words = a ∷ b ∷ c ∷ [];
      told = rw words at told;
      is = sym (parts ∙ rw (inside, field, v.value, ← value) refl);
    }

-- two numbers
pub says_position : (domain : Domain) (h : Heading) (text second rest : List ℕ) (row col : ℕ)
    → h.rows < 2 ^ 64 → h.cols < 2 ^ 64 → h.field ≡ Pattern → IsNumberBefore text 32 row second
    → IsNumberBefore second 10 col rest
    → is_position h row col ≡ true → SaysFirst domain h text (Ok (entry_at (row - 1) (col - 1) 1)) rest
says_position domain h text second rest row col rows cols field i j inside =
    let a = i.digits in let b = j.digits in
    let p = digits_word a i.are in let q = digits_word b j.are in
    let line = a ++ 32 ∷ b in
    let split : text ≡ line ++ 10 ∷ rest = i.parts ∙ ap (λ t. a ++ 32 ∷ t) j.parts ∙ sym (append_assoc a (32 ∷ b) (10 ∷ rest)) in
    let words = words_of-two a b p q in
    let cut : lines_of text ≡ line ∷ lines_of rest = ap lines_of split ∙ first_line_is line rest (two_words-printed a b p q) in
    let told = told_in-told text line rest line cut refl (rw words (digits_told a i.are)) in
    let parts = entry_said-parts domain h (a ∷ b ∷ []) (b ∷ []) [] (Some row) (Some col) rows cols (leads a (b ∷ []) row i.are i.value) (leads b [] col j.are j.value) in
    record {
      words = a ∷ b ∷ [];
      told = rw words at told;
      is = sym (parts ∙ rw (inside, field) refl);
    }
