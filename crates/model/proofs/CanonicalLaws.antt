-- The canonical text of an object stands for its entries, row by row; so what is read of it is the object.
use Rattle.std.proofs.Common.{◌≡◌, ℕ, ◌+◌, ◌-◌, ◌^◌, ◌<◌, ◌≤◌, ◌&&◌, true, List, [], ◌∷◌, map, length, get_or, Some, None, Result, Ok, refl, sym, subst, ◌∙◌, ap, arith}
use Rattle.std.specs.Prelude.{nat_le, nat_lt, filter, codes, decimal}
use Rattle.std.specs.List.{All, flat_map, list_all}
use Rattle.std.specs.Result.{result_err}
use Rattle.std.proofs.lemmas.Bool.{and_parts, leb-true, lt-ltb}
use Rattle.std.proofs.lemmas.Bool.Decides.{nat_tests}
use Rattle.std.proofs.lemmas.List.{length-map}
use Rattle.std.proofs.lemmas.List.Elements.{All-cons, All-head, All-map, All-nil, All-tail, All-weaker}
use Rattle.algebra.proofs.Casts.{cast_own}
use Rattle.algebra.specs.declared.domain.Domain.{Domain}
use Rattle.algebra.specs.declared.domain.Domain.TheVariants.{Bool as Boolean, Int64, Uint64, User}
use Rattle.algebra.specs.Value.{is_built_in, value_of}
use Rattle.model.proofs.MarketLaws.{IsListed, stands_for-matrix_in}
use Rattle.model.specs.declared.entry.Entry.{Entry}
use Rattle.model.specs.declared.market.Field.TheVariants as field
use Rattle.model.specs.declared.market.Heading.{Heading}
use Rattle.model.specs.declared.market.Symmetry.TheVariants as symmetry
use Rattle.model.specs.declared.market.MmFault.{MmFault}
use Rattle.model.specs.Entries.{entries_of}
use Rattle.model.specs.Fault.{are_dimensions, is_dimension}
use Rattle.model.specs.Grammar.{words_of}
use Rattle.model.specs.MatrixMarket.{Line, Matrix, StandsFor, entries_said, entry_said, field_of, heading_of, is_banner, is_told, kind_of, matrix_in, object_read, sum_in_file, symmetry_of}
use Rattle.model.specs.Object.{IsObject, Object, cols_of, rows_of}
use Rattle.model.specs.Text.{canonical_lines, ended, entry_line, size_line, value_text}
use Rattle.model.proofs.EntryLaws.{entries_of-listed, gathered-entries_of}
use Rattle.model.proofs.TextLaws.{IsNumber, IsPrinted, IsValueText, decimal-number, lines_of-ended, number-said, signed_decimal-value, three_words-printed, value_of-of_64_bits, words_of-three}

-- ---- entry lines

abbrev plain_heading : ℕ → ℕ → ℕ → Heading
plain_heading rows cols n = record { field = field.Integer; symmetry = symmetry.General; rows = rows; cols = cols; entries = n }

-- the words of an entry's line
entry_words : Domain → Entry → Line
entry_words domain e = decimal (e.row + 1) ∷ decimal (e.col + 1) ∷ value_text domain e.word ∷ []

-- the numbers of such a line
record IsEntryText (domain : Domain) (e : Entry) : Type 0 where
  row : IsNumber (e.row + 1) (decimal (e.row + 1))
  col : IsNumber (e.col + 1) (decimal (e.col + 1))
  value : IsValueText (value_of domain e.word) (value_text domain e.word)

dimension-small : (n : ℕ) → is_dimension n ≡ true → n < 2 ^ 64
dimension-small n is = grind (arith, nat_tests)

entry_text : (domain : Domain) (rows cols : ℕ) (e : Entry) → is_built_in domain ≡ true → is_dimension rows ≡ true
    → is_dimension cols ≡ true → IsListed domain rows cols e → IsEntryText domain e
entry_text domain rows cols e built_in high wide is =
    let tall = dimension-small rows high in
    let broad = dimension-small cols wide in
    let row : e.row + 1 < 2 ^ 64 = omega (arith, is.row) in
    let col : e.col + 1 < 2 ^ 64 = omega (arith, is.col) in
    record {
      row = decimal-number (e.row + 1) row;
      col = decimal-number (e.col + 1) col;
      value = signed_decimal-value (value_of domain e.word) (value_of-of_64_bits domain e.word built_in is.word);
    }

entry_line-words : (domain : Domain) (e : Entry) → IsEntryText domain e
    → words_of (entry_line domain e) ≡ entry_words domain e
unfolding entry_words
entry_line-words domain e is = words_of-three (decimal (e.row + 1)) (decimal (e.col + 1)) (value_text domain e.word) is.row.word is.col.word is.value.word

entry_line-printed : (domain : Domain) (e : Entry) → IsEntryText domain e → IsPrinted (entry_line domain e)
entry_line-printed domain e is = three_words-printed (decimal (e.row + 1)) (decimal (e.col + 1)) (value_text domain e.word) is.row.word is.col.word is.value.word

told : (n : ℕ) (text : List ℕ) (words : Line) → IsNumber n text → is_told (text ∷ words) ≡ true
told n text words is = let first = is.first in grind (arith, nat_tests)

position-is : (i j rows cols : ℕ) → i < rows → j < cols
    → (nat_le 1 (i + 1) && nat_le (i + 1) rows && nat_le 1 (j + 1) && nat_le (j + 1) cols) ≡ true
position-is i j rows cols p q = grind (arith, nat_tests)

-- the line of an entry says this entry
entry_words-said : (domain : Domain) (rows cols n : ℕ) (e : Entry) → IsListed domain rows cols e → IsEntryText domain e
    → is_built_in domain ≡ true
    → entry_said domain (plain_heading rows cols n) (entry_words domain e) ≡ Ok e
unfolding entry_said entry_words
entry_words-said domain rows cols n e listed is built_in =
    let inside = position-is e.row e.col rows cols listed.row listed.col in
    let bits = value_of-of_64_bits domain e.word built_in listed.word in
    let row : e.row + 1 - 1 ≡ e.row = omega arith in
    let col : e.col + 1 - 1 ≡ e.col = omega arith in
    rw (is.row.digits, is.col.digits, is.row.value, is.col.value, inside, is.value.value, bits, row, col, cast_own domain e.word listed.word) refl

-- ---- the text

texts : (domain : Domain) (rows cols : ℕ) (entries : List Entry) → is_built_in domain ≡ true → is_dimension rows ≡ true
    → is_dimension cols ≡ true → All (IsListed domain rows cols) entries
    → All (IsEntryText domain) entries
texts domain rows cols entries built_in high wide all = All-weaker (IsListed domain rows cols) (IsEntryText domain) (λ e is. entry_text domain rows cols e built_in high wide is) entries all

all_words : (domain : Domain) (entries : List Entry) → All (IsEntryText domain) entries
    → map words_of (map (entry_line domain) entries) ≡ map (entry_words domain) entries
all_words domain [] all = refl
all_words domain (e ∷ entries) all =
    rw (entry_line-words domain e (All-head (IsEntryText domain) e entries all), all_words domain entries (All-tail (IsEntryText domain) e entries all)) refl

all_told : (domain : Domain) (entries : List Entry) → All (IsEntryText domain) entries
    → filter is_told (map (entry_words domain) entries) ≡ map (entry_words domain) entries
unfolding entry_words
all_told domain [] all = refl
all_told domain (e ∷ entries) all =
    let is = All-head (IsEntryText domain) e entries all in
    let first = told (e.row + 1) (decimal (e.row + 1)) (decimal (e.col + 1) ∷ value_text domain e.word ∷ []) is.row in
    rw (first, all_told domain entries (All-tail (IsEntryText domain) e entries all)) refl

all_said : (domain : Domain) (rows cols n : ℕ) (entries : List Entry) → is_built_in domain ≡ true
    → All (IsListed domain rows cols) entries → All (IsEntryText domain) entries
    → entries_said domain (plain_heading rows cols n) (map (entry_words domain) entries) ≡ entries
all_said domain rows cols n [] built_in listed all = refl
all_said domain rows cols n (e ∷ entries) built_in listed all =
    let said = entry_words-said domain rows cols n e (All-head (IsListed domain rows cols) e entries listed) (All-head (IsEntryText domain) e entries all) built_in in
    let rest = all_said domain rows cols n entries built_in (All-tail (IsListed domain rows cols) e entries listed) (All-tail (IsEntryText domain) e entries all) in
    rw said (ap (λ (es : List Entry). e ∷ es) rest)

none_wrong : (domain : Domain) (rows cols n : ℕ) (entries : List Entry) → is_built_in domain ≡ true
    → All (IsListed domain rows cols) entries → All (IsEntryText domain) entries
    → All (λ line. result_err (entry_said domain (plain_heading rows cols n) line) ≡ None)
    (map (entry_words domain) entries)
none_wrong domain rows cols n entries built_in listed all =
    All-map (λ (line : Line). result_err (entry_said domain (plain_heading rows cols n) line) ≡ None) (entry_words domain) entries
    (λ k e within. ap result_err (entry_words-said domain rows cols n (get_or entries k e) (listed k e within) (all k e within) built_in))

banner_line : List ℕ
banner_line = codes "%%MatrixMarket matrix coordinate integer general"

banner : Line
banner = codes "%%MatrixMarket" ∷ codes "matrix" ∷ codes "coordinate" ∷ codes "integer" ∷ codes "general" ∷ []

banner-words : words_of banner_line ≡ banner
unfolding banner_line banner
banner-words = refl

is_banner-banner : is_banner banner ≡ true
unfolding banner is_banner
is_banner-banner = refl

printed_from : (line : List ℕ) → list_all (λ b. nat_le 32 b) line ≡ true → IsPrinted line
printed_from [] is = All-nil (λ b. 32 ≤ b)
printed_from (b ∷ line) is =
    let parts = and_parts (nat_le 32 b) (list_all (λ b. nat_le 32 b) line) is in
    All-cons (λ b. 32 ≤ b) b line (leb-true 32 b parts.0) (printed_from line parts.1)

banner-printed : IsPrinted banner_line
unfolding banner_line
banner-printed = printed_from (codes "%%MatrixMarket matrix coordinate integer general") refl

banner-kind : (domain : Domain) → is_built_in domain ≡ true
    → kind_of domain banner ≡ Some (field.Integer, symmetry.General)
unfolding banner kind_of field_of symmetry_of
banner-kind Boolean is = refl
banner-kind Int64 is = refl
banner-kind Uint64 is = refl
banner-kind (User k) is = absurd (cc)

size-heading : (rows cols n : ℕ) → is_dimension rows ≡ true → is_dimension cols ≡ true → n < 2 ^ 64
    → heading_of (field.Integer, symmetry.General)
    (decimal rows ∷ decimal cols ∷ decimal n ∷ []) ≡ Some (plain_heading rows cols n)
unfolding heading_of
size-heading rows cols n high wide small =
    let row = number-said rows (decimal rows) (decimal-number rows (dimension-small rows high)) in
    let col = number-said cols (decimal cols) (decimal-number cols (dimension-small cols wide)) in
    let count = number-said n (decimal n) (decimal-number n small) in
    let fits : nat_lt n (2 ^ 64) ≡ true = lt-ltb _ _ small in
    rw (row, col, count, high, wide, fits) refl

-- what the canonical lines of entries stand for
lines_stand : (domain : Domain) (rows cols : ℕ) (entries : List Entry) → is_built_in domain ≡ true
    → is_dimension rows ≡ true → is_dimension cols ≡ true
    → All (IsListed domain rows cols) entries → length entries < 2 ^ 64
    → StandsFor domain (flat_map ended (banner_line ∷ size_line rows cols (length entries) ∷ map (entry_line domain) entries)) (record { rows = rows; cols = cols; entries = entries })
lines_stand domain rows cols entries built_in high wide listed few =
    let n = length entries in
    let all = texts domain rows cols entries built_in high wide listed in
    let row = decimal-number rows (dimension-small rows high) in
    let col = decimal-number cols (dimension-small cols wide) in
    let count = decimal-number n few in
    let size : Line = decimal rows ∷ decimal cols ∷ decimal n ∷ [] in
    let words : words_of (size_line rows cols n) ≡ size = words_of-three (decimal rows) (decimal cols) (decimal n) row.word col.word count.word in
    let all_lines : List (List ℕ) = map (entry_line domain) entries in
    let printed : All IsPrinted (banner_line ∷ size_line rows cols n ∷ all_lines) =
    All-cons IsPrinted banner_line (size_line rows cols n ∷ all_lines) banner-printed
    (All-cons IsPrinted (size_line rows cols n) all_lines (three_words-printed (decimal rows) (decimal cols) (decimal n) row.word col.word count.word)
    (All-map IsPrinted (entry_line domain) entries (All-weaker (IsEntryText domain) (λ e. IsPrinted (entry_line domain e)) (entry_line-printed domain) entries all))) in
    let cut : map words_of (banner_line ∷ size_line rows cols n ∷ all_lines) ≡ banner ∷ size ∷ map (entry_words domain) entries = rw (banner-words, words, all_words domain entries all) refl in
    let said = told rows (decimal rows) (decimal cols ∷ decimal n ∷ []) row in
    record {
      banner = banner;
      size = size;
      lines = size ∷ map (entry_words domain) entries;
      entries = map (entry_words domain) entries;
      heading = plain_heading rows cols n;
      cut = ap (map words_of) (lines_of-ended (banner_line ∷ size_line rows cols n ∷ all_lines) printed) ∙ cut;
      announced = is_banner-banner;
      kind = banner-kind domain built_in;
      said = rw (said, all_told domain entries all) refl;
      sized = size-heading rows cols n high wide few;
      fits = refl;
      number = length-map entries (entry_words domain);
      each = none_wrong domain rows cols n entries built_in listed all;
      stands = rw (all_said domain rows cols n entries built_in listed all) refl;
    }

-- the text that an object is written as is read as its entries
pub canonical_text_stands : (o : Object) → is_built_in o.domain ≡ true → IsObject o → are_dimensions o.shape ≡ true
    → length (entries_of (rows_of o.shape) (cols_of o.shape) o.content) < 2 ^ 64
    → matrix_in o.domain (flat_map ended (canonical_lines o)) ≡ Ok (record { rows = rows_of o.shape; cols = cols_of o.shape; entries = entries_of (rows_of o.shape) (cols_of o.shape) o.content })
unfolding canonical_lines banner_line
canonical_text_stands o built_in is dimensions few =
    let sizes = and_parts (is_dimension (rows_of o.shape)) (is_dimension (cols_of o.shape)) dimensions in
    let rows = rows_of o.shape in
    let cols = cols_of o.shape in
    stands_for-matrix_in o.domain (flat_map ended (canonical_lines o)) (record { rows = rows; cols = cols; entries = entries_of rows cols o.content })
    (lines_stand o.domain rows cols (entries_of rows cols o.content) built_in sizes.0 sizes.1 (entries_of-listed o.domain rows cols o.content is.words) few)

-- what is read of the text that an object is written as is the object, as a matrix
pub canonical_text_is_the_object : (o : Object) (m : Matrix) → is_built_in o.domain ≡ true → IsObject o
    → are_dimensions o.shape ≡ true
    → length (entries_of (rows_of o.shape) (cols_of o.shape) o.content) < 2 ^ 64
    → matrix_in o.domain (flat_map ended (canonical_lines o)) ≡ Ok m
    → (m.rows ≡ rows_of o.shape) × (m.cols ≡ cols_of o.shape) × ((i j : ℕ) → (object_read o.domain m).content i j ≡ o.content i j)
canonical_text_is_the_object o m built_in is dimensions few read =
    let rows = rows_of o.shape in
    let cols = cols_of o.shape in
    let whole : Matrix = record { rows = rows; cols = cols; entries = entries_of rows cols o.content } in
    let same : ◌≡◌ {A = Result Matrix MmFault} (Ok whole) (Ok m) = sym (canonical_text_stands o built_in is dimensions few) ∙ read in
    let is_whole : whole ≡ m = cc in
    subst (λ (m : Matrix). (m.rows ≡ rows) × (m.cols ≡ cols) × ((i j : ℕ) → (object_read o.domain m).content i j ≡ o.content i j)) is_whole
    (refl, refl, gathered-entries_of (Some (sum_in_file o.domain)) rows cols o.content is.within)
