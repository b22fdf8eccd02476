-- What a Matrix Market text stands for: the relation and the function agree, and the matrix lies inside its
-- dimensions, with words of the domain. So it makes an object.
use Rattle.std.proofs.Common.{◌≡◌, ℕ, zero, suc, ◌-◌, ◌==◌, ◌&&◌, ◌||◌, Bool, true, false, cond, List, [], ◌∷◌, ◌++◌, map, drop, length, take, ◌^◌, ◌<◌, Option, Some, None, Result, Ok, Err, refl, sym, ◌∙◌, ap, subst, inl, inr, arith, if◌then◌else◌}
use Rattle.std.specs.Prelude.{ℤ, nat_le, nat_lt, slice_get, filter, codes, neg_ℤ}
use Rattle.std.specs.List.{All, cons_option, filter_map, flat_map}
use Rattle.std.specs.Option.{option_map, option_map_or}
use Rattle.std.specs.Result.{result_err, result_map_both, result_ok}
use Rattle.std.proofs.lemmas.Bool.{cases_Bool, lt-ltb}
use Rattle.std.proofs.lemmas.Bool.Decides.{nat_tests}
use Rattle.std.proofs.lemmas.List.{drop_all, length-map, take_all}
use Rattle.std.proofs.lemmas.List.Elements.{All-append, All-cons, All-head, All-nil, All-tail, All-weaker}
use Rattle.std.proofs.lemmas.Option.{option_and_then_some, some_pair_parts}
use Rattle.algebra.proofs.Casts.{IsWordOf-word_of, cast_own}
use Rattle.algebra.specs.declared.domain.Domain.{Domain}
use Rattle.algebra.specs.declared.domain.Domain.TheVariants.{Bool as Boolean, Int64, Uint64, User}
use Rattle.algebra.specs.Value.{IsWordOf, is_built_in, value_of, word_of}
use Rattle.model.specs.declared.entry.Entry.{Entry}
use Rattle.model.specs.declared.market.Field.{Field}
use Rattle.model.specs.declared.market.Heading.{Heading}
use Rattle.model.specs.declared.market.Misread.{Misread}
use Rattle.model.specs.declared.market.Mistake.{Mistake}
use Rattle.model.specs.declared.market.Mistake.TheVariants as mistake
use Rattle.model.specs.declared.market.Symmetry.{Symmetry}
use Rattle.model.specs.declared.market.Symmetry.TheVariants as symmetry
use Rattle.model.specs.declared.shape.Place.TheVariants as place
use Rattle.model.specs.declared.shape.Shape.TheVariants.{Two}
use Rattle.model.specs.declared.tuples.Tuple.{Tuple}
use Rattle.model.specs.Builds.{are_inside, entry_of}
use Rattle.model.specs.Entries.{IsInside, entry_at}
use Rattle.model.specs.Fault.{accumulates, is_dimension}
use Rattle.model.specs.Grammar.{digits_value, lines_of, nth_word, where_it, words_of}
use Rattle.model.specs.MatrixMarket.{Line, Matrix, StandsFor, ToldLine, are_digits, can_hold, digits_of, entries_said, entry_said, fault_at, faults_of, field_of, has_fitting_shape, heading_of, is_banner, is_general, is_position, is_told, kind_of, matrix_behind, matrix_in, matrix_in_lines, matrix_listed, misread, object_read, says, sum_in_file, symmetry_of, told_lines, value_said, with_mirror, words_for}
use Rattle.model.specs.Object.{IsObject}
use Rattle.model.proofs.BuildLaws.{built-is_object}

-- ---- steps that found something

cond_then : {A : Type 0} (b : Bool) (o : Option A) (x : A) → cond b o None ≡ Some x → (b ≡ true) × (o ≡ Some x)
cond_then true o x is = (refl, is)
cond_then false o x is = absurd (cc)

where_it-some : {A : Type 0} (passes : A → Bool) (o : Option A) (x : A) → where_it passes o ≡ Some x
    → (o ≡ Some x) × (passes x ≡ true)
where_it-some passes o x is = option_and_then_some (λ y. cond (passes y) (Some y) None) o x is
    (λ y found rest. let kept = cond_then (passes y) (Some y) x rest in let same : y ≡ x = cc in (found ∙ kept.1, rw same at kept.0))

-- ---- faults

no_fault : (faults : List Misread) (m n : Matrix) → option_map_or Err (slice_get faults 0) (Ok m) ≡ Ok n
    → (faults ≡ []) × (n ≡ m)
no_fault [] m n is = (refl, cc)
no_fault (fault ∷ faults) m n is = absurd (cc)

append_nil_parts : {A : Type 0} (xs ys : List A) → xs ++ ys ≡ [] → (xs ≡ []) × (ys ≡ [])
append_nil_parts [] ys is = (refl, is)
append_nil_parts (x ∷ xs) ys is = absurd (cc)

no_mistake : (line : ToldLine) (error : Option Mistake) (errors : List Misread)
    → cons_option (option_map (λ wrong. misread wrong line) error) errors ≡ []
    → (error ≡ None) × (errors ≡ [])
no_mistake line None errors is = (refl, is)
no_mistake line (Some e) errors is = absurd (cc)

none_behind : (n : ℕ) (lines : List ToldLine) → map (misread mistake.TooMany) (take 1 (drop n lines)) ≡ []
    → nat_lt n (length lines) ≡ false
none_behind n [] is = grind (arith, nat_tests)
none_behind zero (line ∷ lines) is = absurd (cc)
none_behind (suc n) (line ∷ lines) is = let below = none_behind n lines is in grind (arith, nat_tests)

behind_none : (n : ℕ) (lines : List ToldLine) → length lines ≡ n
    → map (misread mistake.TooMany) (take 1 (drop n lines)) ≡ []
behind_none n lines count = rw (drop_all n lines (omega arith)) refl

nothing : (b : Bool) (f : Misread) → cond b (f ∷ []) [] ≡ [] → b ≡ false
nothing true f is = absurd (cc)
nothing false f is = refl

words_in : List ToldLine → List Line
words_in lines = map (λ (line : ToldLine). line.words) lines

mistakes_in : Domain → Heading → List ToldLine → List Misread
mistakes_in domain h lines = filter_map (λ line. option_map (λ wrong. misread wrong line) (result_err (entry_said domain h line.words))) lines

no_errors_in : (domain : Domain) (h : Heading) (lines : List ToldLine)
    → All (λ line. result_err (entry_said domain h line) ≡ None) (words_in lines) → mistakes_in domain h lines ≡ []
unfolding words_in mistakes_in
no_errors_in domain h [] each = refl
no_errors_in domain h (line ∷ lines) each =
    let first = All-head (λ (line : Line). result_err (entry_said domain h line) ≡ None) line.words (words_in lines) each in
    rw first (no_errors_in domain h lines (All-tail (λ (line : Line). result_err (entry_said domain h line) ≡ None) line.words (words_in lines) each))

no_errors : (domain : Domain) (h : Heading) (lines : List ToldLine) → mistakes_in domain h lines ≡ []
    → All (λ line. result_err (entry_said domain h line) ≡ None) (words_in lines)
unfolding words_in mistakes_in
no_errors domain h [] is = All-nil (λ (line : Line). result_err (entry_said domain h line) ≡ None)
no_errors domain h (line ∷ lines) is =
    let none = no_mistake line (result_err (entry_said domain h line.words)) (mistakes_in domain h lines) is in
    All-cons (λ (line : Line). result_err (entry_said domain h line) ≡ None) line.words (words_in lines) none.0 (no_errors domain h lines none.1)

no_faults : (domain : Domain) (h : Heading) (lines : List ToldLine) → faults_of domain h lines ≡ []
    → (length lines ≡ h.entries) × All (λ line. result_err (entry_said domain h line) ≡ None) (words_in lines)
unfolding faults_of mistakes_in
no_faults domain h lines is =
    let errors = mistakes_in domain h (take h.entries lines) in
    let many : List Misread = map (misread mistake.TooMany) (take 1 (drop h.entries lines)) in
    let few : List Misread = cond (nat_lt (length lines) h.entries) (record { left = 0; mistake = mistake.TooFew } ∷ []) [] in
    let front = append_nil_parts (errors ++ many) few is in
    let parts = append_nil_parts errors many front.0 in
    let below = none_behind h.entries lines parts.1 in
    let above = nothing (nat_lt (length lines) h.entries) _ front.1 in
    let count : length lines ≡ h.entries = grind (arith, nat_tests) in
    let all : take h.entries lines ≡ lines = take_all h.entries lines (omega arith) in
    (count, no_errors domain h lines (rw all at parts.0))

faults_of-none : (domain : Domain) (h : Heading) (lines : List ToldLine) → length lines ≡ h.entries
    → All (λ line. result_err (entry_said domain h line) ≡ None) (words_in lines)
    → faults_of domain h lines ≡ []
unfolding faults_of mistakes_in
faults_of-none domain h lines count each =
    let all : take h.entries lines ≡ lines = take_all h.entries lines (omega arith) in
    let above : nat_lt (length lines) h.entries ≡ false = grind (arith, nat_tests) in
    rw (all, above, behind_none h.entries lines count, no_errors_in domain h lines each) refl

-- ---- lines that say something

told_lines-words : (lines : List Line) → words_in (told_lines lines) ≡ filter is_told lines
unfolding told_lines words_in
told_lines-words [] = refl
told_lines-words (line ∷ lines) = elim (cases_Bool (is_told line)) [
  | inl told ↦ rw (told, told_lines-words lines) refl
  | inr silent ↦ rw (silent, told_lines-words lines) refl
]

told_first : (told : List ToldLine) (size : Line) (entries : List Line) → words_in told ≡ size ∷ entries
    → (line : ToldLine) × (more : List ToldLine) × (told ≡ line ∷ more) × (line.words ≡ size) × (words_in more ≡ entries)
unfolding words_in
told_first [] size entries is = absurd (cc)
told_first (line ∷ more) size entries is = (line, more, refl, cc, cc)

-- ---- the relation and the function

heading_of-kind : (kind : Field × Symmetry) (size : Line) (h : Heading) → heading_of kind size ≡ Some h
    → (kind ≡ (h.field, h.symmetry)) × (is_dimension h.rows ≡ true) × (is_dimension h.cols ≡ true)
unfolding heading_of
heading_of-kind kind size h is =
    let three = cond_then (length size == 3) _ h is in
    option_and_then_some _ (where_it is_dimension (digits_of (nth_word size 0))) h three.1 (λ rows first rest.
    option_and_then_some _ (where_it is_dimension (digits_of (nth_word size 1))) h rest (λ cols second rest.
    option_and_then_some _ (where_it (λ n. nat_lt n (2 ^ 64)) (digits_of (nth_word size 2))) h rest (λ n third rest.
    let made : ◌≡◌ {A = Heading} (record { field = kind.0; symmetry = kind.1; rows = rows; cols = cols; entries = n }) h = cc in (
      ap (λ (h : Heading). (h.field, h.symmetry)) made,
      ap (λ (h : Heading). is_dimension h.rows) (sym made) ∙ (where_it-some is_dimension (digits_of (nth_word size 0)) rows first).1,
      ap (λ (h : Heading). is_dimension h.cols) (sym made) ∙ (where_it-some is_dimension (digits_of (nth_word size 1)) cols second).1,
    ))))

-- the heading fits, and each line behind it says an entry
listed : (domain : Domain) (h : Heading) (lines : List ToldLine) (m : Matrix) → matrix_listed domain h lines ≡ Ok m
    → (length (words_in lines) ≡ h.entries) × All (λ line. result_err (entry_said domain h line) ≡ None)
    (words_in lines)
    × (m ≡ record { rows = h.rows; cols = h.cols; entries = entries_said domain h (words_in lines) })
unfolding matrix_listed words_in
listed domain h lines m is =
    let made : Matrix = record { rows = h.rows; cols = h.cols; entries = entries_said domain h (words_in lines) } in
    let none = no_fault (faults_of domain h lines) made m is in
    let each = no_faults domain h lines none.0 in
    (length-map lines (λ (line : ToldLine). line.words) ∙ each.0, each.1, none.1)

-- what stands behind a banner of a kind
record IsBehind (domain : Domain) (kind : Field × Symmetry) (told : List ToldLine) (m : Matrix) : Type 0 where
  size : ToldLine
  entries : List ToldLine
  heading : Heading
  said : told ≡ size ∷ entries
  sized : heading_of kind size.words ≡ Some heading
  fits : has_fitting_shape heading ≡ true
  listing : matrix_listed domain heading entries ≡ Ok m

behind_size : (domain : Domain) (kind : Field × Symmetry) (size : ToldLine) (lines : List ToldLine) (m : Matrix)
    (found : Option Heading) → heading_of kind size.words ≡ found
    → option_map_or (λ h. cond (has_fitting_shape h) (matrix_listed domain h lines) (Err (misread mistake.NotSquare size))) found (Err (misread mistake.SizeLine size)) ≡ Ok m
    → IsBehind domain kind (size ∷ lines) m
behind_size domain kind size lines m None sized is = absurd (cc)
behind_size domain kind size lines m (Some h) sized is = elim (cases_Bool (has_fitting_shape h)) [
  | inl fits ↦ record { size = size; entries = lines; heading = h; said = refl; sized = sized; fits = fits; listing = rw fits at is }
  | inr other ↦ let bad : ◌≡◌ {A = Result Matrix Misread} (Err (misread mistake.NotSquare size)) (Ok m) = rw other at is in absurd (cc)
]

behind : (domain : Domain) (kind : Field × Symmetry) (told : List ToldLine) (m : Matrix)
    → matrix_behind domain kind told ≡ Ok m → IsBehind domain kind told m
unfolding matrix_behind
behind domain kind [] m is = absurd (cc)
behind domain kind (size ∷ lines) m is = behind_size domain kind size lines m (heading_of kind size.words) refl is

stands-kind : (domain : Domain) (text : List ℕ) (m : Matrix) (banner : Line) (lines : List Line)
    (found : Option (Field × Symmetry)) (unsupported : Misread)
    → map words_of (lines_of text) ≡ banner ∷ lines → is_banner banner ≡ true → kind_of domain banner ≡ found
    → option_map_or (λ kind. matrix_behind domain kind (told_lines lines)) found (Err unsupported) ≡ Ok m
    → StandsFor domain text m
unfolding words_in
stands-kind domain text m banner lines None unsupported cut announced known is = absurd (cc)
stands-kind domain text m banner lines (Some kind) unsupported cut announced known is =
    let b = behind domain kind (told_lines lines) m is in
    let kinds = (heading_of-kind kind b.size.words b.heading b.sized).0 in
    let each = listed domain b.heading b.entries m b.listing in
    record {
      banner = banner;
      size = b.size.words;
      lines = lines;
      entries = words_in b.entries;
      heading = b.heading;
      cut = cut;
      announced = announced;
      kind = known ∙ ap Some kinds;
      said = sym (told_lines-words lines) ∙ ap words_in b.said;
      sized = subst (λ k. heading_of k b.size.words ≡ Some b.heading) kinds b.sized;
      fits = b.fits;
      number = each.0;
      each = each.1;
      stands = each.2;
    }

stands-lines : (domain : Domain) (text : List ℕ) (m : Matrix) (all : List Line) → map words_of (lines_of text) ≡ all
    → matrix_in_lines domain all ≡ Ok m → StandsFor domain text m
unfolding matrix_in_lines
stands-lines domain text m [] cut is = absurd (cc)
stands-lines domain text m (banner ∷ lines) cut is = elim (cases_Bool (is_banner banner)) [
  | inl announced ↦ stands-kind domain text m banner lines (kind_of domain banner) _ cut announced refl (rw announced at is)
  | inr other ↦
      let bad : ◌≡◌ {A = Result Matrix Misread} (Err (record { left = suc (length lines); mistake = mistake.Banner })) (Ok m) = rw other at is in absurd (cc)
]

-- a matrix that is found by numbered mistakes is found
numbered-ok : (n : ℕ) (r : Result Matrix Misread) (m : Matrix) → result_map_both (λ m. m) (fault_at n) r ≡ Ok m
    → r ≡ Ok m
numbered-ok n (Ok found) m is = cc
numbered-ok n (Err wrong) m is = absurd (cc)

-- a text of which a matrix is read stands for it
pub matrix_in-stands : (domain : Domain) (text : List ℕ) (m : Matrix) → matrix_in domain text ≡ Ok m
    → StandsFor domain text m
unfolding matrix_in
matrix_in-stands domain text m is =
    stands-lines domain text m (map words_of (lines_of text)) refl (numbered-ok (length (lines_of text)) (matrix_in_lines domain (map words_of (lines_of text))) m is)

-- ..and of a text that stands for a matrix it is read
pub stands_for-matrix_in : (domain : Domain) (text : List ℕ) (m : Matrix) → StandsFor domain text m
    → matrix_in domain text ≡ Ok m
unfolding matrix_in matrix_in_lines matrix_behind matrix_listed words_in
stands_for-matrix_in domain text m s =
    let first = told_first (told_lines s.lines) s.size s.entries (told_lines-words s.lines ∙ s.said) in
    let line = first.0 in
    let more = first.1 in
    let sized : heading_of (s.heading.field, s.heading.symmetry) line.words ≡ Some s.heading = rw first.3 s.sized in
    let count : length more ≡ s.heading.entries = sym (length-map more (λ (line : ToldLine). line.words)) ∙ ap (λ (lines : List Line). length lines) first.4 ∙ s.number in
    let each : All (λ line. result_err (entry_said domain s.heading line) ≡ None) (words_in more) = rw first.4 s.each in
    let none = faults_of-none domain s.heading more count each in
    rw (s.cut, s.announced, s.kind, first.2, sized, s.fits, none, first.4) (ap Ok (sym s.stands))

-- ---- dimensions

pub stands_for-dimensions : (domain : Domain) (text : List ℕ) (m : Matrix) → StandsFor domain text m
    → (is_dimension m.rows ≡ true) × (is_dimension m.cols ≡ true)
stands_for-dimensions domain text m s =
    let sized = heading_of-kind (s.heading.field, s.heading.symmetry) s.size s.heading s.sized in
    (ap (λ (m : Matrix). is_dimension m.rows) s.stands ∙ sized.1, ap (λ (m : Matrix). is_dimension m.cols) s.stands ∙ sized.2)

pub matrix_in-dimensions : (domain : Domain) (text : List ℕ) (m : Matrix) → matrix_in domain text ≡ Ok m
    → (is_dimension m.rows ≡ true) × (is_dimension m.cols ≡ true)
matrix_in-dimensions domain text m is = stands_for-dimensions domain text m (matrix_in-stands domain text m is)

-- ---- entries

-- an entry inside so many rows and columns, with a word of a domain
pub record IsListed (domain : Domain) (rows cols : ℕ) (e : Entry) : Type 0 where
  pub row : e.row < rows
  pub col : e.col < cols
  pub word : IsWordOf domain e.word

position-bounds : (i j m n : ℕ) (b : Bool) → (nat_le 1 i && nat_le i m && nat_le 1 j && nat_le j n && b) ≡ true
    → (i - 1 < m) × (j - 1 < n)
position-bounds i j m n b is =
    let row : i - 1 < m = grind (arith, nat_tests) in
    let col : j - 1 < n = grind (arith, nat_tests) in
    (row, col)

said-value : (domain : Domain) (h : Heading) (i j : ℕ) (value : Option ℤ) (e : Entry) → is_position h i j ≡ true
    → option_map_or (λ z. Ok (entry_at (i - 1) (j - 1) (word_of domain z))) value (Err mistake.Value) ≡ Ok e
    → IsListed domain h.rows h.cols e
said-value domain h i j None e inside is = absurd (cc)
said-value domain h i j (Some z) e inside is =
    let same : e ≡ entry_at (i - 1) (j - 1) (word_of domain z) = cc in
    let bounds = position-bounds i j h.rows h.cols _ inside in
    subst (IsListed domain h.rows h.cols) (sym same) (record { row = bounds.0; col = bounds.1; word = IsWordOf-word_of domain z })

-- the entry that a line says
pub entry_said-listed : (domain : Domain) (h : Heading) (line : Line) (e : Entry) → entry_said domain h line ≡ Ok e
    → IsListed domain h.rows h.cols e
unfolding entry_said
entry_said-listed domain h line e is =
    let i = nth_word line 0 in
    let j = nth_word line 1 in
    let formed = (length line == words_for h.field) && are_digits i && are_digits j in
    elim (cases_Bool formed) [
      | inr ill ↦ let bad : Err mistake.Entry ≡ Ok e = rw ill at is in absurd (cc)
      | inl well ↦ elim (cases_Bool (is_position h (digits_value i) (digits_value j))) [
        | inr outside ↦ let bad : Err mistake.Index ≡ Ok e = rw (well, outside) at is in absurd (cc)
        | inl inside ↦ said-value domain h (digits_value i) (digits_value j) (value_said h.field line) e inside (rw (well, inside) at is)
      ]
    ]

-- its mirror, where there is one
mirror : (domain : Domain) (field : Field) (s : Symmetry) (rows cols : ℕ) (e : Entry)
    → (is_general s || (rows == cols)) ≡ true → can_hold domain field s ≡ true
    → IsListed domain rows cols e → All (IsListed domain rows cols) (with_mirror s e)
mirror domain f symmetry.General rows cols e fits holds said = All-cons (IsListed domain rows cols) e [] said (All-nil (IsListed domain rows cols))
mirror domain f symmetry.Symmetric rows cols e fits holds said =
    let square : rows ≡ cols = grind (arith, nat_tests) in
    let low : e.row < cols = omega (arith, said.row) in
    let left : e.col < rows = omega (arith, said.col) in
    let transposed : IsListed domain rows cols (entry_at e.col e.row e.word) = record { row = left; col = low; word = said.word } in
    let others : (b : Bool) → All (IsListed domain rows cols) (if b then [] else entry_at e.col e.row e.word ∷ []) = λ b. elim b as (λ (b : Bool). All (IsListed domain rows cols) (if b then [] else entry_at e.col e.row e.word ∷ [])) [
      | true ↦ All-nil (IsListed domain rows cols)
      | false ↦ All-cons (IsListed domain rows cols) (entry_at e.col e.row e.word) [] transposed (All-nil (IsListed domain rows cols))
    ] in
    All-cons (IsListed domain rows cols) e _ said (others (e.row == e.col))
mirror Int64 f symmetry.SkewSymmetric rows cols e fits holds said =
    let square : rows ≡ cols = grind (arith, nat_tests) in
    let low : e.row < cols = omega (arith, said.row) in
    let left : e.col < rows = omega (arith, said.col) in
    let other = entry_at e.col e.row (word_of Int64 (neg_ℤ (value_of Int64 e.word))) in
    let transposed : IsListed Int64 rows cols other = record { row = left; col = low; word = IsWordOf-word_of Int64 (neg_ℤ (value_of Int64 e.word)) } in
    All-cons (IsListed Int64 rows cols) e (other ∷ []) said (All-cons (IsListed Int64 rows cols) other [] transposed (All-nil (IsListed Int64 rows cols)))
mirror _ f symmetry.SkewSymmetric rows cols e fits holds said = absurd (cc)

-- what holds of each line's entries holds of all
entries_said-all : (P : Entry → Type 0) (domain : Domain) (h : Heading) (lines : List Line)
    → ((line : Line) (e : Entry) → entry_said domain h line ≡ Ok e → All P (with_mirror h.symmetry e))
    → All P (entries_said domain h lines)
entries_said-all P domain h [] each = All-nil P
entries_said-all P domain h (line ∷ lines) each =
    let rest = entries_said-all P domain h lines each in
    let others = filter_map (λ (line : Line). result_ok (entry_said domain h line)) lines in
    let first : (found : Result Entry Mistake) → entry_said domain h line ≡ found → All P (flat_map (with_mirror h.symmetry) (cons_option (result_ok found) others)) =
    λ found. elim found as (λ found. entry_said domain h line ≡ found → All P (flat_map (with_mirror h.symmetry) (cons_option (result_ok found) others))) [
      | Ok e ↦ λ is. All-append P (with_mirror h.symmetry e) (flat_map (with_mirror h.symmetry) others) (each line e is) rest
      | Err f ↦ λ is. rest
    ] in
    first (entry_said domain h line) refl

kind_of-holds : (domain : Domain) (banner : Line) (f : Field) (s : Symmetry) → kind_of domain banner ≡ Some (f, s)
    → can_hold domain f s ≡ true
unfolding kind_of
kind_of-holds domain banner f s is = elim (cases_Bool (says (codes "coordinate") (nth_word banner 2))) [
  | inr other ↦ let bad : ◌≡◌ {A = Option (Field × Symmetry)} None (Some (f, s)) = rw other at is in absurd (cc)
  | inl coordinate ↦
      option_and_then_some _ (field_of (nth_word banner 3)) (f, s) (rw coordinate at is) (λ g first rest.
      option_and_then_some _ (symmetry_of (nth_word banner 4)) (f, s) rest (λ t second rest.
      let held = cond_then (can_hold domain g t) (Some (g, t)) (f, s) rest in
      let same = some_pair_parts g f t s held.1 in
      subst (λ (t : Symmetry). can_hold domain f t ≡ true) same.1 (subst (λ (g : Field). can_hold domain g t ≡ true) same.0 held.0)))
]

-- all entries of a text
pub stands_for-entries : (domain : Domain) (text : List ℕ) (m : Matrix) → StandsFor domain text m
    → All (IsListed domain m.rows m.cols) m.entries
stands_for-entries domain text m s =
    let h = s.heading in
    let holds = kind_of-holds domain s.banner h.field h.symmetry s.kind in
    let all = entries_said-all (IsListed domain h.rows h.cols) domain h s.entries (λ line e is. mirror domain h.field h.symmetry h.rows h.cols e s.fits holds (entry_said-listed domain h line e is)) in
    subst (λ (m : Matrix). All (IsListed domain m.rows m.cols) m.entries) (sym s.stands) all

pub matrix_in-inside : (domain : Domain) (text : List ℕ) (m : Matrix) → matrix_in domain text ≡ Ok m
    → IsInside m.rows m.cols m.entries
matrix_in-inside domain text m is =
    All-weaker (IsListed domain m.rows m.cols) (λ (e : Entry). (e.row < m.rows) × (e.col < m.cols)) (λ e listed. (listed.row, listed.col)) m.entries
    (stands_for-entries domain text m (matrix_in-stands domain text m is))

pub matrix_in-words : (domain : Domain) (text : List ℕ) (m : Matrix) → matrix_in domain text ≡ Ok m
    → All (λ e. IsWordOf domain e.word) m.entries
matrix_in-words domain text m is =
    All-weaker (IsListed domain m.rows m.cols) (λ (e : Entry). IsWordOf domain e.word) (λ e listed. listed.word) m.entries
    (stands_for-entries domain text m (matrix_in-stands domain text m is))

-- ---- the object

-- an entry as a tuple
tuple_at : Domain → Entry → Tuple
tuple_at domain e = record { place = place.Two e.row e.col; value = value_of domain e.word }

as_tuples : (domain : Domain) (rows cols : ℕ) (entries : List Entry) → IsInside rows cols entries
    → All (λ e. IsWordOf domain e.word) entries
    → (map (entry_of domain) (map (tuple_at domain) entries) ≡ entries) × (are_inside (Two rows cols) (map (tuple_at domain) entries) ≡ true)
unfolding tuple_at
as_tuples domain rows cols [] inside words = (refl, refl)
as_tuples domain rows cols (e ∷ entries) inside words =
    let here = All-head (λ (e : Entry). (e.row < rows) × (e.col < cols)) e entries inside in
    let rest = as_tuples domain rows cols entries (All-tail (λ (e : Entry). (e.row < rows) × (e.col < cols)) e entries inside) (All-tail (λ (e : Entry). IsWordOf domain e.word) e entries words) in
    let word = cast_own domain e.word (All-head (λ (e : Entry). IsWordOf domain e.word) e entries words) in
    let row : nat_lt e.row rows ≡ true = lt-ltb _ _ here.0 in
    let col : nat_lt e.col cols ≡ true = lt-ltb _ _ here.1 in
    (rw (word, rest.0) refl, rw (row, col) rest.1)

sums-in : (domain : Domain) → is_built_in domain ≡ true → accumulates domain (sum_in_file domain) ≡ true
sums-in Boolean is = refl
sums-in Int64 is = refl
sums-in Uint64 is = refl
sums-in (User k) is = absurd (cc)

-- entries inside dimensions, with words of the domain, make an object
pub object_read-is_object : (domain : Domain) (m : Matrix) → is_built_in domain ≡ true
    → IsInside m.rows m.cols m.entries → All (λ e. IsWordOf domain e.word) m.entries → IsObject (object_read domain m)
object_read-is_object domain m is inside words =
    let tuples = map (tuple_at domain) m.entries in
    let made = as_tuples domain m.rows m.cols m.entries inside words in
    subst (λ (entries : List Entry). IsObject (object_read domain (record m { entries = entries }))) made.0
    (built-is_object (object_read domain m) (Some (sum_in_file domain)) tuples (sums-in domain is) made.1)
