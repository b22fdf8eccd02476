-- The lines of a text that say something, one by one; and what they list one by one against what they list all in all.
use Rattle.std.proofs.Common.{◌≡◌, ℕ, zero, suc, ◌+◌, ◌-◌, ◌<◌, ◌≤◌, ◌==◌, true, false, cond, List, [], ◌∷◌, ◌++◌, drop, length, take, Option, None, Result, Ok, Err, refl, ap, sym, subst, ◌∙◌, map, arith, nat_lt, append_assoc}
use Rattle.std.proofs.lemmas.Bool.Decides.{nat_tests}
use Rattle.std.proofs.lemmas.List.{append-nil, length-append, length-map, map-append}
use Rattle.std.proofs.lemmas.List.Concat.{flat_map-append}
use Rattle.std.proofs.lemmas.List.Elements.{All-append, All-cons, All-nil, All-tail, filter_map-append}
use Rattle.std.specs.List.{All, cons_option, filter_map, flat_map, slice_get}
use Rattle.std.specs.Option.{option_map, option_map_or}
use Rattle.std.specs.Result.{result_err, result_ok}
use Rattle.algebra.specs.declared.domain.Domain.{Domain}
use Rattle.model.specs.declared.entry.Entry.{Entry}
use Rattle.model.specs.declared.market.Heading.{Heading}
use Rattle.model.specs.declared.market.Misread.{Misread}
use Rattle.model.specs.declared.market.Mistake.{Mistake}
use Rattle.model.specs.declared.market.Mistake.TheVariants as mistake
use Rattle.model.specs.Grammar.{lines_of, words_of}
use Rattle.model.specs.MatrixMarket.{Line, Matrix, ToldLine, entries_said, entry_said, faults_of, is_told, matrix_listed, misread, told_lines, with_mirror}
use Rattle.mmio.specs.Listing.{Lists, SaysEntry, entries_listed, listed_from, matrix_of, placed, told_in, with_entry}

-- ---- lines that say something

pub no_text : (text : List ℕ) → length text ≡ 0 → text ≡ []
no_text [] none = refl
no_text (b ∷ bs) none = absurd (omega arith)

-- an empty text has no lines
pub told_in-none : (text : List ℕ) → length text ≡ 0 → told_in text ≡ []
unfolding told_in told_lines lines_of
told_in-none text none = rw (no_text text none) refl

pub lines_of-none : (text : List ℕ) → length text ≡ 0 → length (lines_of text) ≡ 0
unfolding lines_of
lines_of-none text none = rw (no_text text none) refl

-- a line that says something is the first one; it may be shown without the blanks in front of it
pub told_in-told : (text line rest shown : List ℕ) → lines_of text ≡ line ∷ lines_of rest → words_of shown ≡ words_of line → is_told (words_of shown) ≡ true → told_in text ≡ record { left = suc (length (lines_of rest)); words = words_of shown } ∷ told_in rest
unfolding told_in told_lines
told_in-told text line rest shown cut same told =
    let passes : is_told (words_of line) ≡ true = ap is_told (sym same) ∙ told in
    rw (cut, passes, same, length-map (lines_of rest) words_of) refl

pub told_in-silent : (text line rest shown : List ℕ) → lines_of text ≡ line ∷ lines_of rest
    → words_of shown ≡ words_of line → is_told (words_of shown) ≡ false → told_in text ≡ told_in rest
unfolding told_in told_lines
told_in-silent text line rest shown cut same silent =
    let fails : is_told (words_of line) ≡ false = ap is_told (sym same) ∙ silent in
    rw (cut, fails) refl

-- ---- one line more

pub listed_from-end : (domain : Domain) (h : Heading) (left : ℕ) (listed : List Entry) (lines : List ToldLine) → lines ≡ [] → listed_from domain h left listed lines ≡ cond (left == 0) (Ok listed) (Err (record { left = 0; mistake = mistake.TooFew }))
unfolding listed_from
listed_from-end domain h left listed lines none = rw none refl

pub listed_from-line : (domain : Domain) (h : Heading) (left : ℕ) (listed : List Entry) (lines more : List ToldLine)
    (line : ToldLine) → lines ≡ line ∷ more
    → listed_from domain h left listed lines ≡ cond (left == 0) (Err (misread mistake.TooMany line))
    (with_entry (placed line (entry_said domain h line.words)) (λ e. listed_from domain h (left - 1) (listed ++ with_mirror h.symmetry e) more))
unfolding listed_from
listed_from-line domain h left listed lines more line is = rw is refl

-- what is wrong with the end, with a line too many, and with a line
pub listed_from-few : (domain : Domain) (h : Heading) (left : ℕ) (listed : List Entry) (lines : List ToldLine)
    → lines ≡ [] → (left == 0) ≡ false
    → listed_from domain h left listed lines ≡ Err (record { left = 0; mistake = mistake.TooFew })
listed_from-few domain h left listed lines none some = rw (listed_from-end domain h left listed lines none, some) refl

pub listed_from-many : (domain : Domain) (h : Heading) (left : ℕ) (listed : List Entry) (lines more : List ToldLine)
    (line : ToldLine) → lines ≡ line ∷ more → (left == 0) ≡ true
    → listed_from domain h left listed lines ≡ Err (misread mistake.TooMany line)
listed_from-many domain h left listed lines more line is none = rw (listed_from-line domain h left listed lines more line is, none) refl

pub listed_from-wrong : (domain : Domain) (h : Heading) (left : ℕ) (listed : List Entry) (lines more : List ToldLine)
    (line : ToldLine) (m : Mistake) → lines ≡ line ∷ more → (left == 0) ≡ false
    → Err m ≡ entry_said domain h line.words → listed_from domain h left listed lines ≡ Err (misread m line)
listed_from-wrong domain h left listed lines more line m is some wrong = rw (listed_from-line domain h left listed lines more line is, some, ← wrong) refl

-- ---- all lines

abbrev words_in : List ToldLine → List Line
words_in lines = map (λ line. line.words) lines

abbrev mistake_in : Domain → Heading → ToldLine → Option Misread
mistake_in domain h line = option_map (λ wrong. misread wrong line) (result_err (entry_said domain h line.words))

abbrev few : ℕ → List ToldLine → List Misread
few n lines = cond (nat_lt (length lines) n) (record { left = 0; mistake = mistake.TooFew } ∷ []) []

-- what is wrong with so many lines and their number
abbrev faults_from : Domain → Heading → ℕ → List ToldLine → List Misread
faults_from domain h n lines =
    filter_map (mistake_in domain h) (take n lines) ++ map (misread mistake.TooMany) (take 1 (drop n lines)) ++ few n lines

abbrev as_matrix : Domain → Heading → ℕ → List Entry → List ToldLine → Result Matrix Misread
as_matrix domain h n listed lines = option_map_or Err
    (slice_get (faults_from domain h n lines) 0)
    (Ok (record { rows = h.rows; cols = h.cols; entries = listed ++ entries_said domain h (words_in lines) }))

-- the first of them is that of the first line, if that has one
next_line : (h : Heading) (listed others : List Entry) (line : ToldLine) (said : Result Entry Mistake)
    (faults many few : List Misread) (go_on : Entry → Result (List Entry) Misread)
    → ((e : Entry) → option_map_or Err (slice_get (faults ++ many ++ few) 0) (Ok (record { rows = h.rows; cols = h.cols; entries = (listed ++ with_mirror h.symmetry e) ++ flat_map (with_mirror h.symmetry) others })) ≡ matrix_of h (go_on e))
    → option_map_or Err (slice_get (cons_option (option_map (λ wrong. misread wrong line) (result_err said)) faults ++ many ++ few) 0)
    (Ok (record { rows = h.rows; cols = h.cols; entries = listed ++ flat_map (with_mirror h.symmetry) (cons_option (result_ok said) others) })) ≡ matrix_of h (with_entry (placed line said) go_on)
next_line h listed others line (Err f) faults many few go_on rest = refl
next_line h listed others line (Ok e) faults many few go_on rest =
    ap (λ entries. option_map_or Err (slice_get (faults ++ many ++ few) 0) (Ok (record { rows = h.rows; cols = h.cols; entries = entries })))
    (sym (append_assoc listed (with_mirror h.symmetry e) (flat_map (with_mirror h.symmetry) others)))
    ∙ rest e

listing : (domain : Domain) (h : Heading) (n : ℕ) (listed : List Entry) (lines : List ToldLine)
    → as_matrix domain h n listed lines ≡ matrix_of h (listed_from domain h n listed lines)
unfolding listed_from
listing domain h zero listed [] = ap (λ entries. Ok (record { rows = h.rows; cols = h.cols; entries = entries })) (append-nil listed)
listing domain h (suc n) listed [] =
    let short : nat_lt 0 (suc n) ≡ true = grind (arith, nat_tests) in
    let some : (suc n == 0) ≡ false = grind (arith, nat_tests) in
    rw (short, some) refl
listing domain h zero listed (line ∷ lines) = refl
listing domain h (suc n) listed (line ∷ lines) =
    let short : nat_lt (suc (length lines)) (suc n) ≡ nat_lt (length lines) n = grind (arith, nat_tests) in
    let some : (suc n == 0) ≡ false = grind (arith, nat_tests) in
    let less : suc n - 1 ≡ n = omega arith in
    rw (short, some, less)
    (next_line h listed (filter_map (λ line. result_ok (entry_said domain h line)) (words_in lines)) line (entry_said domain h line.words)
    (filter_map (mistake_in domain h) (take n lines)) (map (misread mistake.TooMany) (take 1 (drop n lines))) (few n lines)
    (λ e. listed_from domain h n (listed ++ with_mirror h.symmetry e) lines)
    (λ e. listing domain h n (listed ++ with_mirror h.symmetry e) lines))

-- the matrix of lines is what they list one by one
pub matrix_listed-is : (domain : Domain) (h : Heading) (lines : List ToldLine)
    → matrix_listed domain h lines ≡ matrix_of h (listed_from domain h h.entries [] lines)
unfolding matrix_listed faults_of
matrix_listed-is domain h lines = listing domain h h.entries [] lines

-- ---- lines so far

pub entries_said-append : (domain : Domain) (h : Heading) (xs ys : List Line)
    → entries_said domain h (xs ++ ys) ≡ entries_said domain h xs ++ entries_said domain h ys
entries_said-append domain h xs ys =
    let said : Line → Option Entry = λ line. result_ok (entry_said domain h line) in
    ap (flat_map (with_mirror h.symmetry)) (filter_map-append said xs ys)
    ∙ flat_map-append (with_mirror h.symmetry) (filter_map said xs) (filter_map said ys)

says_some : (said : Result Entry Mistake) → result_err said ≡ None → (e : Entry) × (said ≡ Ok e)
says_some (Ok e) none = (e, refl)
says_some (Err m) none = absurd (cc)

-- lines that say entries, in front of others, are listed as these
pub listed_from-all : (domain : Domain) (h : Heading) (left : ℕ) (listed : List Entry) (done lines : List ToldLine)
    → All (SaysEntry domain h) (words_in done) → length done ≤ left
    → listed_from domain h left listed (done ++ lines)
    ≡ listed_from domain h (left - length done) (listed ++ entries_said domain h (words_in done)) lines
listed_from-all domain h left listed [] lines each most =
    let all : left - 0 ≡ left = omega arith in
    rw (all, append-nil listed) refl
listed_from-all domain h left listed (line ∷ done) lines each most =
    let said = says_some (entry_said domain h line.words) (each 0 [] (omega arith)) in
    let some : (left == 0) ≡ false = grind (arith, nat_tests, most) in
    let less : left - 1 - length done ≡ left - suc (length done) = omega arith in
    let rest = listed_from-all domain h (left - 1) (listed ++ with_mirror h.symmetry said.0) done lines (All-tail (SaysEntry domain h) line.words (words_in done) each) (omega (arith, most)) in
    let line_first = listed_from-line domain h left listed (line ∷ (done ++ lines)) (done ++ lines) line refl in
    line_first ∙ rw (some, said.1) (rest ∙ rw (less, append_assoc listed (with_mirror h.symmetry said.0) (entries_said domain h (words_in done))) refl)

-- what was listed of a text, of which the rest is left
pub record HasListed (domain : Domain) (h : Heading) (text rest : List ℕ) (entries : List Entry) (lines : ℕ) : Type 0 where
  pub done : List ToldLine
  pub told : told_in text ≡ done ++ told_in rest
  pub each : All (SaysEntry domain h) (words_in done)
  pub listed : entries ≡ entries_said domain h (words_in done)
  pub count : lines ≡ length done
  pub most : lines ≤ h.entries

-- ..goes on with the lines that are left
pub listed_so_far : (domain : Domain) (h : Heading) (text rest : List ℕ) (entries : List Entry) (lines : ℕ)
    → HasListed domain h text rest entries lines
    → entries_listed domain h text ≡ listed_from domain h (h.entries - lines) entries (told_in rest)
listed_so_far domain h text rest entries lines has =
    ap (listed_from domain h h.entries []) has.told
    ∙ listed_from-all domain h h.entries [] has.done (told_in rest) has.each (subst (λ n. n ≤ h.entries) has.count has.most)
    ∙ rw (has.count, has.listed) refl

-- one line more
pub has_listed-line : (domain : Domain) (h : Heading) (text rest behind : List ℕ) (entries : List Entry) (lines : ℕ)
    (line : ToldLine) (e : Entry) → HasListed domain h text rest entries lines
    → told_in rest ≡ line ∷ told_in behind → entry_said domain h line.words ≡ Ok e → lines + 1 ≤ h.entries
    → HasListed domain h text behind (entries ++ with_mirror h.symmetry e) (lines + 1)
has_listed-line domain h text rest behind entries lines line e has told said most =
    let line_says : All (SaysEntry domain h) (line.words ∷ []) = All-cons (SaysEntry domain h) line.words [] (rw said refl) (All-nil (SaysEntry domain h)) in
    let words = map-append (λ l. l.words) has.done (line ∷ []) in
    record {
      done = has.done ++ line ∷ [];
      told = has.told ∙ rw told (sym (append_assoc has.done (line ∷ []) (told_in behind)));
      each = subst (All (SaysEntry domain h)) (sym words) (All-append (SaysEntry domain h) (words_in has.done) (line.words ∷ []) has.each line_says);
      listed = rw (has.listed, words, entries_said-append domain h (words_in has.done) (line.words ∷ []), said, append-nil (with_mirror h.symmetry e)) refl;
      count = rw (has.count, length-append has.done (line ∷ [])) refl;
      most = most;
    }

-- a text is listed where no line is left
pub has_listed-end : (domain : Domain) (h : Heading) (text rest : List ℕ) (entries : List Entry) (lines : ℕ)
    → HasListed domain h text rest entries lines → told_in rest ≡ [] → Lists domain h text entries lines
has_listed-end domain h text rest entries lines has none =
    let all : told_in text ≡ has.done = has.told ∙ rw none (append-nil has.done) in
    record {
      each = rw all has.each;
      listed = has.listed ∙ rw all refl;
      count = has.count ∙ sym (length-map has.done (λ l. l.words)) ∙ rw all refl;
    }

-- ---- whole texts

lists-so_far : (domain : Domain) (h : Heading) (text : List ℕ) (entries : List Entry) (lines : ℕ)
    → Lists domain h text entries lines → lines ≤ h.entries
    → entries_listed domain h text ≡ listed_from domain h (h.entries - lines) entries []
lists-so_far domain h text entries lines lists most =
    let count : lines ≡ length (told_in text) = lists.count ∙ length-map (told_in text) (λ l. l.words) in
    ap (listed_from domain h h.entries []) (sym (append-nil (told_in text)))
    ∙ listed_from-all domain h h.entries [] (told_in text) [] lists.each (subst (λ n. n ≤ h.entries) count most)
    ∙ rw (count, lists.listed) refl

-- as many lines as were announced
pub lists-all : (domain : Domain) (h : Heading) (text : List ℕ) (entries : List Entry) (lines : ℕ)
    → Lists domain h text entries lines → lines ≡ h.entries → entries_listed domain h text ≡ Ok entries
lists-all domain h text entries lines lists all =
    let none : (h.entries - lines == 0) ≡ true = grind (arith, nat_tests, all) in
    lists-so_far domain h text entries lines lists (omega (arith, all))
    ∙ listed_from-end domain h (h.entries - lines) entries [] refl ∙ rw none refl

-- fewer
pub lists-few : (domain : Domain) (h : Heading) (text : List ℕ) (entries : List Entry) (lines : ℕ)
    → Lists domain h text entries lines → lines < h.entries
    → entries_listed domain h text ≡ Err (record { left = 0; mistake = mistake.TooFew })
lists-few domain h text entries lines lists few =
    let some : (h.entries - lines == 0) ≡ false = grind (arith, nat_tests, few) in
    lists-so_far domain h text entries lines lists (omega (arith, few))
    ∙ listed_from-few domain h (h.entries - lines) entries [] refl some
