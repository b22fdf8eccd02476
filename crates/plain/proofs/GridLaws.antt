-- Walks over the positions of a shape, row by row, and lists of entries.
use Rattle.std.proofs.Common.{inl, inr, ◌≡◌, ℕ, zero, suc, ◌+◌, ◌==◌, ◌&&◌, Bool, true, false, cond, List, [], ◌∷◌, ◌++◌, Option, Some, None, refl, sym, ◌∙◌, ap, arith, append_assoc, add-one, add-zero}
use Rattle.std.specs.Prelude.{nat_lt}
use Rattle.std.specs.List.{cons_option, filter_map, flat_map}
use Rattle.std.specs.Option.{option_map, option_to_list}
use Rattle.std.proofs.lemmas.Bool.{cases_Bool}
use Rattle.std.proofs.lemmas.List.Elements.{filter_map-append}
use Rattle.std.proofs.lemmas.Grind.{flat_map-append}
use Rattle.std.proofs.lemmas.List.{append-nil}
use Rattle.model.specs.declared.entry.Entry.{Entry}
use Rattle.model.specs.Entries.{below, count_from, entries_of, entry_at, row_entries}
use Rattle.model.specs.Object.{Content}
use Rattle.model.specs.Regions.{cut_to}
use Rattle.model.specs.Builds.{words_at}
use Rattle.model.proofs.EntryLaws.{words_at-entries_of}
use Rattle.plain.specs.Evaluated.{listed_word}

-- one number more
count_from-more : (first n : ℕ) → count_from first (suc n) ≡ count_from first n ++ (first + n) ∷ []
unfolding count_from
count_from-more first zero = rw add-zero refl
count_from-more first (suc n) = let e : first + suc n ≡ (first + 1) + n = omega arith in rw e (ap (λ ns. first ∷ ns) (count_from-more (first + 1) n))

pub below-more : (n : ℕ) → below (n + 1) ≡ below n ++ n ∷ []
below-more n = let e : 0 + n ≡ n = omega arith in rw add-one (rw e at (count_from-more 0 n))

-- what a walk gives of one number more
pub filter_map-below-more : {Y : Type 0} (h : ℕ → Option Y) (n : ℕ)
    → filter_map h (below (n + 1)) ≡ filter_map h (below n) ++ filter_map h (n ∷ [])
filter_map-below-more h n = ap (filter_map h) (below-more n) ∙ filter_map-append h (below n) (n ∷ [])

-- ---- walks

pub walk-start : {Y : Type 0} (h : ℕ → Option Y) (old : List Y) → old ≡ old ++ filter_map h (below 0)
unfolding count_from
walk-start h old = sym (append-nil old)

pub rows-start : (cols : ℕ) (c : Content) → [] ≡ entries_of 0 cols c
unfolding entries_of count_from
rows-start cols c = refl

-- the entries of one row more
pub rows-more : (cols n : ℕ) (c : Content) (out new : List Entry) → out ≡ entries_of n cols c
    → new ≡ out ++ row_entries cols c n → new ≡ entries_of (n + 1) cols c
unfolding entries_of
rows-more cols n c out new so_far more =
    let row = row_entries cols c in
    more ∙ rw (so_far, below-more n) (sym (flat_map-append row (below n) (n ∷ []) ∙ ap (λ es. flat_map row (below n) ++ es) (append-nil (row n))))

-- the entries of one column more of a row
pub row-more : (c : Content) (i n : ℕ) (old out new : List Entry)
    → out ≡ old ++ row_entries n c i → new ≡ out ++ cons_option (option_map (entry_at i n) (c i n)) []
    → new ≡ old ++ row_entries (n + 1) c i
row-more c i n old out new so_far more =
    let h = λ (j : ℕ). option_map (entry_at i j) (c i j) in
    more ∙ rw (so_far, filter_map-below-more h n) (append_assoc old (filter_map h (below n)) (cons_option (h n) []))

-- ---- what a walk lists, looked up again

-- the first of the words that are listed for a position
abbrev first : List ℕ → Option ℕ
first [] = None
first (w ∷ ws) = Some w

first_word : (es : List Entry) (i j : ℕ) → listed_word es i j ≡ first (words_at es i j)
first_word [] i j = refl
first_word (e ∷ es) i j = elim (cases_Bool ((i == e.row) && (j == e.col))) [ inl here ↦ rw here refl | inr apart ↦ rw apart (first_word es i j) ]

first_within : (test : Bool) (o : Option ℕ) → first (cond test (option_to_list o) []) ≡ cond test o None
first_within true None = refl
first_within true (Some w) = refl
first_within false o = refl

listed : (rows cols : ℕ) (c : Content) (i j : ℕ) → listed_word (entries_of rows cols c) i j ≡ cut_to rows cols c i j
listed rows cols c i j =
    first_word (entries_of rows cols c) i j ∙ ap first (words_at-entries_of rows cols c i j) ∙ first_within (nat_lt i rows && nat_lt j cols) (c i j)

chosen_twice : (test : Bool) (v : Option ℕ) → cond test (cond test v None) None ≡ cond test v None
chosen_twice true v = refl
chosen_twice false v = refl

-- the entries of a map stand for what it has inside the shape
pub listed-cut : (rows cols : ℕ) (c : Content) (i j : ℕ)
    → cut_to rows cols (listed_word (entries_of rows cols c)) i j ≡ cut_to rows cols c i j
listed-cut rows cols c i j = rw (listed rows cols c i j) (chosen_twice (nat_lt i rows && nat_lt j cols) (c i j))
