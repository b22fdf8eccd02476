-- Stores whose entries lie in several parts, one behind the other.
use Rattle.std.proofs.Common.{◌≡◌, ◌≢◌, ℕ, zero, suc, ◌+◌, ◌<◌, ◌≤◌, Bool, true, false, cond, ◌&&◌, eqb, List, [], ◌∷◌, ◌++◌, length, get_or, map, set, take, Option, Some, None, Result, Ok, Err, OnErr, OnOk, ◌^◌, refl, sym, ◌∙◌, ap, subst, inl, inr, arith, append-nil, length-append}
use Rattle.std.specs.Option.{is_some, option_map, option_or}
use Rattle.std.specs.List.{All, AllPairs, HoldsAt, cons_option, filter_map, flat_map}
use Rattle.std.proofs.lemmas.Bool.{and_parts, cases_Bool, cases_eq, cases_lt, eqb-true, ne_eqb}
use Rattle.std.proofs.lemmas.List.{get_or-set_other, get_or-set_same, get_or-take, get_or_default, length-set, length-take, map-append, take_all, take_more}
use Rattle.std.proofs.lemmas.List.Concat.{flat_map-append}
use Rattle.std.proofs.lemmas.List.Elements.{All-append, All-cons, All-head, All-nil, All-push, All-set, All-tail, All-take, All-weaker}
use Rattle.model.specs.declared.entry.Entry.{Entry}
use Rattle.model.specs.declared.memory.NoMemory.{NoMemory}
use Rattle.model.specs.Entries.{InOrder, Precedes, below, entries_between, entries_of, entry_at, row_entries, word_at}
use Rattle.model.specs.Object.{Content}
use Rattle.model.specs.Reductions.{all_words}
use Rattle.model.proofs.EntryLaws.{all_words-entries}
use Rattle.store.specs.Blocks.{AreParts, AreStored, IsAbove, IsPart, entries_in_parts}
use Rattle.store.specs.declared.lists.FiberLists.{FiberLists}
use Rattle.store.specs.Fibers.{AreFlat, entries_in}
use Rattle.store.specs.Stored.{AreHeld, AreIn, IsBlock, IsStored, Stored, along, content_of}
use Rattle.store.proofs.Content.{entries_of-words}
use Rattle.store.proofs.Contents.{by_rows, no_entries as no_lists, none_held}
use Rattle.store.proofs.FormLaws.{or_none}
use Rattle.store.proofs.Order.{all_append_left, all_append_right, all_pairs_across, all_pairs_append, all_pairs_cons, all_pairs_head, all_pairs_nil, all_pairs_tail}
use Rattle.store.proofs.PartLaws.{none_there}
use Rattle.store.proofs.Positions.{word_at-found}
use Rattle.store.proofs.RowEntries.{entries_between-all}
use Rattle.store.proofs.StoreLaws.{rows_in}

abbrev pub stored_as : ℕ → ℕ → List Entry → Stored
stored_as rows cols es = record { rows = rows; cols = cols; entries = es }

-- ---- the entries of all parts

pub parts_more : (parts : List Stored) (k : ℕ) (d : Stored) → k < length parts
    → entries_in_parts (take (k + 1) parts) ≡ entries_in_parts (take k parts) ++ (get_or parts k d).entries
parts_more parts k d within =
    let f : Stored → List Entry = λ s. s.entries in
    ap (flat_map f) (take_more parts k d within) ∙ flat_map-append f (take k parts) (get_or parts k d ∷ [])
    ∙ ap (λ es. entries_in_parts (take k parts) ++ es) (append-nil (get_or parts k d).entries)

pub parts_push : (parts : List Stored) (s : Stored)
    → entries_in_parts (parts ++ s ∷ []) ≡ entries_in_parts parts ++ s.entries
parts_push parts s =
    let f : Stored → List Entry = λ s. s.entries in
    flat_map-append f parts (s ∷ []) ∙ ap (λ es. entries_in_parts parts ++ es) (append-nil s.entries)

-- an entry of a store is at its position
some_word : (es : List Entry) (k : ℕ) (d : Entry) → InOrder es → k < length es
    → word_at es (get_or es k d).row (get_or es k d).col ≢ None
some_word es k d order within none =
    let found = word_at-found (get_or es k d).row (get_or es k d).col es k d order within (refl, refl) in
    let no : Some (get_or es k d).word ≡ None = found ∙ none in
    absurd cc

above_precedes : (a b : Stored) → InOrder a.entries → InOrder b.entries → IsAbove a b
    → All (λ e. All (Precedes e) b.entries) a.entries
above_precedes a b one two above k d within m e inside =
    inl (above (get_or a.entries k d).row (get_or a.entries k d).col (get_or b.entries m e).row (get_or b.entries m e).col (some_word a.entries k d one within) (some_word b.entries m e two inside))

above_all : (rows cols : ℕ) (p : Stored) (ps : List Stored) → IsPart rows cols p → All (IsPart rows cols) ps
    → All (IsAbove p) ps → All (λ e. All (Precedes e) (entries_in_parts ps)) p.entries
above_all rows cols p [] part each above k d within = All-nil (Precedes (get_or p.entries k d))
above_all rows cols p (q ∷ qs) part each above k d within =
    let e = get_or p.entries k d in
    All-append (Precedes e) q.entries (entries_in_parts qs)
    (above_precedes p q part.stored.order (All-head (IsPart rows cols) q qs each).stored.order (All-head (IsAbove p) q qs above) k d within)
    (above_all rows cols p qs part (All-tail (IsPart rows cols) q qs each) (All-tail (IsAbove p) q qs above) k d within)

pub parts_stored : (rows cols : ℕ) (parts : List Stored) → All (IsPart rows cols) parts → AllPairs IsAbove parts
    → IsStored rows cols (entries_in_parts parts)
parts_stored rows cols [] each apart = record {
  order = all_pairs_nil Precedes;
  inside = All-nil (λ e. (e.row < rows) × (e.col < cols));
}
parts_stored rows cols (p ∷ ps) each apart =
    let part = All-head (IsPart rows cols) p ps each in
    let others = All-tail (IsPart rows cols) p ps each in
    let rest = parts_stored rows cols ps others (all_pairs_tail IsAbove p ps apart) in
    record {
      order = all_pairs_append Precedes p.entries (entries_in_parts ps) part.stored.order rest.order (above_all rows cols p ps part others (all_pairs_head IsAbove p ps apart));
      inside = All-append (λ e. (e.row < rows) × (e.col < cols)) p.entries (entries_in_parts ps) part.stored.inside rest.inside;
    }

-- the entries of a store, counted and in words
pub count_stored : (rows cols : ℕ) (es : List Entry) → IsStored rows cols es
    → length (entries_of rows cols (word_at es)) ≡ length es
count_stored rows cols es stored = ap length (entries_of-words rows cols es stored.order stored.inside)

pub count_part : (rows cols : ℕ) (s : Stored) → IsPart rows cols s
    → length (entries_of s.rows s.cols (content_of s)) ≡ length s.entries
count_part rows cols s part = rw (part.rows_are, part.cols_are) (count_stored rows cols s.entries part.stored)

-- ..and row by row
pub entries_stored : (rows cols : ℕ) (es : List Entry) → IsStored rows cols es
    → entries_between 0 rows cols (word_at es) ≡ es
entries_stored rows cols es stored =
    entries_between-all rows cols (word_at es) ∙ entries_of-words rows cols es stored.order stored.inside

each_stored : (rows cols : ℕ) (parts : List Stored) → All (IsPart rows cols) parts
    → flat_map (λ s. entries_between 0 s.rows s.cols (content_of s)) parts ≡ entries_in_parts parts
each_stored rows cols [] each = refl
each_stored rows cols (p ∷ ps) each =
    let part = All-head (IsPart rows cols) p ps each in
    let rest = each_stored rows cols ps (All-tail (IsPart rows cols) p ps each) in
    let first : entries_between 0 p.rows p.cols (content_of p) ≡ p.entries = rw (part.rows_are, part.cols_are) (entries_stored rows cols p.entries part.stored) in
    rw (first, rest) refl

pub parts_each : (rows cols : ℕ) (parts : List Stored) → AreStored rows cols parts
    → flat_map (λ s. entries_between 0 s.rows s.cols (content_of s)) parts
    ≡ entries_between 0 rows cols (word_at (entries_in_parts parts))
parts_each rows cols parts are =
    each_stored rows cols parts are.each ∙ sym (entries_stored rows cols (entries_in_parts parts) are.stored)

-- a store is its only part
pub only_entries : (s : Stored) → entries_in_parts (s ∷ []) ≡ s.entries
only_entries s = append-nil s.entries

pub only_part : (rows cols : ℕ) (s : Stored) → IsPart rows cols s → length s.entries < 2 ^ 64
    → AreStored rows cols (s ∷ [])
only_part rows cols s part fits =
    let alone = sym (only_entries s) in
    record {
      each = All-cons (IsPart rows cols) s [] part (All-nil (IsPart rows cols));
      stored = subst (IsStored rows cols) alone part.stored;
      fits = subst (λ (es : List Entry). length es < 2 ^ 64) alone fits;
    }

words_stored : (rows cols : ℕ) (es : List Entry) → IsStored rows cols es
    → all_words rows cols (word_at es) ≡ map (λ (e : Entry). e.word) es
words_stored rows cols es stored =
    all_words-entries rows cols (word_at es) ∙ ap (map (λ (e : Entry). e.word)) (entries_of-words rows cols es stored.order stored.inside)

words_each : (rows cols : ℕ) (parts : List Stored) → All (IsPart rows cols) parts
    → flat_map (λ s. all_words s.rows s.cols (content_of s)) parts ≡ map (λ (e : Entry). e.word) (entries_in_parts parts)
words_each rows cols [] each = refl
words_each rows cols (p ∷ ps) each =
    let part = All-head (IsPart rows cols) p ps each in
    let rest = words_each rows cols ps (All-tail (IsPart rows cols) p ps each) in
    let first : all_words p.rows p.cols (content_of p) ≡ map (λ (e : Entry). e.word) p.entries = rw (part.rows_are, part.cols_are) (words_stored rows cols p.entries part.stored) in
    rw (first, rest) (sym (map-append (λ (e : Entry). e.word) p.entries (entries_in_parts ps)))

pub words_of_parts : (rows cols : ℕ) (parts : List Stored) → AreParts rows cols parts
    → flat_map (λ s. all_words s.rows s.cols (content_of s)) parts ≡ all_words rows cols (word_at (entries_in_parts parts))
words_of_parts rows cols parts are =
    words_each rows cols parts are.each
    ∙ sym (words_stored rows cols (entries_in_parts parts) (parts_stored rows cols parts are.each are.apart))

-- ---- the word at a position

pub word_append : (i j : ℕ) (es fs : List Entry) → word_at (es ++ fs) i j ≡ option_or (word_at es i j) (word_at fs i j)
unfolding word_at
word_append i j [] fs = refl
word_append i j (e ∷ es) fs =
    elim (eqb i e.row && eqb j e.col) as (λ b. cond b (Some e.word) (word_at (es ++ fs) i j) ≡ option_or (cond b (Some e.word) (word_at es i j)) (word_at fs i j)) [
      | true ↦ refl
      | false ↦ word_append i j es fs
    ]

no_entries : (i j : ℕ) → word_at [] i j ≡ None
unfolding word_at
no_entries i j = refl

pub none_in_parts : (i j : ℕ) (parts : List Stored) → All (λ s. content_of s i j ≡ None) parts
    → word_at (entries_in_parts parts) i j ≡ None
none_in_parts i j [] none = no_entries i j
none_in_parts i j (p ∷ ps) none =
    let here : word_at p.entries i j ≡ None = All-head (λ s. content_of s i j ≡ None) p ps none in
    let rest = none_in_parts i j ps (All-tail (λ s. content_of s i j ≡ None) p ps none) in
    word_append i j p.entries (entries_in_parts ps) ∙ rw (here, rest) refl

none_or_some : (o : Option ℕ) → (o ≢ None → ⊥) → o ≡ None
none_or_some None not = refl
none_or_some (Some w) not = absurd (not (λ is. absurd cc))

some_first : (o p : Option ℕ) → o ≢ None → option_or o p ≡ o
some_first None p some = absurd (some refl)
some_first (Some w) p some = refl

-- the other parts have none at the position of an entry of one
pub others_none : (i j : ℕ) (parts : List Stored) (at : ℕ) → AllPairs IsAbove parts → at < length parts
    → HoldsAt (λ s. content_of s i j ≢ None) parts at
    → (k : ℕ) (d : Stored) → k < length parts → k ≢ at → content_of (get_or parts k d) i j ≡ None
others_none i j parts at apart within some k d inside other =
    none_or_some (content_of (get_or parts k d) i j) (λ here.
    elim (cases_lt k at) [
      | inl low ↦ let less : i < i = apart k at d low within i j i j here (some d) in absurd (omega arith)
      | inr high ↦ let less : i < i = apart at k d (omega (arith, other)) inside i j i j (some d) here in absurd (omega arith)
    ])

pub word_in_part : (i j : ℕ) (parts : List Stored) (at : ℕ) (d : Stored) → AllPairs IsAbove parts → at < length parts
    → HoldsAt (λ s. content_of s i j ≢ None) parts at
    → word_at (entries_in_parts parts) i j ≡ content_of (get_or parts at d) i j
word_in_part i j [] at d apart within some = absurd (omega arith)
word_in_part i j (p ∷ ps) zero d apart within some =
    word_append i j p.entries (entries_in_parts ps) ∙ some_first (word_at p.entries i j) (word_at (entries_in_parts ps) i j) (some d)
word_in_part i j (p ∷ ps) (suc at) d apart within some =
    let none : word_at p.entries i j ≡ None = others_none i j (p ∷ ps) (suc at) apart within some 0 d (omega arith) (λ is. absurd (omega arith)) in
    word_append i j p.entries (entries_in_parts ps) ∙ rw none (word_in_part i j ps at d (all_pairs_tail IsAbove p ps apart) (omega arith) some)

-- ---- a part that was changed at one position

later_words : (b : Bool) (o w rest : Option ℕ) → (b ≡ true → rest ≡ None)
    → option_or (cond b o w) rest ≡ cond b o (option_or w rest)
later_words true o w rest none = rw (none refl) (or_none o)
later_words false o w rest none = refl

earlier_words : (b : Bool) (o w rest : Option ℕ) → (b ≡ true → w ≡ None)
    → option_or w (cond b o rest) ≡ cond b o (option_or w rest)
earlier_words true o w rest none = rw (none refl) refl
earlier_words false o w rest none = refl

pub word_changed : (i j p q : ℕ) (o : Option ℕ) (parts : List Stored) (at : ℕ) (s : Stored) (d : Stored)
    → at < length parts → content_of s p q ≡ cond (eqb p i && eqb q j) o (content_of (get_or parts at d) p q)
    → ((eqb p i && eqb q j) ≡ true → (k : ℕ) (d : Stored) → k < length parts → k ≢ at → content_of (get_or parts k d) p q ≡ None)
    → word_at (entries_in_parts (set parts at s)) p q ≡ cond (eqb p i && eqb q j) o (word_at (entries_in_parts parts) p q)
word_changed i j p q o [] at s d within is others = absurd (omega arith)
word_changed i j p q o (x ∷ xs) zero s d within is others =
    word_append p q s.entries (entries_in_parts xs)
    ∙ ap (λ w. option_or w (word_at (entries_in_parts xs) p q)) is
    ∙ later_words (eqb p i && eqb q j) o (word_at x.entries p q) (word_at (entries_in_parts xs) p q) (λ here. none_in_parts p q xs (λ k d inside. others here (suc k) d (omega arith) (λ no. absurd (omega arith))))
    ∙ ap (cond (eqb p i && eqb q j) o) (sym (word_append p q x.entries (entries_in_parts xs)))
word_changed i j p q o (x ∷ xs) (suc at) s d within is others =
    let rest = word_changed i j p q o xs at s d (omega arith) is (λ here k d inside other. others here (suc k) d (omega arith) (λ no. other (omega arith))) in
    word_append p q x.entries (entries_in_parts (set xs at s))
    ∙ rw rest (earlier_words (eqb p i && eqb q j) o (word_at x.entries p q) (word_at (entries_in_parts xs) p q) (λ here. others here 0 d (omega arith) (λ no. absurd (omega arith))))
    ∙ ap (cond (eqb p i && eqb q j) o) (sym (word_append p q x.entries (entries_in_parts xs)))

-- ---- a part in the place of another

-- fewer positions have fewer entries
fewer_with : (o new : Option ℕ) (es fs : List Entry) (i j : ℕ) → (o ≡ None → new ≡ None) → length fs ≤ length es
    → length (cons_option (option_map (entry_at i j) new) fs) ≤ length (cons_option (option_map (entry_at i j) o) es)
fewer_with None None es fs i j less few = few
fewer_with None (Some w) es fs i j less few = absurd (let no = less refl in cc)
fewer_with (Some v) None es fs i j less few = omega arith
fewer_with (Some v) (Some w) es fs i j less few = omega arith

fewer_in_row : (c new : Content) (i : ℕ) → ((p q : ℕ) → c p q ≡ None → new p q ≡ None) → (js : List ℕ)
    → length (filter_map (λ j. option_map (entry_at i j) (new i j)) js) ≤ length (filter_map (λ j. option_map (entry_at i j) (c i j)) js)
fewer_in_row c new i less [] = omega arith
fewer_in_row c new i less (j ∷ js) =
    let rest = fewer_in_row c new i less js in
    fewer_with (c i j) (new i j) (filter_map (λ j. option_map (entry_at i j) (c i j)) js) (filter_map (λ j. option_map (entry_at i j) (new i j)) js) i j (less i j) rest

fewer_in_rows : (cols : ℕ) (c new : Content) → ((p q : ℕ) → c p q ≡ None → new p q ≡ None) → (is : List ℕ)
    → length (flat_map (row_entries cols new) is) ≤ length (flat_map (row_entries cols c) is)
fewer_in_rows cols c new less [] = omega arith
fewer_in_rows cols c new less (i ∷ is) =
    let here = fewer_in_row c new i less (below cols) in
    let rest = fewer_in_rows cols c new less is in
    omega (arith, length-append (row_entries cols new i) (flat_map (row_entries cols new) is), length-append (row_entries cols c i) (flat_map (row_entries cols c) is))

fewer_entries : (rows cols : ℕ) (es fs : List Entry) → IsStored rows cols es → IsStored rows cols fs
    → ((p q : ℕ) → word_at es p q ≡ None → word_at fs p q ≡ None) → length fs ≤ length es
unfolding entries_of
fewer_entries rows cols es fs old new less =
    let many = count_stored rows cols es old in
    let few = count_stored rows cols fs new in
    let both = fewer_in_rows cols (word_at es) (word_at fs) less (below rows) in
    omega arith

-- a part has no entry where the one that was there has none
changed_less : (parts : List Stored) (at : ℕ) (s : Stored) → at < length parts
    → ((d : Stored) (p q : ℕ) → content_of (get_or parts at d) p q ≡ None → content_of s p q ≡ None)
    → (k : ℕ) (d : Stored) (p q : ℕ) → content_of (get_or parts k d) p q ≡ None
    → content_of (get_or (set parts at s) k d) p q ≡ None
changed_less parts at s within less k d p q none =
    elim (cases_eq k at) [
      | inl same ↦
          rw (ap (λ n. get_or (set parts at s) n d) same ∙ get_or-set_same parts at s d within)
          (less d p q (ap (λ n. content_of (get_or parts n d) p q) (sym same) ∙ none))
      | inr other ↦ rw (get_or-set_other parts at k s d other) none
    ]

apart_changed : (parts : List Stored) (at : ℕ) (s : Stored) → AllPairs IsAbove parts
    → ((k : ℕ) (d : Stored) (p q : ℕ) → content_of (get_or parts k d) p q ≡ None → content_of (get_or (set parts at s) k d) p q ≡ None)
    → AllPairs IsAbove (set parts at s)
apart_changed parts at s apart less a b d low inside =
    let long = length-set parts at s in
    λ i j p q here there. apart a b d low (omega arith) i j p q (λ none. here (less a d i j none)) (λ none. there (less b d p q none))

parts_changed : (rows cols : ℕ) (parts : List Stored) (at : ℕ) (s : Stored) → AreParts rows cols parts
    → at < length parts → IsPart rows cols s
    → ((k : ℕ) (d : Stored) (p q : ℕ) → content_of (get_or parts k d) p q ≡ None → content_of (get_or (set parts at s) k d) p q ≡ None)
    → ((p q : ℕ) → word_at (entries_in_parts parts) p q ≡ None → word_at (entries_in_parts (set parts at s)) p q ≡ None)
    → AreParts rows cols (set parts at s)
parts_changed rows cols parts at s are within part less less_in_all =
    let each = All-set (IsPart rows cols) parts at s part are.each in
    let apart = apart_changed parts at s are.apart less in
    let old = parts_stored rows cols parts are.each are.apart in
    let new = parts_stored rows cols (set parts at s) each apart in
    let few = fewer_entries rows cols (entries_in_parts parts) (entries_in_parts (set parts at s)) old new less_in_all in
    let fits = are.fits in
    record { many = are.many; each = each; apart = apart; fits = omega arith }

-- the new parts have something else than the old ones at one position
pub record AreChanged (i j : ℕ) (o : Option ℕ) (rows cols : ℕ) (parts new : List Stored) : Type 0 where
  pub are : AreParts rows cols new
  pub words : (p q : ℕ) → word_at (entries_in_parts new) p q
      ≡ cond (eqb p i && eqb q j) o (word_at (entries_in_parts parts) p q)
  pub less : (k : ℕ) (d : Stored) (p q : ℕ) → content_of (get_or parts k d) p q ≡ None
      → content_of (get_or new k d) p q ≡ None

here_or_none : (b : Bool) (o w : Option ℕ) → (b ≡ true → w ≢ None) → w ≡ None → cond b o w ≡ None
here_or_none true o w some none = absurd (some refl none)
here_or_none false o w some none = none

pub part_changed : (i j : ℕ) (o : Option ℕ) (rows cols : ℕ) (parts : List Stored) (at : ℕ) (old s : Stored)
    → AreParts rows cols parts → at < length parts → HoldsAt (λ s. content_of s i j ≢ None) parts at
    → old ≡ get_or parts at old → s.rows ≡ old.rows → s.cols ≡ old.cols → IsStored s.rows s.cols s.entries
    → ((p q : ℕ) → content_of s p q ≡ cond (eqb p i && eqb q j) o (content_of old p q))
    → AreChanged i j o rows cols parts (set parts at s)
part_changed i j o rows cols parts at old s are within some is same_rows same_cols stored content =
    let part : IsPart rows cols old = subst (IsPart rows cols) (sym is) (are.each at old within) in
    let rows_are = same_rows ∙ part.rows_are in
    let cols_are = same_cols ∙ part.cols_are in
    let same : (d : Stored) → get_or parts at d ≡ old = λ d. get_or_default parts at d old within ∙ sym is in
    let here : (p q : ℕ) → (eqb p i && eqb q j) ≡ true → content_of old p q ≢ None =
    λ p q at_it none. let both = and_parts (eqb p i) (eqb q j) at_it in some old (rw (← eqb-true p i both.0, ← eqb-true q j both.1, ← is) none) in
    let others : (p q : ℕ) → (eqb p i && eqb q j) ≡ true → (k : ℕ) (d : Stored) → k < length parts → k ≢ at → content_of (get_or parts k d) p q ≡ None =
    λ p q at_it k d inside other. let both = and_parts (eqb p i) (eqb q j) at_it in rw (eqb-true p i both.0, eqb-true q j both.1) (others_none i j parts at are.apart within some k d inside other) in
    let words : (p q : ℕ) → word_at (entries_in_parts (set parts at s)) p q ≡ cond (eqb p i && eqb q j) o (word_at (entries_in_parts parts) p q) =
    λ p q. word_changed i j p q o parts at s old within (content p q ∙ ap (λ t. cond (eqb p i && eqb q j) o (content_of t p q)) is) (others p q) in
    let all_here : (p q : ℕ) → (eqb p i && eqb q j) ≡ true → word_at (entries_in_parts parts) p q ≢ None =
    λ p q at_it none.
    let both = and_parts (eqb p i) (eqb q j) at_it in
    let found = word_in_part i j parts at old are.apart within some in
    some old (sym found ∙ rw (eqb-true p i both.0, eqb-true q j both.1) at none) in
    let less = changed_less parts at s within (λ d p q none. content p q ∙ here_or_none (eqb p i && eqb q j) o (content_of old p q) (here p q) (ap (λ t. content_of t p q) (sym (same d)) ∙ none)) in
    record {
      are = parts_changed rows cols parts at s are within
          (record { rows_are = rows_are; cols_are = cols_are; stored = rw (← rows_are, ← cols_are) stored }) less
          (λ p q none. words p q ∙ here_or_none (eqb p i && eqb q j) o (word_at (entries_in_parts parts) p q) (all_here p q) none);
      words = words;
      less = less;
    }

-- ---- one part more

all_pairs_take : {X : Type 0} (R : X → X → Type 0) (xs : List X) (n : ℕ) → AllPairs R xs → AllPairs R (take n xs)
all_pairs_take R xs n h i j d low within =
    let below : j < n = omega (arith, simp length-take at within) in
    let inside : j < length xs = omega (arith, simp length-take at within) in
    rw (get_or-take n xs i d (omega arith), get_or-take n xs j d below) (h i j d low inside)

-- the entries of the first parts stand before those of the next
pub parts_before : (rows cols : ℕ) (parts : List Stored) (k : ℕ) (d : Stored) → AreParts rows cols parts
    → k < length parts
    → All (λ e. All (Precedes e) (get_or parts k d).entries) (entries_in_parts (take k parts))
parts_before rows cols parts k d are within =
    let up = parts_stored rows cols (take (k + 1) parts) (All-take (IsPart rows cols) (k + 1) parts are.each) (all_pairs_take IsAbove parts (k + 1) are.apart) in
    all_pairs_across Precedes (entries_in_parts (take k parts)) (get_or parts k d).entries (subst InOrder (parts_more parts k d within) up.order)

pub no_parts : (rows cols : ℕ) → cols ≢ 1 → AreParts rows cols []
no_parts rows cols many = record {
  many = many;
  each = All-nil (IsPart rows cols);
  apart = all_pairs_nil IsAbove;
  fits = omega arith;
}

pub rows_below : (es : List Entry) (i j first : ℕ) → All (λ e. e.row < first) es → word_at es i j ≢ None → i < first
rows_below es i j first low some = elim (cases_lt i first) [
  | inl less ↦ less
  | inr high ↦ absurd (some (none_there i j es (All-weaker (λ e. e.row < first) (λ e. i ≢ e.row) (λ e p is. absurd (omega arith)) es low)))
]

pub rows_from : (es : List Entry) (i j first : ℕ) → All (λ e. first ≤ e.row) es → word_at es i j ≢ None → first ≤ i
rows_from es i j first high some = elim (cases_lt i first) [
  | inl less ↦ absurd (some (none_there i j es (All-weaker (λ e. first ≤ e.row) (λ e. i ≢ e.row) (λ e p is. absurd (omega arith)) es high)))
  | inr le ↦ le
]

all_in_parts : (P : Entry → Type 0) (parts : List Stored) → All P (entries_in_parts parts)
    → All (λ s. All P s.entries) parts
all_in_parts P [] h = All-nil (λ s. All P s.entries)
all_in_parts P (p ∷ ps) h =
    All-cons (λ s. All P s.entries) p ps (all_append_left P p.entries (entries_in_parts ps) h)
    (all_in_parts P ps (all_append_right P p.entries (entries_in_parts ps) h))

pub block_stored : (rows cols first past : ℕ) (es : List Entry) → past ≤ rows → IsBlock first past cols es
    → IsStored rows cols es
block_stored rows cols first past es room block = record {
  order = block.order;
  inside = All-weaker (λ e. ((first ≤ e.row) × (e.row < past)) × (e.col < cols)) (λ e. (e.row < rows) × (e.col < cols))
      (λ e p. let below = p.0.1 in (omega arith, p.1)) es block.inside;
}

pub parts_pushed : (rows cols first past : ℕ) (parts : List Stored) (part : Stored) → AreParts rows cols parts
    → part.rows ≡ rows → part.cols ≡ cols → past ≤ rows → IsBlock first past cols part.entries
    → AreIn 0 first cols (entries_in_parts parts) → length (entries_in_parts parts) + length part.entries < 2 ^ 64
    → AreParts rows cols (parts ++ part ∷ [])
parts_pushed rows cols first past parts part are rows_are cols_are room block front fits =
    let In : Entry → Type 0 = λ e. ((0 ≤ e.row) × (e.row < first)) × (e.col < cols) in
    let Behind : Entry → Type 0 = λ e. ((first ≤ e.row) × (e.row < past)) × (e.col < cols) in
    let low : All (λ s. All (λ e. e.row < first) s.entries) parts = all_in_parts (λ e. e.row < first) parts (All-weaker In (λ e. e.row < first) (λ e p. p.0.1) (entries_in_parts parts) front) in
    let high : All (λ e. first ≤ e.row) part.entries = All-weaker Behind (λ e. first ≤ e.row) (λ e p. p.0.0) part.entries block.inside in
    let above : All (λ s. All (IsAbove s) (part ∷ [])) parts =
    All-weaker (λ s. All (λ e. e.row < first) s.entries) (λ s. All (IsAbove s) (part ∷ []))
    (λ s below. All-cons (IsAbove s) part [] (λ i j p q here there. let a = rows_below s.entries i j first below here in let b = rows_from part.entries p q first high there in omega arith) (All-nil (IsAbove s))) parts low in
    record {
      many = are.many;
      each = All-push (IsPart rows cols) parts part are.each (record { rows_are = rows_are; cols_are = cols_are; stored = block_stored rows cols first past part.entries room block });
      apart = all_pairs_append IsAbove parts (part ∷ []) are.apart (all_pairs_cons IsAbove part [] (All-nil (IsAbove part)) (all_pairs_nil IsAbove)) above;
      fits = rw (parts_push parts part) (omega (arith, length-append (entries_in_parts parts) part.entries));
    }

pub not_some : (o : Option ℕ) → is_some o ≡ false → o ≡ None
not_some None none = refl
not_some (Some w) none = absurd cc

pub is_there : (o : Option ℕ) → o ≢ None → is_some o ≡ true
is_there None some = absurd (some refl)
is_there (Some w) some = refl

-- what was not refused
pub sure : (r : Result (Unit {0}) NoMemory) (A B : Type 0) → OnErr r A → (A → ⊥) → OnOk r B → B
sure (Ok u) A B refused never made = made
sure (Err e) A B refused never made = absurd (never refused)

-- where there is no entry, none is removed
pub never_there : (i j p q : ℕ) (es : List Entry) → word_at es i j ≡ None
    → word_at es p q ≡ cond (eqb p i && eqb q j) None (word_at es p q)
never_there i j p q es none =
    elim (cases_Bool (eqb p i && eqb q j)) [
      | inl here ↦
          let both = and_parts (eqb p i) (eqb q j) here in
          rw here (rw (eqb-true p i both.0, eqb-true q j both.1) none)
      | inr away ↦ rw away refl
    ]

-- ---- the first parts, in lists

pub record AreJoined (parts : List Stored) (k : ℕ) (lists : FiberLists) : Type 0 where
  pub flat : AreFlat lists.ends.items lists.inner.items lists.words.items
  pub entries : entries_in lists ≡ entries_in_parts (take k parts)

pub joined_start : (parts : List Stored) (lists : FiberLists) → lists.ends.items ≡ [] → lists.inner.items ≡ []
    → lists.words.items ≡ [] → AreJoined parts 0 lists
joined_start parts lists ends inner words = record {
  flat = rw (ends, inner, words) (none_held 0 0 0).flat;
  entries = no_lists 0 lists.ends.items lists.inner.items lists.words.items ends;
}

pub joined_order : (rows cols : ℕ) (parts : List Stored) (k : ℕ) (part : Stored) (lists : FiberLists)
    → AreParts rows cols parts → AreJoined parts k lists → k < length parts → part ≡ get_or parts k part
    → All (λ e. All (Precedes e) part.entries) (entries_in lists)
joined_order rows cols parts k part lists are joined within is =
    let before = parts_before rows cols parts k part are within in
    subst (λ (s : Stored). All (λ e. All (Precedes e) s.entries) (entries_in lists)) (sym is)
    (subst (All (λ e. All (Precedes e) (get_or parts k part).entries)) (sym joined.entries) before)

pub joined_more : (parts : List Stored) (k : ℕ) (part : Stored) (old new : FiberLists) → AreJoined parts k old
    → k < length parts → part ≡ get_or parts k part → AreFlat new.ends.items new.inner.items new.words.items
    → entries_in new ≡ entries_in old ++ part.entries → AreJoined parts (k + 1) new
joined_more parts k part old new joined within is flat put =
    let before = entries_in_parts (take k parts) in
    record {
      flat = flat;
      entries = put ∙ ap (λ es. es ++ part.entries) joined.entries ∙ ap (λ (s : Stored). before ++ s.entries) is
          ∙ sym (parts_more parts k part within);
    }

all_joined : (parts : List Stored) (k : ℕ) (lists : FiberLists) → AreJoined parts k lists → length parts ≤ k
    → entries_in lists ≡ entries_in_parts parts
all_joined parts k lists joined end = joined.entries ∙ ap entries_in_parts (take_all k parts end)

pub joined_held : (rows cols : ℕ) (parts : List Stored) (k : ℕ) (lists : FiberLists) → AreParts rows cols parts
    → AreJoined parts k lists → length parts ≤ k
    → AreHeld 0 rows cols lists.ends.items lists.inner.items lists.words.items
joined_held rows cols parts k lists are joined end =
    let stored = parts_stored rows cols parts are.each are.apart in
    let many = ne_eqb cols 1 are.many in
    record {
      flat = joined.flat;
      inside = subst (λ es. AreIn 0 rows cols (along cols es)) (sym (all_joined parts k lists joined end)) (rows_in rows cols (entries_in_parts parts) many stored.inside);
    }

pub joined_is : (rows cols : ℕ) (parts : List Stored) (k : ℕ) (lists : FiberLists) → AreParts rows cols parts
    → AreJoined parts k lists → length parts ≤ k
    → stored_as rows cols (along cols (entries_in lists)) ≡ stored_as rows cols (entries_in_parts parts)
joined_is rows cols parts k lists are joined end =
    let many = ne_eqb cols 1 are.many in
    ap (stored_as rows cols) (by_rows cols (entries_in lists) many ∙ all_joined parts k lists joined end)
