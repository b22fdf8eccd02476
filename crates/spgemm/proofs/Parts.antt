-- The parts of a row, of which only the columns in a range are kept.
use Rattle.std.proofs.Common.{◌≡◌, ℕ, ◌+◌, ◌-◌, ◌<◌, ◌≤◌, true, false, ◌&&◌, leb, ltb, Bool, List, [], Some, None, Result, Ok, Err, OnOk, refl, sym, ◌∙◌, ap, subst, arith}
use Rattle.std.specs.List.{All}
use Rattle.std.proofs.lemmas.Bool.Decides.{nat_tests}
use Rattle.std.proofs.lemmas.List.Elements.{All-weaker, filter_agree}
use Rattle.algebra.specs.declared.binary.BinaryOp.{BinaryOp}
use Rattle.masks.specs.declared.view.MaskTest.{MaskTest}
use Rattle.masks.specs.declared.view.SparseMask.{SparseMask}
use Rattle.masks.specs.Masks.{lets_word}
use Rattle.model.specs.declared.entry.Entry.{Entry}
use Rattle.model.specs.declared.memory.NoMemory.{NoMemory}
use Rattle.model.specs.Entries.{word_at}
use Rattle.model.specs.Object.{Content, transposed_content}
use Rattle.store.specs.declared.lists.FiberLists.{FiberLists}
use Rattle.store.specs.Stored.{Stored, content_of}
use Rattle.store.proofs.Positions.{filter_whole}
use Rattle.store.proofs.RowWords.{columns_words}
use Rattle.terms.specs.declared.term.Term.{Term}
use Rattle.spgemm.specs.Products.{HasRow, lets_by}
use Rattle.terms.specs.Terms.{kept_terms, terms_of_row}
use Rattle.spgemm.specs.Keeping.{keeps_among}
use Rattle.spgemm.specs.Vectors.{entries_of_column, in_range, keeps_down}
use Rattle.terms.proofs.Kept.{all_kept, terms_inside}
use Rattle.spgemm.proofs.KeptRows.{filter_twice}
use Rattle.spgemm.proofs.Vectors.{range_of}

pub whole_range : (first past cols : ℕ) (terms : List Term) → first ≡ 0 → cols ≤ past → All (λ t. t.col < cols) terms
    → terms ≡ kept_terms (in_range first past) terms
whole_range first past cols terms start end below =
    sym (filter_whole (λ t. in_range first past t.col) terms (All-weaker (λ t. t.col < cols) (λ t. in_range first past t.col ≡ true)
    (λ t less. let low : leb first t.col ≡ true = grind (arith, nat_tests) in let high : ltb t.col past ≡ true = grind (arith, nat_tests) in rw (low, high) refl) terms below))

and_true : (b : Bool) → b ≡ (b && true)
and_true true = refl
and_true false = refl

-- where the range has all columns, that is the whole row
pub whole_part : (r : Result (Unit {0}) NoMemory) (op mul : BinaryOp) (index first past : ℕ) (row : List Entry)
    (a : Stored) (old new : FiberLists) → first ≡ 0 → a.cols ≤ past
    → OnOk r (HasRow op index (terms_of_row mul row a) old new)
    → OnOk r (HasRow op index (kept_terms (keeps_down (lets_by None) first past) (terms_of_row mul row a)) old new)
whole_part (Err e) op mul index first past row a old new start end here = tt
whole_part (Ok u) op mul index first past row a old new start end here =
    let terms = terms_of_row mul row a in
    subst (λ ts. HasRow op index ts old new)
    (whole_range first past a.cols terms start end (terms_inside mul row a) ∙ filter_agree (λ t. in_range first past t.col) (λ t. keeps_down (lets_by None) first past t.col) (λ t. and_true (in_range first past t.col)) terms) here

-- where the range has all columns, the terms that are kept are those that are kept in it
pub kept_down : (keeps : ℕ → ℕ → Bool) (past : ℕ) (terms : List Term) → All (λ t. t.col < past) terms
    → kept_terms (λ col. keeps col 0) terms ≡ kept_terms (keeps_down keeps 0 past) terms
kept_down keeps past terms below =
    ap (kept_terms (λ col. keeps col 0)) (whole_range 0 past past terms refl (omega arith) below)
    ∙ filter_twice (λ (t : Term). keeps t.col 0) (λ (t : Term). in_range 0 past t.col) (λ (t : Term). keeps_down keeps 0 past t.col) terms
    (All-weaker (λ t. t.col < past) (λ t. (in_range 0 past t.col && keeps t.col 0) ≡ keeps_down keeps 0 past t.col) (λ t less. refl) terms below)

-- what is kept of terms of a row are terms at columns of A
pub kept_inside : (keeps : ℕ → Bool) (op : BinaryOp) (row : List Entry) (a : Stored) (left : List Term)
    → left ≡ kept_terms keeps (terms_of_row op row a) → All (λ t. t.col < a.cols) left
kept_inside keeps op row a left is =
    subst (All (λ t. t.col < a.cols)) (sym is)
    (All-weaker (λ t. (t.col < a.cols) × (keeps t.col ≡ true)) (λ t. t.col < a.cols) (λ t p. p.0) (kept_terms keeps (terms_of_row op row a)) (all_kept (λ t. t.col < a.cols) keeps (terms_of_row op row a) (terms_inside op row a)))

-- the part of a row without a mask: nothing is in the complement of what is let through
pub part_all : (r : Result (Unit {0}) NoMemory) (test : MaskTest) (op : BinaryOp) (index first past : ℕ)
    (terms : List Term) (old new : FiberLists) → test.complement ≡ true
    → OnOk r (HasRow op index (kept_terms (keeps_among test first past [] index) terms) old new)
    → OnOk r (HasRow op index (kept_terms (keeps_down (lets_by None) first past) terms) old new)
unfolding word_at
part_all (Err e) test op index first past terms old new transposed here = tt
part_all (Ok u) test op index first past terms old new transposed here =
    subst (λ ts. HasRow op index ts old new) (filter_agree (λ t. keeps_among test first past [] index t.col) (λ t. keeps_down (lets_by None) first past t.col) (λ t. rw transposed refl) terms) here

in_part : (inside test same : Bool) → (inside ≡ true → test ≡ same) → (inside && test) ≡ (inside && same)
in_part true test same h = h refl
in_part false test same h = refl

-- a column has the words of its map
pub column_word : (c : Content) (first past index i : ℕ) (entries : List Entry) → index ≡ 0 → first ≤ i → i < past
    → entries ≡ entries_of_column c first past → word_at entries index i ≡ c i 0
column_word c first past index i entries zero_is low high is =
    let end : first + (past - first) ≡ past = omega arith in
    let from : leb first i ≡ true = grind (arith, nat_tests) in
    let to : ltb i past ≡ true = grind (arith, nat_tests) in
    let found = rw end at (columns_words (transposed_content c) 0 i (past - first) first) in
    ap (λ es. word_at es index i) is ∙ ap (λ index. word_at (entries_of_column c first past) index i) zero_is ∙ found ∙ rw (from, to) refl

-- the part of a row that a mask keeps, by the entries of its column, is the one that the mask lets through
pub part_kept : (r : Result (Unit {0}) NoMemory) (mask : SparseMask) (op : BinaryOp) (index first past : ℕ)
    (entries : List Entry) (terms : List Term) (old new : FiberLists) → index ≡ 0
    → entries ≡ entries_of_column (content_of mask.store.now) first past
    → OnOk r (HasRow op index (kept_terms (keeps_among mask.test first past entries index) terms) old new)
    → OnOk r (HasRow op index (kept_terms (keeps_down (lets_by (Some mask)) first past) terms) old new)
part_kept (Err e) mask op index first past entries terms old new zero_is is here = tt
part_kept (Ok u) mask op index first past entries terms old new zero_is is here =
    let c = content_of mask.store.now in
    subst (λ ts. HasRow op index ts old new)
    (filter_agree (λ (t : Term). keeps_among mask.test first past entries index t.col) (λ (t : Term). keeps_down (lets_by (Some mask)) first past t.col)
    (λ t. in_part (in_range first past t.col) (lets_word mask.test (word_at entries index t.col)) (lets_by (Some mask) t.col 0) (λ inside.
    let range = range_of first past t.col true (ap (λ b. b && true) inside) in
    rw (column_word c first past index t.col entries zero_is range.0 range.1 is) refl)) terms) here
