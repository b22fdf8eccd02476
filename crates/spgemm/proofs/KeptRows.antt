-- A row of sums of which only those at some columns are kept.
use Rattle.std.proofs.Common.{Err, Ok, OnOk, Result, Vec, ◌≡◌, ◌++◌, ◌<◌, ◌≤◌, ℕ, ◌&&◌, Bool, true, false, cond, leb, ltb, List, [], ◌∷◌, length, get_or, map, take, drop, None, refl, sym, ◌∙◌, ap, subst, arith, inl, inr, length-take, append-nil}
use Rattle.std.specs.List.{All, AllPairs, Contains, filter}
use Rattle.std.proofs.lemmas.Bool.{cases_Bool, ltb-true}
use Rattle.std.proofs.lemmas.Bool.Decides.{nat_tests}
use Rattle.std.specs.List.Sorted.{IsPartitionPoint}
use Rattle.std.proofs.lemmas.List.{drop_all, get_or-take, take-append-drop, take_all}
use Rattle.std.proofs.lemmas.List.Elements.{All-cons, All-contains, All-contains_itself, All-head, All-map, All-nil, All-tail, All-weaker, filter-append}
use Rattle.std.proofs.Math.Seq.{drop-append_seam, take-append_seam}
use Rattle.algebra.specs.declared.binary.BinaryOp.{BinaryOp}
use Rattle.masks.specs.declared.view.MaskTest.{MaskTest}
use Rattle.masks.specs.Keeps.{kept_by}
use Rattle.masks.specs.Masks.{lets_word}
use Rattle.masks.proofs.BlockLaws.{filtered_words}
use Rattle.masks.proofs.Keeps.{along_append}
use Rattle.model.specs.declared.entry.Entry.{Entry}
use Rattle.model.specs.declared.memory.NoMemory.{NoMemory}
use Rattle.model.specs.Entries.{InOrder, Precedes, word_at}
use Rattle.store.specs.declared.lists.FiberEnd.{FiberEnd}
use Rattle.store.specs.declared.lists.FiberLists.{FiberLists}
use Rattle.store.specs.Fibers.{entries_along}
use Rattle.store.proofs.CloseLaws.{closed}
use Rattle.store.proofs.FlatLaws.{all_cols, all_rows, row_in_order}
use Rattle.store.proofs.Order.{all_drop, all_from_map, all_pairs_filter, all_take}
use Rattle.store.proofs.Positions.{filter_none, filter_whole}
use Rattle.store.proofs.Walks.{cols_rise}
use Rattle.terms.specs.declared.term.Term.{Term}
use Rattle.spgemm.specs.Keeping.{HasKept, IsPart, keeps_among}
use Rattle.spgemm.specs.Products.{HasOpenRow, HasRow, IsSumRow}
use Rattle.terms.specs.Terms.{kept_terms}
use Rattle.spgemm.specs.Vectors.{in_range}
use Rattle.spgemm.proofs.DenseLaws.{along_cols}
use Rattle.terms.proofs.Kept.{sum_kept}

-- ---- lists of which some elements are kept

-- what all that is kept has, each that is kept has
all_from_filter : {X : Type 0} (P : X → Type 0) (keeps : X → Bool) (xs : List X) → All P (filter keeps xs)
    → All (λ x. keeps x ≡ true → P x) xs
all_from_filter P keeps [] h = All-nil (λ x. keeps x ≡ true → P x)
all_from_filter P keeps (x ∷ xs) h =
    elim (cases_Bool (keeps x)) [
      | inl with_it ↦
          let all : All P (x ∷ filter keeps xs) = rw with_it at h in
          All-cons (λ x. keeps x ≡ true → P x) x xs (λ is. All-head P x (filter keeps xs) all) (all_from_filter P keeps xs (All-tail P x (filter keeps xs) all))
      | inr without ↦
          let all : All P (filter keeps xs) = rw without at h in
          All-cons (λ x. keeps x ≡ true → P x) x xs (λ is. let other : true ≡ false = sym is ∙ without in absurd cc) (all_from_filter P keeps xs all)
    ]

-- what each that is kept has, all that is kept has
all_in_filter : {X : Type 0} (P : X → Type 0) (keeps : X → Bool) (xs : List X) → All (λ x. keeps x ≡ true → P x) xs
    → All P (filter keeps xs)
all_in_filter P keeps [] h = All-nil P
all_in_filter P keeps (x ∷ xs) h =
    let rest = all_in_filter P keeps xs (All-tail (λ x. keeps x ≡ true → P x) x xs h) in
    elim (cases_Bool (keeps x)) [
      | inl with_it ↦ rw with_it (All-cons P x (filter keeps xs) (All-head (λ x. keeps x ≡ true → P x) x xs h with_it) rest)
      | inr without ↦ rw without rest
    ]

pub filter_twice : {X : Type 0} (p q r : X → Bool) (xs : List X) → All (λ x. (q x && p x) ≡ r x) xs
    → filter p (filter q xs) ≡ filter r xs
filter_twice p q r [] h = refl
filter_twice p q r (x ∷ xs) h =
    let rest = filter_twice p q r xs (All-tail (λ x. (q x && p x) ≡ r x) x xs h) in
    let here : (q x && p x) ≡ r x = All-head (λ x. (q x && p x) ≡ r x) x xs h in
    elim (cases_Bool (q x)) [
      | inl with_it ↦
          let is : p x ≡ r x = rw with_it at here in
          elim (cases_Bool (p x)) [
            | inl also ↦ let stays : r x ≡ true = sym is ∙ also in rw (with_it, also, stays) (ap (λ xs. x ∷ xs) rest)
            | inr not_it ↦ let goes : r x ≡ false = sym is ∙ not_it in rw (with_it, not_it, goes) rest
          ]
      | inr without ↦ let goes : r x ≡ false = sym (rw without at here) in rw (without, goes) rest
    ]

-- ---- a part of a row

split_along : (row n : ℕ) (cols words : List ℕ) → length words ≡ length cols
    → entries_along row cols words ≡ entries_along row (take n cols) (take n words) ++ entries_along row (drop n cols)
    (drop n words)
split_along row n cols words same =
    sym (ap (λ xs. entries_along row xs (take n words ++ drop n words)) (take-append-drop n cols) ∙ ap (entries_along row cols) (take-append-drop n words))
    ∙ along_append row (take n cols) (take n words) (drop n cols) (drop n words) (omega (arith, length-take n cols, length-take n words))

and_false : (b : Bool) → (b && false) ≡ false
and_false true = refl
and_false false = refl

-- the entries of the part are those at columns in its range
part_entries : (first past row : ℕ) (cols words : List ℕ) (low high : ℕ) → length words ≡ length cols
    → IsPart first past cols low high
    → entries_along row (drop low (take high cols))
    (drop low (take high words)) ≡ filter (λ e. in_range first past e.col) (entries_along row cols words)
part_entries first past row cols words low high same part =
    let p : Entry → Bool = λ e. in_range first past e.col in
    let front = take high cols in
    let front_words = take high words in
    let one = entries_along row (take low front) (take low front_words) in
    let two = entries_along row (drop low front) (drop low front_words) in
    let three = entries_along row (drop high cols) (drop high words) in
    let long : length front_words ≡ length front = omega (arith, length-take high cols, length-take high words) in
    let whole : entries_along row cols words ≡ (one ++ two) ++ three = split_along row high cols words same ∙ ap (λ es. es ++ three) (split_along row low front front_words long) in
    let no_first : filter p one ≡ [] =
    filter_none p one (All-weaker (λ e. (e.row ≡ row) × (e.col < first)) (λ e. p e ≡ false) (λ e at. let low : leb first e.col ≡ false = grind (arith, nat_tests, at.1) in rw low refl) one
    (all_cols (λ col. col < first) row (take low front) (take low front_words) part.before)) in
    let all_second : filter p two ≡ two =
    filter_whole p two (All-weaker (λ e. (e.row ≡ row) × ((first ≤ e.col) × (e.col < past))) (λ e. p e ≡ true) (λ e at. let low : leb first e.col ≡ true = grind (arith, nat_tests, at.1.0) in let high : ltb e.col past ≡ true = grind (arith, nat_tests, at.1.1) in rw (low, high) refl) two
    (all_cols (λ col. (first ≤ col) × (col < past)) row (drop low front) (drop low front_words) part.within)) in
    let no_third : filter p three ≡ [] =
    filter_none p three (All-weaker (λ e. (e.row ≡ row) × (past ≤ e.col)) (λ e. p e ≡ false) (λ e at. let high : ltb e.col past ≡ false = grind (arith, nat_tests, at.1) in rw high (and_false (leb first e.col))) three
    (all_cols (λ col. past ≤ col) row (drop high cols) (drop high words) part.behind)) in
    sym (ap (filter p) whole ∙ filter-append p (one ++ two) three ∙ rw (filter-append p one two, no_first, all_second, no_third) (append-nil two))

-- two searches find the part
pub part_found : (first past : ℕ) (cols : List ℕ) (low high : ℕ) → high ≤ length cols → low ≤ length (take high cols)
    → IsPartitionPoint (λ col. ltb col past ≡ true) (λ col. ltb col past ≡ false) cols high
    → IsPartitionPoint (λ col. ltb col first ≡ true) (λ col. ltb col first ≡ false) (take high cols) low
    → IsPart first past cols low high
part_found first past cols low high room few end start =
    let long = length-take high cols in
    record {
      order = omega (arith, long);
      bound = room;
      before = all_take (λ col. col < first) low (take high cols) (λ k d from less. ltb-true (get_or (take high cols) k d) first (start.0 k d from less));
      within =
          all_drop (λ col. (first ≤ col) × (col < past)) low (take high cols)
          (λ k d from less.
          let below : k < high = omega (arith, long) in
          let same : get_or (take high cols) k d ≡ get_or cols k d = get_or-take high cols k d below in
          let low_test : ltb (get_or (take high cols) k d) first ≡ false = start.1 k d from less in
          let high_test : ltb (get_or cols k d) past ≡ true = end.0 k d (omega arith) below in
          (grind (arith, nat_tests), rw same (ltb-true (get_or cols k d) past high_test)));
      behind = all_drop (λ col. past ≤ col) high cols (λ k d from less. let test : ltb (get_or cols k d) past ≡ false = end.1 k d from less in grind (arith, nat_tests));
    }

-- all of a row is the part where the range has all columns
pub part_whole : (first past width : ℕ) (cols : List ℕ) → first ≡ 0 → width ≤ past → All (λ col. col < width) cols
    → IsPart first past cols 0 (length cols)
part_whole first past width cols begins ends below =
    let all : take (length cols) cols ≡ cols = take_all (length cols) cols (omega arith) in
    record {
      order = omega arith;
      bound = omega arith;
      before = All-nil (λ col. col < first);
      within = rw all (All-weaker (λ col. col < width) (λ col. (first ≤ col) × (col < past)) (λ col less. (omega arith, omega arith)) cols below);
      behind = rw (drop_all (length cols) cols (omega arith)) (All-nil (λ col. past ≤ col));
    }

-- ---- the sums that are kept

-- the columns of terms that are kept are among those of the kept terms
columns_kept : (keeps : ℕ → Bool) (terms : List Term) (col : ℕ) → Contains (map (λ (t : Term). t.col) terms) col
    → keeps col ≡ true → Contains (map (λ (t : Term). t.col) (kept_terms keeps terms)) col
columns_kept keeps terms col among =
    let at : Term → ℕ = λ t. t.col in
    let L = map at (kept_terms keeps terms) in
    let P : ℕ → Type 0 = λ col. keeps col ≡ true → Contains L col in
    All-contains P (map at terms) col
    (All-map P at terms (all_from_filter (λ (t : Term). Contains L t.col) (λ (t : Term). keeps t.col) terms (all_from_map (Contains L) at (kept_terms keeps terms) (All-contains_itself L)))) among

-- of a row of the sums of terms, what is at columns that are kept is the row of the sums of the kept terms
pub sums_filtered : (op : BinaryOp) (index : ℕ) (keeps : ℕ → Bool) (terms : List Term)
    (cols words kept kept_words : List ℕ) → length kept_words ≡ length kept
    → entries_along index kept kept_words ≡ filter (λ e. keeps e.col) (entries_along index cols words)
    → IsSumRow op index terms cols words → IsSumRow op index (kept_terms keeps terms) kept kept_words
sums_filtered op index keeps terms cols words kept kept_words same is sums =
    let test : Entry → Bool = λ e. keeps e.col in
    let es = entries_along index cols words in
    let P : ℕ → Type 0 = λ col. Contains (map (λ (t : Term). t.col) (kept_terms keeps terms)) col in
    let all : All (λ (e : Entry). keeps e.col ≡ true → P e.col) es =
    All-weaker (λ e. (e.row ≡ index) × Contains (map (λ (t : Term). t.col) terms) e.col) (λ (e : Entry). keeps e.col ≡ true → P e.col) (λ e at. columns_kept keeps terms e.col at.1) es
    (all_cols (Contains (map (λ (t : Term). t.col) terms)) index cols words sums.columns) in
    record {
      lengths = same;
      rising = cols_rise index kept kept_words same (subst InOrder (sym is) (all_pairs_filter Precedes test es (row_in_order index cols words sums.rising)));
      columns = along_cols P index kept kept_words same (subst (All (λ (e : Entry). P e.col)) (sym is) (all_in_filter (λ (e : Entry). P e.col) test es all));
      words_are = λ col.
          ap (λ es. word_at es index col) is ∙ filtered_words (λ i j. keeps j) es index col
          ∙ ap (λ word. cond (keeps col) word None) (sums.words_are col) ∙ sym (sum_kept op keeps col terms);
    }

-- what stands behind the place where a row of sums was begun
tail_is : (op : BinaryOp) (index : ℕ) (terms : List Term) (old new : FiberLists)
    (here : HasOpenRow op index terms old new) → drop (length old.inner.items) new.inner.items ≡ here.cols
tail_is op index terms old new here = ap (drop (length old.inner.items)) here.inner ∙ drop-append_seam old.inner.items here.cols

pub open_rises : (op : BinaryOp) (index : ℕ) (terms : List Term) (old new : FiberLists)
    → HasOpenRow op index terms old new → AllPairs (λ p q. p < q) (drop (length old.inner.items) new.inner.items)
open_rises op index terms old new here = subst (AllPairs (λ p q. p < q)) (sym (tail_is op index terms old new here)) here.sums.rising

pub open_inside : (op : BinaryOp) (index width : ℕ) (terms : List Term) (old new : FiberLists)
    → All (λ t. t.col < width) terms → HasOpenRow op index terms old new
    → All (λ col. col < width) (drop (length old.inner.items) new.inner.items)
open_inside op index width terms old new below here =
    let at : Term → ℕ = λ t. t.col in
    let P : ℕ → Type 0 = λ col. col < width in
    subst (All P) (sym (tail_is op index terms old new here))
    (All-weaker (λ col. Contains (map at terms) col) P (λ col p. All-contains P (map at terms) col (All-map P at terms below) p) here.cols here.sums.columns)

tail_words_is : (op : BinaryOp) (index : ℕ) (terms : List Term) (old new : FiberLists)
    → length old.words.items ≡ length old.inner.items → (here : HasOpenRow op index terms old new)
    → drop (length old.inner.items) new.words.items ≡ here.added
tail_words_is op index terms old new same here = ap (drop (length old.inner.items)) here.words ∙ ap (λ n. drop n (old.words.items ++ here.added)) (sym same) ∙ drop-append_seam old.words.items here.added

-- and what stands before it
front_is : (op : BinaryOp) (index : ℕ) (terms : List Term) (old new : FiberLists)
    → HasOpenRow op index terms old new → take (length old.inner.items) new.inner.items ≡ old.inner.items
front_is op index terms old new here = ap (take (length old.inner.items)) here.inner ∙ take-append_seam old.inner.items here.cols

front_words_is : (op : BinaryOp) (index : ℕ) (terms : List Term) (old new : FiberLists)
    → length old.words.items ≡ length old.inner.items → HasOpenRow op index terms old new
    → take (length old.inner.items) new.words.items ≡ old.words.items
front_words_is op index terms old new same here = ap (take (length old.inner.items)) here.words ∙ ap (λ n. take n (old.words.items ++ here.added)) (sym same) ∙ take-append_seam old.words.items here.added

-- what a mask keeps of a part of a row of sums
pub kept_open : (op : BinaryOp) (index : ℕ) (test : MaskTest) (first past : ℕ) (cols words : List ℕ) (low high : ℕ)
    (terms : List Term) (old mid new : FiberLists) → length old.words.items ≡ length old.inner.items
    → HasOpenRow op index terms old mid → IsPart first past (drop (length old.inner.items) mid.inner.items) low high
    → HasKept test cols words (length old.inner.items) low high mid new
    → HasOpenRow op index (kept_terms (keeps_among test first past (entries_along index cols words) index) terms) old new
kept_open op index test first past cols words low high terms old mid new same here part kept =
    let start = length old.inner.items in
    let keeps = keeps_among test first past (entries_along index cols words) index in
    let stored = entries_along index cols words in
    let tail : drop start mid.inner.items ≡ here.cols = tail_is op index terms old mid here in
    let tail_words : drop start mid.words.items ≡ here.added = tail_words_is op index terms old mid same here in
    let es = entries_along index here.cols here.added in
    let in_part : entries_along index (drop low (take high here.cols)) (drop low (take high here.added)) ≡ filter (λ e. in_range first past e.col) es = part_entries first past index here.cols here.added low high here.sums.lengths (rw tail at part) in
    let entries : entries_along index kept.kept kept.kept_words ≡ filter (λ e. keeps e.col) es =
    (rw (tail, tail_words) at (kept.entries index)) ∙ ap (kept_by test stored) in_part
    ∙ filter_twice (λ (e : Entry). lets_word test (word_at stored e.row e.col)) (λ (e : Entry). in_range first past e.col) (λ (e : Entry). keeps e.col) es
    (All-weaker (λ e. e.row ≡ index) (λ e. (in_range first past e.col && lets_word test (word_at stored e.row e.col)) ≡ keeps e.col) (λ e at. rw at refl) es (all_rows index here.cols here.added)) in
    record {
      cols = kept.kept;
      added = kept.kept_words;
      sums = sums_filtered op index keeps terms here.cols here.added kept.kept kept.kept_words kept.lengths entries here.sums;
      inner = kept.inner ∙ ap (λ xs. xs ++ kept.kept) (front_is op index terms old mid here);
      words = kept.words_are ∙ ap (λ xs. xs ++ kept.kept_words) (front_words_is op index terms old mid same here);
      ends = kept.ends ∙ here.ends;
    }

-- a row that was closed
pub row_closed : (r : Result (Unit {0}) NoMemory) (op : BinaryOp) (index : ℕ) (terms : List Term)
    (old mid new : FiberLists) → HasOpenRow op index terms old mid
    → OnOk r (new.ends.items ≡ closed mid.ends.items index (length mid.inner.items))
    → new.inner.items ≡ mid.inner.items → new.words.items ≡ mid.words.items → OnOk r (HasRow op index terms old new)
row_closed (Err e) op index terms old mid new here ends inner words = tt
row_closed (Ok u) op index terms old mid new here ends inner words = record {
  cols = here.cols;
  added = here.added;
  sums = here.sums;
  inner = inner ∙ here.inner;
  words = words ∙ here.words;
  ends = ends ∙ ap (λ es. closed es index (length mid.inner.items)) (ap (λ (v : Vec FiberEnd _). v.items) here.ends) ∙ ap (λ is. closed old.ends.items index (length is)) (sym inner);
}
