-- What a row has at listed columns, one column after another.
use Rattle.std.proofs.Common.{◌≡◌, ◌≢◌, ℕ, ◌+◌, ◌<◌, true, false, ltb, List, [], ◌∷◌, ◌++◌, length, get_or, Some, None, Result, OnOk, refl, sym, ◌∙◌, ap, inl, inr, arith, append_assoc, slice_get, length-append}
use Rattle.std.specs.List.{All}
use Rattle.std.specs.Option.{option_and_then}
use Rattle.std.proofs.lemmas.Bool.{cases_Bool, cases_eq, eq-eqb}
use Rattle.std.proofs.lemmas.Bool.Decides.{nat_tests}
use Rattle.std.proofs.lemmas.List.{append-nil}
use Rattle.std.proofs.lemmas.List.Elements.{All-append, All-cons, All-nil, All-weaker}
use Rattle.std.proofs.lemmas.Option.{slice_get-get_or, slice_get_past}
use Rattle.model.specs.declared.memory.NoMemory.{NoMemory}
use Rattle.model.specs.Entries.{word_at}
use Rattle.model.specs.Indices.{All as Every, These, index_at}
use Rattle.model.specs.Object.{Content}
use Rattle.store.specs.declared.lists.FiberLists.{FiberLists}
use Rattle.store.specs.Fibers.{entries_along}
use Rattle.store.proofs.CloseLaws.{closed}
use Rattle.store.proofs.Order.{all_pairs_append, all_pairs_cons, all_pairs_nil}
use Rattle.shapes.specs.Picks.{ArePicks, HasPicks}
use Rattle.shapes.specs.Rows.{HasRow, HasRowOf, IsRowOf}
use Rattle.shapes.proofs.Going.{ok_then}
use Rattle.shapes.proofs.RowWords.{absent, no_word, row_word, same_words, word_left, word_right}

-- no column so far
pub picks_none : (cs ws listed : List ℕ) → ArePicks cs ws listed 0 [] []
picks_none cs ws listed = record {
  lengths = refl;
  rising = all_pairs_nil (λ a b. a < b);
  inside = All-nil (λ place. place < 0);
  words_are = λ i j. let none : ltb j 0 ≡ false = grind (arith, nat_tests) in rw none (no_word i j []);
}

-- a column that the row lacks
picks_skip : (cs ws listed : List ℕ) (k : ℕ) (places words : List ℕ) → k < length listed
    → ((i : ℕ) → word_at (entries_along i cs ws) i (get_or listed k 0) ≡ None) → ArePicks cs ws listed k places words
    → ArePicks cs ws listed (k + 1) places words
picks_skip cs ws listed k places words within none here = record {
  lengths = here.lengths;
  rising = here.rising;
  inside = All-weaker (λ place. place < k) (λ place. place < k + 1) (λ place p. omega arith) places here.inside;
  words_are = λ i j. here.words_are i j ∙ elim (cases_eq j k) [
    | inl same ↦
        let before : ltb j k ≡ false = grind (arith, nat_tests) in
        let now : ltb j (k + 1) ≡ true = grind (arith, nat_tests) in
        let at : slice_get listed j ≡ Some (get_or listed k 0) = ap (slice_get listed) same ∙ slice_get-get_or listed k 0 within in
        rw (before, now, at) (sym (none i))
    | inr other ↦ let alike : ltb j k ≡ ltb j (k + 1) = grind (arith, nat_tests) in rw alike refl
  ];
}

-- a column that the row has
picks_more : (cs ws listed : List ℕ) (k word : ℕ) (places words : List ℕ) → k < length listed
    → ((i : ℕ) → word_at (entries_along i cs ws) i (get_or listed k 0) ≡ Some word)
    → ArePicks cs ws listed k places words
    → ArePicks cs ws listed (k + 1) (places ++ k ∷ []) (words ++ word ∷ [])
picks_more cs ws listed k word places words within some here =
    let P : ℕ → Type 0 = λ place. place < k + 1 in
    record {
      lengths = let same = here.lengths in omega (arith, length-append words (word ∷ []), length-append places (k ∷ []));
      rising = all_pairs_append (λ a b. a < b) places (k ∷ []) here.rising (all_pairs_cons (λ a b. a < b) k [] (All-nil (λ b. k < b)) (all_pairs_nil (λ a b. a < b)))
          (All-weaker (λ place. place < k) (λ place. All (λ b. place < b) (k ∷ [])) (λ place less. All-cons (λ b. place < b) k [] less (All-nil (λ b. place < b))) places here.inside);
      inside = All-append P places (k ∷ []) (All-weaker (λ place. place < k) P (λ place p. omega arith) places here.inside) (All-cons P k [] (omega arith) (All-nil P));
      words_are = λ i j. elim (cases_eq j k) [
        | inl same ↦
            let now : ltb j (k + 1) ≡ true = grind (arith, nat_tests) in
            let at : slice_get listed j ≡ Some (get_or listed k 0) = ap (slice_get listed) same ∙ slice_get-get_or listed k 0 within in
            word_right i j places words (k ∷ []) (word ∷ []) here.lengths (All-weaker (λ place. place < k) (λ place. j ≢ place) (λ place less is. omega arith) places here.inside)
            ∙ row_word i j k word [] [] ∙ rw (eq-eqb j k same, now, at) (sym (some i))
        | inr other ↦
            let alike : ltb j k ≡ ltb j (k + 1) = grind (arith, nat_tests) in
            word_left i j places words (k ∷ []) (word ∷ []) here.lengths (All-cons (λ place. j ≢ place) k [] other (All-nil (λ place. j ≢ place)))
            ∙ here.words_are i j ∙ rw alike refl
      ];
    }

-- ---- in lists

pub put_none : (cs ws listed : List ℕ) (lists : FiberLists) → HasPicks cs ws listed 0 lists lists
put_none cs ws listed lists = record {
  places = [];
  words = [];
  picks = picks_none cs ws listed;
  ends = refl;
  inner = sym (append-nil {A = ℕ} lists.inner.items);
  added = sym (append-nil {A = ℕ} lists.words.items);
}

pub put_skip : (cs ws listed : List ℕ) (k : ℕ) (old new : FiberLists) → k < length listed
    → ((i : ℕ) → word_at (entries_along i cs ws) i (get_or listed k 0) ≡ None) → HasPicks cs ws listed k old new
    → HasPicks cs ws listed (k + 1) old new
put_skip cs ws listed k old new within none here = record {
  places = here.places;
  words = here.words;
  picks = picks_skip cs ws listed k here.places here.words within none here.picks;
  ends = here.ends;
  inner = here.inner;
  added = here.added;
}

pub put_more : (cs ws listed : List ℕ) (k word : ℕ) (old now new : FiberLists) → k < length listed
    → ((i : ℕ) → word_at (entries_along i cs ws) i (get_or listed k 0) ≡ Some word) → HasPicks cs ws listed k old now
    → new.ends.items ≡ now.ends.items → new.inner.items ≡ now.inner.items ++ k ∷ []
    → new.words.items ≡ now.words.items ++ word ∷ [] → HasPicks cs ws listed (k + 1) old new
put_more cs ws listed k word old now new within some here ends inner added = record {
  places = here.places ++ k ∷ [];
  words = here.words ++ word ∷ [];
  picks = picks_more cs ws listed k word here.places here.words within some here.picks;
  ends = ends ∙ here.ends;
  inner = inner ∙ rw here.inner (append_assoc old.inner.items here.places (k ∷ []));
  added = added ∙ rw here.added (append_assoc old.words.items here.words (word ∷ []));
}

-- ---- rows of what is extracted

-- where the row of a store is taken as it is
pub row_taken : (source made : Content) (row index size : ℕ) (cs ws : List ℕ) → IsRowOf source row size cs ws
    → ((j : ℕ) → made index j ≡ option_and_then (source row) (index_at size Every j)) → IsRowOf made index size cs ws
row_taken source made row index size cs ws here is = record {
  lengths = here.lengths;
  rising = here.rising;
  inside = here.inside;
  words = λ j. same_words index row j cs ws ∙ elim (cases_Bool (ltb j size)) [
    | inl inside ↦ here.words j ∙ sym (rw inside at (is j))
    | inr outside ↦
        absent row j cs ws (All-weaker (λ col. col < size) (λ col. j ≢ col) (λ col less same. absurd (grind (arith, nat_tests))) cs here.inside)
        ∙ sym (rw outside at (is j))
  ];
}

-- where listed columns of it are taken
pub row_picked : (source made : Content) (row index size : ℕ) (cs ws listed places words : List ℕ)
    → IsRowOf source row size cs ws → ArePicks cs ws listed (length listed) places words
    → ((j : ℕ) → made index j ≡ option_and_then (source row) (index_at size (These listed) j))
    → IsRowOf made index (length listed) places words
row_picked source made row index size cs ws listed places words here picks is = record {
  lengths = picks.lengths;
  rising = picks.rising;
  inside = picks.inside;
  words = λ j.
      let there : option_and_then (word_at (entries_along index cs ws) index) (slice_get listed j) ≡ option_and_then (source row) (slice_get listed j) =
      elim (slice_get listed j) as (λ o. option_and_then (word_at (entries_along index cs ws) index) o ≡ option_and_then (source row) o) [
        | None ↦ refl
        | Some col ↦ same_words index row col cs ws ∙ here.words col
      ] in
      picks.words_are index j ∙ elim (cases_Bool (ltb j (length listed))) [
        | inl inside ↦ rw inside (there ∙ sym (is j))
        | inr outside ↦ rw outside (sym (is j ∙ ap (option_and_then (source row)) (slice_get_past listed j (grind (arith, nat_tests)))))
      ];
}

pub ok_taken : (index : ℕ) (cs ws : List ℕ) (old new : FiberLists) (r : Result (Unit {0}) NoMemory)
    → OnOk r (HasRow index cs ws old new)
    → OnOk r ((source made : Content) (row size : ℕ) → IsRowOf source row size cs ws → ((j : ℕ) → made index j ≡ option_and_then (source row) (index_at size Every j)) → HasRowOf made index size old new)
ok_taken index cs ws old new r put =
    ok_then (HasRow index cs ws old new) ((source made : Content) (row size : ℕ) → IsRowOf source row size cs ws → ((j : ℕ) → made index j ≡ option_and_then (source row) (index_at size Every j)) → HasRowOf made index size old new) r
    (λ put source made row size here is. record { cs = cs; ws = ws; row = row_taken source made row index size cs ws here is; put = put }) put

-- after the close of a row that was picked
pub row_closed : (index : ℕ) (cs ws listed : List ℕ) (old now new : FiberLists)
    → HasPicks cs ws listed (length listed) old now → new.inner.items ≡ now.inner.items
    → new.words.items ≡ now.words.items
    → new.ends.items ≡ closed now.ends.items index (length now.inner.items)
    → (source made : Content) (row size : ℕ) → IsRowOf source row size cs ws
    → ((j : ℕ) → made index j ≡ option_and_then (source row) (index_at size (These listed) j))
    → HasRowOf made index (length listed) old new
row_closed index cs ws listed old now new picked inner words ends source made row size here is = record {
  cs = picked.places;
  ws = picked.words;
  row = row_picked source made row index size cs ws listed picked.places picked.words here picked.picks is;
  put = record {
    inner = inner ∙ picked.inner;
    words = words ∙ picked.added;
    ends = rw inner (rw picked.ends at ends);
  };
}

pub ok_closed : (index : ℕ) (cs ws listed : List ℕ) (old now new : FiberLists) (r : Result (Unit {0}) NoMemory)
    → HasPicks cs ws listed (length listed) old now → new.inner.items ≡ now.inner.items
    → new.words.items ≡ now.words.items
    → OnOk r (new.ends.items ≡ closed now.ends.items index (length now.inner.items))
    → OnOk r ((source made : Content) (row size : ℕ) → IsRowOf source row size cs ws → ((j : ℕ) → made index j ≡ option_and_then (source row) (index_at size (These listed) j)) → HasRowOf made index (length listed) old new)
ok_closed index cs ws listed old now new r picked inner words ends =
    ok_then (new.ends.items ≡ closed now.ends.items index (length now.inner.items))
    ((source made : Content) (row size : ℕ) → IsRowOf source row size cs ws → ((j : ℕ) → made index j ≡ option_and_then (source row) (index_at size (These listed) j)) → HasRowOf made index (length listed) old new) r
    (λ ends. row_closed index cs ws listed old now new picked inner words ends) ends
