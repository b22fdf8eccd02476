-- Edits of a map, at each position: the last one there stands.
use Rattle.std.proofs.Common.{◌≡◌, ◌⊎◌, Ordering, ℕ, ◌<◌, ◌≤◌, ◌&&◌, not, Bool, true, false, cond, eqb, List, [], ◌∷◌, ◌++◌, map, get_or, take, drop, take-append-drop, Option, None, Some, refl, sym, ◌∙◌, ap, inl, inr, arith}
use Rattle.std.specs.Prelude.{OnErr, Result, Ok, Err}
use Rattle.std.specs.List.{All, AllPairs, filter, fold}
use Rattle.std.specs.List.Sorted.{IsSortedByKey, IsStableByKey}
use Rattle.std.specs.Ordering.{is_lt, nat_cmp, ordering_then}
use Rattle.std.proofs.lemmas.Bool.{cases_Bool, le-ltb, ne_eqb}
use Rattle.std.proofs.lemmas.Bool.Decides.{nat_tests}
use Rattle.std.proofs.lemmas.Cmp.{nat_cmp_total, on_total, then_total}
use Rattle.std.proofs.lemmas.List.Elements.{All-head, All-map, All-tail, All-weaker, filter_agree}
use Rattle.std.proofs.lemmas.List.Sorted.{ranks_by, sorted_far}
use Rattle.std.proofs.lemmas.List.Sums.{fold-append}
use Rattle.model.specs.Builds.{gathered, joined_all, words_at}
use Rattle.model.specs.declared.entry.Entry.{Entry}
use Rattle.model.specs.Entries.{IsNotBehind, entry_at}
use Rattle.model.specs.Object.{Content, IsWithin}
use Rattle.store.specs.Stored.{AreIn}
use Rattle.store.proofs.Order.{all_pairs_from_map, all_pairs_map}
use Rattle.masks.specs.declared.join.Joining.TheVariants.{Right}
use Rattle.masks.specs.Joins.{join_word}
use Rattle.masks.specs.Masks.{has_word}
use Rattle.patch.specs.declared.edits.Edit.{Edit}
use Rattle.patch.specs.declared.edits.Edit.TheVariants.{Set, Remove}
use Rattle.patch.specs.Edits.{IsInside, IsSet, edited, edited_once, place_of, removal_entry, set_entry}

-- what a position has after an edit, by what it had
abbrev after_one : ℕ → ℕ → Option ℕ → Edit → Option ℕ
after_one i j word (Set p q new) = cond (eqb i p && eqb j q) (Some new) word
after_one i j word (Remove p q) = cond (eqb i p && eqb j q) None word

-- and after edits
abbrev after : ℕ → ℕ → List Edit → Option ℕ → Option ℕ
after i j es word = fold (after_one i j) word es

edited-after : (es : List Edit) (c : Content) (i j : ℕ) → edited es c i j ≡ after i j es (c i j)
edited-after [] c i j = refl
edited-after (Set p q new ∷ es) c i j = edited-after es (edited_once c (Set p q new)) i j
edited-after (Remove p q ∷ es) c i j = edited-after es (edited_once c (Remove p q)) i j

-- ---- edits that are done twice

-- edits name a position, or leave it as it was
named_or_not : (i j : ℕ) (es : List Edit)
    → ((v : Option ℕ) → after i j es v ≡ v) ⊎ ((v w : Option ℕ) → after i j es v ≡ after i j es w)
named_or_not i j [] = inl (λ v. refl)
named_or_not i j (e ∷ es) =
    elim (named_or_not i j es) [
      | inr named ↦ inr (λ v w. named (after_one i j v e) (after_one i j w e))
      | inl not_named ↦ one_named e es not_named
    ] where
      one_named : (e : Edit) (es : List Edit) → ((v : Option ℕ) → after i j es v ≡ v)
          → ((v : Option ℕ) → after i j (e ∷ es) v ≡ v) ⊎ ((v w : Option ℕ) → after i j (e ∷ es) v ≡ after i j (e ∷ es) w)
      one_named (Set p q new) es rest =
          elim (cases_Bool (eqb i p && eqb j q)) [
            | inl at ↦ inr (λ v w. rw at refl)
            | inr away ↦ inl (λ v. rw away (rest v))
          ]
      one_named (Remove p q) es rest =
          elim (cases_Bool (eqb i p && eqb j q)) [
            | inl at ↦ inr (λ v w. rw at refl)
            | inr away ↦ inl (λ v. rw away (rest v))
          ]

after-twice : (i j : ℕ) (xs ys : List Edit) (v : Option ℕ)
    → after i j (xs ++ ys) (after i j xs v) ≡ after i j (xs ++ ys) v
after-twice i j xs ys v =
    let once = fold-append (after_one i j) v xs ys in
    let twice = fold-append (after_one i j) (after i j xs v) xs ys in
    elim (named_or_not i j xs) [
      | inl not_named ↦ ap (after i j (xs ++ ys)) (not_named v)
      | inr named ↦ twice ∙ ap (after i j ys) (named (after i j xs v) v) ∙ sym once
    ]

-- to do some and then all is to do all
pub edited-twice : (xs ys : List Edit) (b c : Content) (i j : ℕ) → b i j ≡ edited xs c i j
    → edited (xs ++ ys) b i j ≡ edited (xs ++ ys) c i j
edited-twice xs ys b c i j some =
    edited-after (xs ++ ys) b i j
    ∙ ap (after i j (xs ++ ys)) (some ∙ edited-after xs c i j)
    ∙ after-twice i j xs ys (c i j)
    ∙ sym (edited-after (xs ++ ys) c i j)

pub edited-again : (es : List Edit) (k : ℕ) (b c : Content) → ((i j : ℕ) → b i j ≡ edited (take k es) c i j)
    → (i j : ℕ) → edited es b i j ≡ edited es c i j
edited-again es k b c some i j =
    let whole = take-append-drop k es in
    rw whole at (edited-twice (take k es) (drop k es) b c i j (some i j))

-- ---- edits in another order

abbrev pub position_cmp : ℕ × ℕ → ℕ × ℕ → Ordering
position_cmp p q = ordering_then (nat_cmp p.0 q.0) (nat_cmp p.1 q.1)

ties_is : (i j row col : ℕ)
    → (not (is_lt (ordering_then (nat_cmp i row) (nat_cmp j col))) && not (is_lt (ordering_then (nat_cmp row i) (nat_cmp col j)))) ≡ (eqb i row && eqb j col)
ties_is i j row col = grind (arith, nat_tests)

behind_is : (e f : Entry) → is_lt (position_cmp (f.row, f.col) (e.row, e.col)) ≡ false → IsNotBehind e f
behind_is e f h = grind (arith, nat_tests)

-- whether an edit is of a position
abbrev is_at : ℕ → ℕ → Edit → Bool
is_at i j e = eqb i (place_of e).0 && eqb j (place_of e).1

after-away : (i j : ℕ) (e : Edit) (v : Option ℕ) → is_at i j e ≡ false → after_one i j v e ≡ v
after-away i j (Set p q new) v away = rw away refl
after-away i j (Remove p q) v away = rw away refl

-- only the edits of a position matter there
after-filter : (i j : ℕ) (es : List Edit) (v : Option ℕ) → after i j (filter (is_at i j) es) v ≡ after i j es v
after-filter i j [] v = refl
after-filter i j (e ∷ es) v =
    elim (cases_Bool (is_at i j e)) [
      | inl at ↦
          let kept : filter (is_at i j) (e ∷ es) ≡ e ∷ filter (is_at i j) es = rw at refl in
          ap (λ fs. after i j fs v) kept ∙ after-filter i j es (after_one i j v e)
      | inr away ↦
          let left : filter (is_at i j) (e ∷ es) ≡ filter (is_at i j) es = rw away refl in
          ap (λ fs. after i j fs v) left ∙ after-filter i j es v ∙ ap (after i j es) (sym (after-away i j e v away))
    ]

-- a stable sort keeps what edits make
pub edited-sorted : (es sorted : List Edit) → IsStableByKey place_of position_cmp es sorted → (c : Content) (i j : ℕ)
    → edited sorted c i j ≡ edited es c i j
edited-sorted es sorted stable c i j =
    let tie : Edit → Bool = λ e. not (is_lt (position_cmp (i, j) (place_of e))) && not (is_lt (position_cmp (place_of e) (i, j))) in
    let is = is_at i j in
    let kept : filter tie sorted ≡ filter tie es = stable (Set i j 0) in
    let one = filter_agree tie is (λ e. ties_is i j (place_of e).0 (place_of e).1) sorted in
    let two = filter_agree tie is (λ e. ties_is i j (place_of e).0 (place_of e).1) es in
    edited-after sorted c i j
    ∙ sym (after-filter i j sorted (c i j))
    ∙ ap (λ es. after i j es (c i j)) (sym one ∙ kept ∙ two)
    ∙ after-filter i j es (c i j)
    ∙ sym (edited-after es c i j)

behind_edit : (e f : Edit) → is_lt (position_cmp (place_of f) (place_of e)) ≡ false
    → IsNotBehind (set_entry e) (set_entry f)
behind_edit (Set i j new) (Set p q other) h = behind_is (entry_at i j 0) (entry_at p q 0) h
behind_edit (Set i j new) (Remove p q) h = behind_is (entry_at i j 0) (entry_at p q 0) h
behind_edit (Remove i j) (Set p q other) h = behind_is (entry_at i j 0) (entry_at p q 0) h
behind_edit (Remove i j) (Remove p q) h = behind_is (entry_at i j 0) (entry_at p q 0) h

pub order_of_sorted : (es : List Edit) → IsSortedByKey place_of position_cmp es
    → AllPairs IsNotBehind (map set_entry es)
order_of_sorted es sorted =
    let total = then_total (on_total (λ (p : ℕ × ℕ). p.0) nat_cmp_total) (on_total (λ (p : ℕ × ℕ). p.1) nat_cmp_total) in
    let far = sorted_far (λ x y. is_lt (position_cmp (place_of x) (place_of y))) (ranks_by total place_of) es sorted in
    all_pairs_map IsNotBehind set_entry es (λ i j d below within. behind_edit (get_or es i d) (get_or es j d) (far i j d (omega arith) within))

-- ---- edits at once

removals_behind : (e f : Edit) → IsNotBehind (set_entry e) (set_entry f)
    → IsNotBehind (removal_entry e) (removal_entry f)
removals_behind (Set i j new) (Set p q other) h = h
removals_behind (Set i j new) (Remove p q) h = h
removals_behind (Remove i j) (Set p q other) h = h
removals_behind (Remove i j) (Remove p q) h = h

pub removals_order : (es : List Edit) → AllPairs IsNotBehind (map set_entry es)
    → AllPairs IsNotBehind (map removal_entry es)
removals_order es order =
    let before = all_pairs_from_map IsNotBehind set_entry es order in
    all_pairs_map IsNotBehind removal_entry es (λ i j d below within. removals_behind (get_or es i d) (get_or es j d) (before i j d below within))

abbrev StandsIn : ℕ → ℕ → Entry → Type 0
StandsIn rows cols e = ((0 ≤ e.row) × (e.row < rows)) × (e.col < cols)

set_in : (rows cols : ℕ) (e : Edit) → IsInside rows cols e → StandsIn rows cols (set_entry e)
set_in rows cols (Set i j new) h = ((omega arith, h.0), h.1)
set_in rows cols (Remove i j) h = ((omega arith, h.0), h.1)

removal_in : (rows cols : ℕ) (e : Edit) → IsInside rows cols e → StandsIn rows cols (removal_entry e)
removal_in rows cols (Set i j new) h = ((omega arith, h.0), h.1)
removal_in rows cols (Remove i j) h = ((omega arith, h.0), h.1)

pub sets_inside : (rows cols : ℕ) (es : List Edit) → All (IsInside rows cols) es → AreIn 0 rows cols (map set_entry es)
sets_inside rows cols es h = All-map (StandsIn rows cols) set_entry es (All-weaker (IsInside rows cols) (λ e. StandsIn rows cols (set_entry e)) (set_in rows cols) es h)

pub removals_inside : (rows cols : ℕ) (es : List Edit) → All (IsInside rows cols) es
    → AreIn 0 rows cols (map removal_entry es)
removals_inside rows cols es h = All-map (StandsIn rows cols) removal_entry es (All-weaker (IsInside rows cols) (λ e. StandsIn rows cols (removal_entry e)) (removal_in rows cols) es h)

-- the last word of a position
abbrev last_at : ℕ → ℕ → List Entry → Option ℕ
last_at i j es = gathered None es i j

joined_none : (ws : List ℕ) → joined_all None ws ≡ None → ws ≡ []
joined_none [] h = refl
joined_none (w ∷ ws) h = cc

joined_later : (w t : ℕ) (ws : List ℕ) → joined_all None ws ≡ Some t → joined_all None (w ∷ ws) ≡ Some t
joined_later w t [] h = cc
joined_later w t (x ∷ ws) h = h

last_first : (i j : ℕ) (e : Entry) (es : List Entry) → (eqb i e.row && eqb j e.col) ≡ true → last_at i j es ≡ None
    → last_at i j (e ∷ es) ≡ Some e.word
last_first i j e es at none = let empty : words_at es i j ≡ [] = joined_none (words_at es i j) none in rw (at, empty) refl

last_later : (i j t : ℕ) (e : Entry) (es : List Entry) → last_at i j es ≡ Some t → last_at i j (e ∷ es) ≡ Some t
last_later i j t e es some =
    elim (cases_Bool (eqb i e.row && eqb j e.col)) [ inl at ↦ rw at (joined_later e.word t (words_at es i j) some) | inr away ↦ rw away some ]

last_away : (i j : ℕ) (e : Entry) (es : List Entry) → (eqb i e.row && eqb j e.col) ≡ false
    → last_at i j (e ∷ es) ≡ last_at i j es
last_away i j e es away = rw away refl

-- no edit is of a position
record IsUnnamed (i j : ℕ) (es : List Edit) : Type 0 where
  pub word : last_at i j (map set_entry es) ≡ None
  pub removal : last_at i j (map removal_entry es) ≡ None
  pub stays : (v : Option ℕ) → after i j es v ≡ v

-- the last edit of a position sets a word there, or removes it
record IsNamed (i j : ℕ) (es : List Edit) : Type 0 where
  pub last : ℕ
  pub removes : ℕ
  pub word : last_at i j (map set_entry es) ≡ Some last
  pub removal : last_at i j (map removal_entry es) ≡ Some removes
  pub makes : (v : Option ℕ) → after i j es v ≡ cond (eqb removes 0) (Some last) None

named-later : (i j : ℕ) (e : Edit) (es : List Edit) → IsNamed i j es → IsNamed i j (e ∷ es)
named-later i j e es h = record {
  last = h.last;
  removes = h.removes;
  word = last_later i j h.last (set_entry e) (map set_entry es) h.word;
  removal = last_later i j h.removes (removal_entry e) (map removal_entry es) h.removal;
  makes = λ v. h.makes (after_one i j v e);
}

named-first : (i j : ℕ) (e : Edit) (es : List Edit) → IsUnnamed i j es → IsUnnamed i j (e ∷ es) ⊎ IsNamed i j (e ∷ es)
named-first i j (Set p q new) es h =
    elim (cases_Bool (eqb i p && eqb j q)) [
      | inl at ↦ inr (record {
        last = new;
        removes = 0;
        word = last_first i j (entry_at p q new) (map set_entry es) at h.word;
        removal = last_first i j (entry_at p q 0) (map removal_entry es) at h.removal;
        makes = λ v. rw at (h.stays (Some new));
      })
      | inr away ↦ inl (record {
        word = last_away i j (entry_at p q new) (map set_entry es) away ∙ h.word;
        removal = last_away i j (entry_at p q 0) (map removal_entry es) away ∙ h.removal;
        stays = λ v. rw away (h.stays v);
      })
    ]
named-first i j (Remove p q) es h =
    elim (cases_Bool (eqb i p && eqb j q)) [
      | inl at ↦ inr (record {
        last = 0;
        removes = 1;
        word = last_first i j (entry_at p q 0) (map set_entry es) at h.word;
        removal = last_first i j (entry_at p q 1) (map removal_entry es) at h.removal;
        makes = λ v. rw at (h.stays None);
      })
      | inr away ↦ inl (record {
        word = last_away i j (entry_at p q 0) (map set_entry es) away ∙ h.word;
        removal = last_away i j (entry_at p q 1) (map removal_entry es) away ∙ h.removal;
        stays = λ v. rw away (h.stays v);
      })
    ]

told : (i j : ℕ) (es : List Edit) → IsUnnamed i j es ⊎ IsNamed i j es
told i j [] = inl (record { word = refl; removal = refl; stays = λ v. refl })
told i j (e ∷ es) =
    elim (told i j es) [ inl unnamed ↦ named-first i j e es unnamed | inr named ↦ inr (named-later i j e es named) ]

-- at the positions of edits the words of those that are no removals stand, and elsewhere what was there
pub merged-edited : (es : List Edit) (c : Content) (i j : ℕ)
    → (let removal = gathered None (map removal_entry es) i j in cond (has_word false removal) (cond (not (has_word true removal)) (gathered None (map set_entry es) i j) None) (c i j)) ≡ edited es c i j
merged-edited es c i j =
    elim (told i j es) [
      | inl h ↦ rw h.removal (sym (h.stays (c i j))) ∙ sym (edited-after es c i j)
      | inr h ↦ rw (h.removal, h.word) (either h.removes h.last ∙ sym (h.makes (c i j))) ∙ sym (edited-after es c i j)
    ] where
      either : (removes last : ℕ) → cond (has_word false (Some removes))
          (cond (not (has_word true (Some removes))) (Some last) None) (c i j) ≡ cond (eqb removes 0) (Some last) None
      either removes last = elim (cases_Bool (eqb removes 0)) [ inl set ↦ rw set refl | inr removed ↦ rw removed refl ]

-- ---- edits that set alone

over_none : (word : Option ℕ) → join_word Right word None ≡ word
over_none None = refl
over_none (Some w) = refl

over_some : (word : Option ℕ) (new : ℕ) → join_word Right word (Some new) ≡ Some new
over_some None new = refl
over_some (Some w) new = refl

-- a word that is set before others of its position
set_before : (i j : ℕ) (e : Entry) (es : List Entry) (v last : Option ℕ) → (eqb i e.row && eqb j e.col) ≡ true
    → last_at i j es ≡ last → join_word Right v (last_at i j (e ∷ es)) ≡ join_word Right (Some e.word) last
set_before i j e es v None at is = ap (join_word Right v) (last_first i j e es at is) ∙ over_some v e.word
set_before i j e es v (Some t) at is = ap (join_word Right v) (last_later i j t e es is) ∙ over_some v t

sets-after : (i j : ℕ) (es : List Edit) → All IsSet es → (v : Option ℕ)
    → join_word Right v (last_at i j (map set_entry es)) ≡ after i j es v
sets-after i j [] sets v = over_none v
sets-after i j (Remove p q ∷ es) sets v = absurd (All-head IsSet (Remove p q) es sets)
sets-after i j (Set p q new ∷ es) sets v =
    let others = map set_entry es in
    let rest = All-tail IsSet (Set p q new) es sets in
    elim (cases_Bool (eqb i p && eqb j q)) [
      | inl at ↦
          set_before i j (entry_at p q new) others v (last_at i j others) at refl
          ∙ sets-after i j es rest (Some new) ∙ rw at refl
      | inr away ↦
          ap (join_word Right v) (last_away i j (entry_at p q new) others away)
          ∙ sets-after i j es rest v ∙ rw away refl
    ]

-- the words that edits set stand over what was there
pub sets-edited : (es : List Edit) → All IsSet es → (c : Content) (i j : ℕ)
    → join_word Right (c i j) (gathered None (map set_entry es) i j) ≡ edited es c i j
sets-edited es sets c i j = sets-after i j es sets (c i j) ∙ sym (edited-after es c i j)

-- edits inside some rows change nothing behind them
edited-behind : (rows cols : ℕ) (es : List Edit) → All (IsInside rows cols) es → (c : Content) (i j : ℕ) → rows ≤ i
    → edited es c i j ≡ c i j
edited-behind rows cols [] h c i j behind = refl
edited-behind rows cols (Set p q new ∷ es) h c i j behind =
    let inside = All-head (IsInside rows cols) (Set p q new) es h in
    let away : (eqb i p && eqb j q) ≡ false = rw (ne_eqb i p (λ e. (let row = inside.0 in omega arith))) refl in
    edited-behind rows cols es (All-tail (IsInside rows cols) (Set p q new) es h) (edited_once c (Set p q new)) i j behind ∙ rw away refl
edited-behind rows cols (Remove p q ∷ es) h c i j behind =
    let inside = All-head (IsInside rows cols) (Remove p q) es h in
    let away : (eqb i p && eqb j q) ≡ false = rw (ne_eqb i p (λ e. (let row = inside.0 in omega arith))) refl in
    edited-behind rows cols es (All-tail (IsInside rows cols) (Remove p q) es h) (edited_once c (Remove p q)) i j behind ∙ rw away refl

-- and a map that has nothing behind so many rows is there what another one is after edits
pub same_behind : (rows cols rows' cols' : ℕ) (es : List Edit) → All (IsInside rows cols) es → (c new : Content)
    → IsWithin rows cols c → IsWithin rows' cols' new → rows' ≡ rows → (i j : ℕ) → rows ≤ i → new i j ≡ edited es c i j
same_behind rows cols rows' cols' es inside c new within new_within same i j behind =
    let was : c i j ≡ None = within i j (rw (le-ltb i rows behind) refl) in
    let none : new i j ≡ None = new_within i j (rw (same, le-ltb i rows behind) refl) in
    none ∙ sym was ∙ sym (edited-behind rows cols es inside c i j behind)

-- what holds, holds on an error
pub on_err : {X E : Type 0} (P : Type 0) (r : Result X E) → P → OnErr r P
on_err P (Ok x) h = tt
on_err P (Err e) h = h
