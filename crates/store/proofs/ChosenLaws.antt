-- The parts that have some of a range of rows, in lists.
use Rattle.std.proofs.Common.{◌≡◌, ◌≢◌, ℕ, ◌+◌, ◌<◌, ◌≤◌, List, [], ◌∷◌, ◌++◌, length, get_or, take, None, refl, sym, ◌∙◌, ap, subst, arith}
use Rattle.std.specs.List.{All, AllPairs}
use Rattle.std.specs.Option.{option_or}
use Rattle.std.proofs.lemmas.Bool.{ne_eqb}
use Rattle.std.proofs.lemmas.List.{get_or_default, take_all}
use Rattle.std.proofs.lemmas.List.Elements.{All-cons, All-nil, All-push, All-weaker}
use Rattle.model.specs.Entries.{InOrder, Precedes, word_at}
use Rattle.store.specs.declared.lists.FiberLists.{FiberLists}
use Rattle.store.specs.Blocks.{AreParts, IsAbove, IsPart, entries_in_parts}
use Rattle.store.specs.Fibers.{AreFlat, entries_in}
use Rattle.store.specs.Stored.{AgreesIn, AreHeld, AreIn, Stored, along, content_of}
use Rattle.store.proofs.BlockLaws.{parts_more, parts_push, parts_stored, stored_as, word_append}
use Rattle.store.proofs.Contents.{by_rows, no_entries as no_lists, none_held}
use Rattle.store.proofs.FormLaws.{or_none}
use Rattle.store.proofs.Order.{all_pairs_across, all_pairs_append, all_pairs_cons, all_pairs_nil}
use Rattle.store.proofs.StoreLaws.{rows_in}

-- the lists have the entries of some of the first k parts, which are all there in the rows from first up to before past
pub record AreChosen (rows cols first past : ℕ) (parts : List Stored) (k : ℕ) (lists : FiberLists) : Type 0 where
  pub chosen : List Stored
  pub flat : AreFlat lists.ends.items lists.inner.items lists.words.items
  pub entries : entries_in lists ≡ entries_in_parts chosen
  pub each : All (IsPart rows cols) chosen
  pub apart : AllPairs IsAbove chosen
  pub above : (m : ℕ) (d : Stored) → k ≤ m → m < length parts → All (λ s. IsAbove s (get_or parts m d)) chosen
  pub words : (i j : ℕ) → first ≤ i → i < past
      → word_at (entries_in_parts chosen) i j ≡ word_at (entries_in_parts (take k parts)) i j

pub chosen_start : (rows cols first past : ℕ) (parts : List Stored) (lists : FiberLists) → lists.ends.items ≡ []
    → lists.inner.items ≡ [] → lists.words.items ≡ [] → AreChosen rows cols first past parts 0 lists
chosen_start rows cols first past parts lists ends inner words = record {
  chosen = [];
  flat = rw (ends, inner, words) (none_held 0 0 0).flat;
  entries = no_lists 0 lists.ends.items lists.inner.items lists.words.items ends;
  each = All-nil (IsPart rows cols);
  apart = all_pairs_nil IsAbove;
  above = λ m d high inside. All-nil (λ s. IsAbove s (get_or parts m d));
  words = λ i j low high. refl;
}

-- a part that has no entry in the rows is left out
pub chosen_without : (rows cols first past : ℕ) (parts : List Stored) (k : ℕ) (d : Stored) (lists : FiberLists)
    → AreChosen rows cols first past parts k lists → k < length parts
    → ((i j : ℕ) → first ≤ i → i < past → content_of (get_or parts k d) i j ≡ None)
    → AreChosen rows cols first past parts (k + 1) lists
chosen_without rows cols first past parts k d lists are within none = record {
  chosen = are.chosen;
  flat = are.flat;
  entries = are.entries;
  each = are.each;
  apart = are.apart;
  above = λ m e high inside. are.above m e (omega arith) inside;
  words = λ i j low high.
      let before = word_at (entries_in_parts (take k parts)) i j in
      are.words i j low high
      ∙ sym (ap (λ es. word_at es i j) (parts_more parts k d within)
      ∙ word_append i j (entries_in_parts (take k parts)) (get_or parts k d).entries
      ∙ ap (option_or before) (none i j low high) ∙ or_none before);
}

-- ..and another one comes behind those that are there
more_apart : (rows cols first past : ℕ) (parts : List Stored) (k : ℕ) (part : Stored) (lists : FiberLists)
    → k < length parts → part ≡ get_or parts k part → (are : AreChosen rows cols first past parts k lists)
    → AllPairs IsAbove (are.chosen ++ part ∷ [])
more_apart rows cols first past parts k part lists within is are =
    all_pairs_append IsAbove are.chosen (part ∷ []) are.apart
    (all_pairs_cons IsAbove part [] (All-nil (IsAbove part)) (all_pairs_nil IsAbove))
    (All-weaker (λ s. IsAbove s (get_or parts k part)) (λ s. All (IsAbove s) (part ∷ []))
    (λ s above. All-cons (IsAbove s) part [] (subst (IsAbove s) (sym is) above) (All-nil (IsAbove s)))
    are.chosen (are.above k part (omega arith) within))

pub chosen_order : (rows cols first past : ℕ) (parts : List Stored) (k : ℕ) (part : Stored) (lists : FiberLists)
    → AreParts rows cols parts → AreChosen rows cols first past parts k lists → k < length parts
    → part ≡ get_or parts k part → All (λ e. All (Precedes e) part.entries) (entries_in lists)
chosen_order rows cols first past parts k part lists whole are within is =
    let here : IsPart rows cols part = subst (IsPart rows cols) (sym is) (whole.each k part within) in
    let up = parts_stored rows cols (are.chosen ++ part ∷ []) (All-push (IsPart rows cols) are.chosen part are.each here) (more_apart rows cols first past parts k part lists within is are) in
    subst (All (λ e. All (Precedes e) part.entries)) (sym are.entries)
    (all_pairs_across Precedes (entries_in_parts are.chosen) part.entries (subst InOrder (parts_push are.chosen part) up.order))

pub chosen_with : (rows cols first past : ℕ) (parts : List Stored) (k : ℕ) (part : Stored) (old new : FiberLists)
    → AreParts rows cols parts → AreChosen rows cols first past parts k old → k < length parts
    → part ≡ get_or parts k part → AreFlat new.ends.items new.inner.items new.words.items
    → entries_in new ≡ entries_in old ++ part.entries → AreChosen rows cols first past parts (k + 1) new
chosen_with rows cols first past parts k part old new whole are within is flat put =
    let here : IsPart rows cols part = subst (IsPart rows cols) (sym is) (whole.each k part within) in
    record {
      chosen = are.chosen ++ part ∷ [];
      flat = flat;
      entries = put ∙ ap (λ es. es ++ part.entries) are.entries ∙ sym (parts_push are.chosen part);
      each = All-push (IsPart rows cols) are.chosen part are.each here;
      apart = more_apart rows cols first past parts k part old within is are;
      above = λ m d high inside. All-push (λ s. IsAbove s (get_or parts m d)) are.chosen part (are.above m d (omega arith) inside)
          (subst (λ s. IsAbove s (get_or parts m d)) (get_or_default parts k d part within ∙ sym is) (whole.apart k m d (omega arith) inside));
      words = λ i j low high.
          ap (λ es. word_at es i j) (parts_push are.chosen part)
          ∙ word_append i j (entries_in_parts are.chosen) part.entries
          ∙ ap (λ w. option_or w (word_at part.entries i j)) (are.words i j low high)
          ∙ ap (λ (s : Stored). option_or (word_at (entries_in_parts (take k parts)) i j) (word_at s.entries i j)) is
          ∙ sym (ap (λ es. word_at es i j) (parts_more parts k part within)
          ∙ word_append i j (entries_in_parts (take k parts)) (get_or parts k part).entries);
    }

pub chosen_held : (rows cols first past : ℕ) (parts : List Stored) (k : ℕ) (lists : FiberLists)
    → cols ≢ 1 → AreChosen rows cols first past parts k lists
    → AreHeld 0 rows cols lists.ends.items lists.inner.items lists.words.items
chosen_held rows cols first past parts k lists several are =
    let stored = parts_stored rows cols are.chosen are.each are.apart in
    record {
      flat = are.flat;
      inside = subst (λ es. AreIn 0 rows cols (along cols es)) (sym are.entries) (rows_in rows cols (entries_in_parts are.chosen) (ne_eqb cols 1 several) stored.inside);
    }

pub chosen_agrees : (rows cols first past : ℕ) (parts : List Stored) (k : ℕ) (lists : FiberLists)
    → cols ≢ 1 → AreChosen rows cols first past parts k lists → length parts ≤ k
    → AgreesIn first past (stored_as rows cols (along cols (entries_in lists))) (stored_as rows cols (entries_in_parts parts))
chosen_agrees rows cols first past parts k lists several are end = record {
  rows_are = refl;
  cols_are = refl;
  words = λ i j low high.
      ap (λ es. word_at es i j) (by_rows cols (entries_in lists) (ne_eqb cols 1 several) ∙ are.entries)
      ∙ are.words i j low high ∙ ap (λ ps. word_at (entries_in_parts ps) i j) (take_all k parts end);
}
