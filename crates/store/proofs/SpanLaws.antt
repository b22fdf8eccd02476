-- The rows that parts of a store were made for.
use Rattle.std.proofs.Common.{◌≡◌, ◌≢◌, ℕ, ◌-◌, ◌<◌, ◌≤◌, List, [], ◌∷◌, ◌++◌, length, get_or, Option, Some, None, refl, sym, ◌∙◌, ap, subst, inl, inr, arith, length-append}
use Rattle.std.proofs.lemmas.Bool.{cases_eq, cases_lt}
use Rattle.std.proofs.lemmas.List.{get_or-append_right, get_or_append_left, get_or_default}
use Rattle.std.proofs.lemmas.List.Elements.{All-weaker}
use Rattle.model.specs.declared.entry.Entry.{Entry}
use Rattle.model.specs.Entries.{word_at}
use Rattle.store.specs.declared.blocks.RowSpan.{RowSpan}
use Rattle.store.specs.Blocks.{AreInSpans, AreParts, IsAlone, IsInSpan, IsPart, Misses, entries_in_parts}
use Rattle.store.specs.Stored.{AgreesIn, IsBlock, Stored, content_of}
use Rattle.store.proofs.BlockLaws.{AreChanged, no_parts, none_in_parts, rows_below, rows_from, stored_as, word_in_part}

pub no_spans : (rows cols : ℕ) → cols ≢ 1 → AreInSpans rows cols [] []
no_spans rows cols many = record {
  are = no_parts rows cols many;
  count = refl;
  within = λ k span part inside. absurd (omega arith);
}

-- ---- one part more

block_in_span : (first past cols : ℕ) (part : Stored) → IsBlock first past cols part.entries
    → IsInSpan (record { first = first; past = past }) part
block_in_span first past cols part block i j some =
    let inside = block.inside in
    let In : Entry → Type 0 = λ e. ((first ≤ e.row) × (e.row < past)) × (e.col < cols) in (
      rows_from part.entries i j first (All-weaker In (λ e. first ≤ e.row) (λ e p. p.0.0) part.entries inside) some,
      rows_below part.entries i j past (All-weaker In (λ e. e.row < past) (λ e p. p.0.1) part.entries inside) some,
    )

pub spans_pushed : (rows cols : ℕ) (spans : List RowSpan) (parts : List Stored) (span : RowSpan) (part : Stored)
    → AreInSpans rows cols spans parts → AreParts rows cols (parts ++ part ∷ [])
    → IsBlock span.first span.past cols part.entries → AreInSpans rows cols (spans ++ span ∷ []) (parts ++ part ∷ [])
spans_pushed rows cols spans parts span part are more block =
    let count = are.count in
    record {
      are = more;
      count = omega (arith, length-append spans (span ∷ []), length-append parts (part ∷ []));
      within = λ k s p inside. elim (cases_lt k (length parts)) [
        | inl early ↦
            rw (get_or_append_left spans (span ∷ []) s k (omega arith), get_or_append_left parts (part ∷ []) p k early)
            (are.within k s p early)
        | inr late ↦
            let last : k - length parts ≡ 0 = omega (arith, length-append parts (part ∷ [])) in
            let is_span : get_or (spans ++ span ∷ []) k s ≡ span = get_or-append_right spans (span ∷ []) (length parts) k s count late ∙ ap (λ n. get_or (span ∷ []) n s) last in
            let is_part : get_or (parts ++ part ∷ []) k p ≡ part = get_or-append_right parts (part ∷ []) (length parts) k p refl late ∙ ap (λ n. get_or (part ∷ []) n p) last in
            rw (is_span, is_part) (block_in_span span.first span.past cols part block)
      ];
    }

-- ---- a part that was changed at one position

pub spans_changed : (i j : ℕ) (o : Option ℕ) (rows cols : ℕ) (spans : List RowSpan) (parts new : List Stored)
    → AreInSpans rows cols spans parts → AreChanged i j o rows cols parts new → length new ≡ length parts
    → AreInSpans rows cols spans new
spans_changed i j o rows cols spans parts new are changed same = record {
  are = changed.are;
  count = are.count ∙ sym same;
  within = λ k span part inside p q some. are.within k span part (omega arith) p q (λ none. some (changed.less k part p q none));
}

-- ---- the only part with some rows

-- a part has no entry in rows that its span misses
pub none_missed : (first past i j : ℕ) (span : RowSpan) (part : Stored) → IsInSpan span part → Misses first past span
    → first ≤ i → i < past → content_of part i j ≡ None
none_missed first past i j span part inside misses low high =
    elim (content_of part i j) as (λ o. content_of part i j ≡ o → o ≡ None) [
      | None ↦ λ is. refl
      | Some w ↦ λ is.
          let at = inside i j (λ none. let no : Some w ≡ None = sym is ∙ none in absurd cc) in
          let low_row = at.0 in
          let high_row = at.1 in
          elim misses [
            | inl above ↦ absurd (omega arith)
            | inr below ↦ absurd (omega arith)
          ]
    ] refl

others_missed : (rows cols first past i j : ℕ) (spans : List RowSpan) (parts : List Stored) (at : ℕ)
    → AreInSpans rows cols spans parts → IsAlone first past spans at → first ≤ i → i < past
    → (k : ℕ) (span : RowSpan) (part : Stored) → k < length parts → k ≢ at → content_of (get_or parts k part) i j ≡ None
others_missed rows cols first past i j spans parts at are alone low high k span part inside other =
    let count = are.count in
    none_missed first past i j (get_or spans k span) (get_or parts k part) (are.within k span part inside)
    (alone k span (omega arith) other) low high

-- a part beside which none has some of the rows has all the entries there
pub agrees_alone : (rows cols first past : ℕ) (spans : List RowSpan) (parts : List Stored) (at : ℕ) (part : Stored)
    → AreInSpans rows cols spans parts → IsAlone first past spans at → at < length parts → part ≡ get_or parts at part
    → AgreesIn first past part (stored_as rows cols (entries_in_parts parts))
agrees_alone rows cols first past spans parts at part are alone within is =
    let here : IsPart rows cols part = subst (IsPart rows cols) (sym is) (are.are.each at part within) in
    let same : (d : Stored) → get_or parts at d ≡ part = λ d. get_or_default parts at d part within ∙ sym is in
    record {
      rows_are = here.rows_are;
      cols_are = here.cols_are;
      words = λ i j low high. elim (content_of part i j) as (λ o. content_of part i j ≡ o → content_of part i j ≡ word_at (entries_in_parts parts) i j) [
        | None ↦ λ none. none ∙ sym (none_in_parts i j parts (λ k d inside. elim (cases_eq k at) [
          | inl it ↦ ap (λ n. content_of (get_or parts n d) i j) it ∙ ap (λ s. content_of s i j) (same d) ∙ none
          | inr other ↦ others_missed rows cols first past i j spans parts at are alone low high k (record { first = 0; past = 0 }) d inside other
        ]))
        | Some w ↦ λ some. ap (λ s. content_of s i j) is ∙ sym (word_in_part i j parts at part are.are.apart within (λ d none. let no : Some w ≡ None = sym some ∙ ap (λ s. content_of s i j) (sym (same d)) ∙ none in absurd cc))
      ] refl;
    }
