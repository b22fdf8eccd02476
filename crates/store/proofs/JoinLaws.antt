-- Entries in the order in which they come, with those of others behind them.
use Rattle.std.proofs.Common.{◌≡◌, ℕ, ◌<◌, List, [], ◌∷◌, ◌++◌, length, drop, get_or, inl, inr, refl, ap, append_assoc, arith}
use Rattle.std.specs.List.{All}
use Rattle.std.proofs.lemmas.Bool.{cases_eq}
use Rattle.std.proofs.lemmas.List.{append-nil, nil_from_length}
use Rattle.std.proofs.lemmas.List.Elements.{All-append, All-cons, All-head, All-weaker}
use Rattle.model.specs.declared.entry.Entry.{Entry}
use Rattle.model.specs.Entries.{InOrder, Precedes, entry_at}
use Rattle.store.specs.declared.lists.FiberEnd.{FiberEnd}
use Rattle.store.specs.Fibers.{entries_along, entries_from}
use Rattle.store.specs.Tuples.{IsFirst, IsUpTo}
use Rattle.store.proofs.Contents.{no_entries}
use Rattle.store.proofs.Order.{all_pairs_across, all_pairs_head, all_pairs_left, all_pairs_right}

-- what stands before another stands before all that this one stands before
before_both : (e f g : Entry) → Precedes e f → Precedes f g → Precedes e g
before_both e f g p q = elim p [
  | inl less ↦ elim q [ inl more ↦ inl (omega arith) | inr same ↦ inl (let rows = same.0 in omega arith) ]
  | inr same ↦ let rows = same.0 in let cols = same.1 in elim q [
    | inl more ↦ inl (omega arith)
    | inr also ↦ inr (let rows' = also.0 in omega arith, let cols' = also.1 in omega arith)
  ]
]

-- what stands before the first entry of some in order stands before all of them
pub before_first : (es more : List Entry) (e : Entry) → IsFirst e more → InOrder more → All (λ f. Precedes f e) es
    → All (λ f. All (Precedes f) more) es
before_first es more e first order h =
    let later : All (Precedes e) first.0 = all_pairs_head Precedes e first.0 (rw first.1 at order) in
    All-weaker (λ f. Precedes f e) (λ f. All (Precedes f) more) (λ f p. rw first.1 (All-cons (Precedes f) e first.0 p (All-weaker (Precedes e) (Precedes f) (λ g q. before_both f e g p q) first.0 later))) es h

pub before_its_first : (es more : List Entry) (e : Entry) → IsFirst e more → All (λ f. All (Precedes f) more) es
    → All (λ f. Precedes f e) es
before_its_first es more e first h = All-weaker (λ f. All (Precedes f) more) (λ f. Precedes f e) (λ f p. All-head (Precedes f) e first.0 (rw first.1 at p)) es h

up_to_before : (e f : Entry) (row col : ℕ) → Precedes e f → IsUpTo row col f → IsUpTo row col e
up_to_before e f row col p q = elim p [
  | inl less ↦ elim q [ inl more ↦ inl (omega arith) | inr same ↦ inl (let rows = same.0 in omega arith) ]
  | inr same ↦ let rows = same.0 in let cols = same.1 in elim q [
    | inl more ↦ inl (omega arith)
    | inr also ↦ inr (let rows' = also.0 in omega arith, let cols' = also.1 in omega arith)
  ]
]

-- all entries stand up to where the last of those behind them stands
pub up_to_others : (es more : List Entry) (row col : ℕ) → 0 < length more → All (λ e. All (Precedes e) more) es
    → All (IsUpTo row col) more → All (IsUpTo row col) (es ++ more)
up_to_others es [] row col some before h = absurd (omega arith)
up_to_others es (m ∷ ms) row col some before h =
    let first : IsUpTo row col m = All-head (IsUpTo row col) m ms h in
    let earlier : All (IsUpTo row col) es = All-weaker (λ e. All (Precedes e) (m ∷ ms)) (IsUpTo row col) (λ e p. up_to_before e m row col (All-head (Precedes e) m ms p) first) es before in
    All-append (IsUpTo row col) es (m ∷ ms) earlier h

-- entries behind rows, and then others, aren't in order if one of these parts isn't behind what stands before it
pub listed_others : (es list more others : List Entry) → (0 < length list → InOrder (es ++ list) → ⊥)
    → (length list ≡ 0 → 0 < length more → All (λ e. All (Precedes e) more) es → ⊥)
    → (0 < length others → InOrder (more ++ others) → ⊥) → 0 < length ((list ++ more) ++ others)
    → InOrder (es ++ ((list ++ more) ++ others)) → ⊥
listed_others es list more others mine apart theirs some order =
    let whole : InOrder ((es ++ list) ++ (more ++ others)) = rw (append_assoc list more others, ← append_assoc es list (more ++ others)) at order in
    elim (cases_eq (length list) 0) [
      | inl none ↦
          let no_list = nil_from_length list none in
          let rest : InOrder (es ++ (more ++ others)) = rw (no_list, append-nil es) at whole in
          elim (cases_eq (length more) 0) [
            | inl nothing ↦
                let no_more = nil_from_length more nothing in
                let some' : 0 < length others = rw (no_list, no_more) at some in
                theirs some' (all_pairs_right Precedes es (more ++ others) rest)
            | inr something ↦
                let both : InOrder ((es ++ more) ++ others) = rw (← append_assoc es more others) at rest in
                let front : InOrder (es ++ more) = all_pairs_left Precedes (es ++ more) others both in
                apart none (omega arith) (all_pairs_across Precedes es more front)
          ]
      | inr something ↦ mine (omega arith) (all_pairs_left Precedes (es ++ list) (more ++ others) whole)
    ]

-- ---- the first entry

pub row_first : (outer : ℕ) (cs ws : List ℕ) → length ws ≡ length cs → 0 < length cs
    → entries_along outer cs ws ≡ entry_at outer (get_or cs 0 0) (get_or ws 0 0) ∷ entries_along outer (drop 1 cs) (drop 1 ws)
row_first outer [] ws same some = absurd (omega arith)
row_first outer (c ∷ cs) [] same some = absurd (omega arith)
row_first outer (c ∷ cs) (w ∷ ws) same some = refl

-- where fibers have an entry, there is one
pub some_ends : (ends : List FiberEnd) (inner words : List ℕ) → 0 < length (entries_from 0 ends inner words)
    → 0 < length ends
some_ends ends inner words some = elim (cases_eq (length ends) 0) [
  | inl none ↦ absurd (let nothing = ap length (no_entries 0 ends inner words (nil_from_length ends none)) in omega arith)
  | inr others ↦ omega arith
]
