-- Fibers that lie flat, with one entry more behind them.
use Rattle.std.proofs.Common.{◌≡◌, ℕ, ◌+◌, ◌<◌, List, [], ◌∷◌, ◌++◌, length, take, drop, inl, inr, refl, ◌∙◌, ap, append_assoc, arith}
use Rattle.std.specs.List.{All}
use Rattle.std.proofs.Math.Seq.{drop-append_seam, take-append_seam}
use Rattle.std.proofs.lemmas.Bool.{cases_eq}
use Rattle.std.proofs.lemmas.List.{append-nil, nil_from_length}
use Rattle.std.proofs.lemmas.List.Elements.{All-append, All-cons, All-head, All-nil, All-weaker}
use Rattle.model.specs.declared.entry.Entry.{Entry}
use Rattle.model.specs.Entries.{InOrder, Precedes, entry_at}
use Rattle.store.specs.declared.lists.FiberEnd.{FiberEnd}
use Rattle.store.specs.Fibers.{AreFlat, AreOthers, end_at, entries_from, last_end, outers, Rises}
use Rattle.store.specs.Tuples.{HasEnd, IsUpTo}
use Rattle.store.proofs.AttachLaws.{IsAttached, attach_part}
use Rattle.store.proofs.Order.{all_append_right, all_pairs_across, all_pairs_cons, all_pairs_left, all_pairs_nil}

-- one entry is a fiber
one_entry : (e : Entry) → AreFlat (end_at e.row 1 ∷ []) (e.col ∷ []) (e.word ∷ [])
unfolding Rises last_end outers
one_entry e = record {
  same_length = refl;
  rises = (omega arith, tt);
  whole = refl;
  apart = all_pairs_cons (λ (r s : FiberEnd). r.outer < s.outer) (end_at e.row 1) [] (All-nil (λ (s : FiberEnd). e.row < s.outer)) (all_pairs_nil (λ (r s : FiberEnd). r.outer < s.outer));
  order = all_pairs_cons Precedes e [] (All-nil (Precedes e)) (all_pairs_nil Precedes);
}

its_entries : (e : Entry) → entries_from 0 (end_at e.row 1 ∷ []) (e.col ∷ []) (e.word ∷ []) ≡ e ∷ []
unfolding outers
its_entries e = refl

-- what stands before an entry stands before a list of it alone
before_one : (e : Entry) (es : List Entry) → All (λ f. Precedes f e) es → All (λ f. All (Precedes f) (e ∷ [])) es
before_one e es h = All-weaker (λ f. Precedes f e) (λ f. All (Precedes f) (e ∷ [])) (λ f p. All-cons (Precedes f) e [] p (All-nil (Precedes f))) es h

-- the ends of fibers behind which an entry comes
abbrev pub ends_with : List FiberEnd → ℕ → ℕ → ℕ → List FiberEnd
ends_with ends count row end = take count ends ++ end_at row end ∷ []

pub record IsOneMore (all ends : List FiberEnd) (inner words : List ℕ) (e : Entry) : Type 0 where
  pub flat : AreFlat all (inner ++ e.col ∷ []) (words ++ e.word ∷ [])
  pub entries : entries_from 0 all (inner ++ e.col ∷ [])
      (words ++ e.word ∷ []) ≡ entries_from 0 ends inner words ++ e ∷ []

attached : (ends : List FiberEnd) (inner words : List ℕ) (e : Entry) (count : ℕ) → AreFlat ends inner words
    → All (λ f. Precedes f e) (entries_from 0 ends inner words) → AreOthers ends (end_at e.row 1 ∷ []) count
    → IsAttached (ends_with ends count e.row (1 + length inner)) ends (end_at e.row 1 ∷ []) inner words (e.col ∷ [])
    (e.word ∷ [])
attached ends inner words e count flat before others =
    let part = end_at e.row 1 ∷ [] in
    let from = length inner in
    let cut : take from (inner ++ e.col ∷ []) ≡ inner = take-append_seam inner (e.col ∷ []) in
    let left : drop from (inner ++ e.col ∷ []) ≡ e.col ∷ [] = drop-append_seam inner (e.col ∷ []) in
    let same : length words ≡ from = flat.same_length in
    let cut' : take from (words ++ e.word ∷ []) ≡ words = rw (← same) (take-append_seam words (e.word ∷ [])) in
    let left' : drop from (words ++ e.word ∷ []) ≡ e.word ∷ [] = rw (← same) (drop-append_seam words (e.word ∷ [])) in
    let made = attach_part ends part count from (inner ++ e.col ∷ []) (words ++ e.word ∷ []) (rw (cut, cut') flat) (rw (left, left') (one_entry e)) (rw (cut, cut', left, left', its_entries e) (before_one e (entries_from 0 ends inner words) before)) others in
    rw (cut, cut', left, left') at made

-- which fiber goes on is told by where the part's first one is
any_end : (ends : List FiberEnd) (row end count : ℕ) → AreOthers ends (end_at row end ∷ []) count
    → AreOthers ends (end_at row 1 ∷ []) count
any_end ends row end count others = record {
  high = others.high;
  last = others.last;
  some = others.some;
  same = others.same;
  other = others.other;
}

pub one_more : (ends all : List FiberEnd) (inner words : List ℕ) (e : Entry) → AreFlat ends inner words
    → All (λ f. Precedes f e) (entries_from 0 ends inner words) → HasEnd e.row (length inner + 1) ends all
    → IsOneMore all ends inner words e
one_more ends all inner words e flat before has =
    let others = any_end ends e.row (length inner + 1) has.others has.are_others in
    let made = attached ends inner words e has.others flat before others in
    let end : 1 + length inner ≡ length inner + 1 = omega arith in
    let put : IsOneMore (ends_with ends has.others e.row (length inner + 1)) ends inner words e =
    rw (← end) (record { flat = made.flat; entries = made.entries ∙ ap (λ es. entries_from 0 ends inner words ++ es) (its_entries e) }) in
    rw has.ends put

-- ---- the last entry

pub up_to_last : (es : List Entry) (e : Entry) → All (λ f. Precedes f e) es → All (IsUpTo e.row e.col) (es ++ e ∷ [])
up_to_last es e h =
    let earlier : All (IsUpTo e.row e.col) es = All-weaker (λ f. Precedes f e) (IsUpTo e.row e.col) (λ f p. elim p [ inl less ↦ inl less | inr same ↦ inr (same.0, (let less = same.1 in omega arith)) ]) es h in
    All-append (IsUpTo e.row e.col) es (e ∷ []) earlier (All-cons (IsUpTo e.row e.col) e [] (inr (refl, omega arith)) (All-nil (IsUpTo e.row e.col)))

-- the last entry doesn't stand before its position
pub last_there : (es : List Entry) (e : Entry) → All (λ f. Precedes f (entry_at e.row e.col 0)) (es ++ e ∷ []) → ⊥
last_there es e h =
    let at : Precedes e (entry_at e.row e.col 0) = All-head (λ f. Precedes f (entry_at e.row e.col 0)) e [] (all_append_right (λ f. Precedes f (entry_at e.row e.col 0)) es (e ∷ []) h) in
    elim at [ inl less ↦ absurd (omega arith) | inr same ↦ absurd (let less = same.1 in omega arith) ]

-- what isn't in order isn't with one entry more, and an entry that doesn't go on from others isn't in order behind them
pub listed_more : (es list : List Entry) (e : Entry) → (0 < length list → InOrder (es ++ list) → ⊥)
    → (length list ≡ 0 → All (λ f. Precedes f e) es → ⊥) → InOrder (es ++ (list ++ e ∷ [])) → ⊥
listed_more es list e other first order =
    let all : InOrder ((es ++ list) ++ e ∷ []) = rw (append_assoc es list (e ∷ [])) order in
    elim (cases_eq (length list) 0) [
      | inl none ↦
          let across = all_pairs_across Precedes (es ++ list) (e ∷ []) all in
          let before : All (λ f. All (Precedes f) (e ∷ [])) es = rw (nil_from_length list none, append-nil es) at across in
          first none (All-weaker (λ f. All (Precedes f) (e ∷ [])) (λ f. Precedes f e) (λ f p. All-head (Precedes f) e [] p) es before)
      | inr some ↦ other (omega arith) (all_pairs_left Precedes (es ++ list) (e ∷ []) all)
    ]
