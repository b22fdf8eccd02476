-- Fibers of a block behind those of others.
use Rattle.std.proofs.Common.{◌≡◌, ◌∙◌, ◌+◌, ◌-◌, ◌<◌, ◌≤◌, ℕ, List, [], ◌∷◌, ◌++◌, length, map, take, drop, sym, ap, subst, inl, inr, arith, append_assoc}
use Rattle.std.specs.Global.{Vec}
use Rattle.std.specs.List.{All}
use Rattle.std.proofs.lemmas.Bool.{cases_eq}
use Rattle.std.proofs.Math.Seq.{drop-append_seam, take-append_seam}
use Rattle.std.proofs.lemmas.List.{append-nil}
use Rattle.std.proofs.lemmas.List.Elements.{All-weaker}
use Rattle.model.specs.Entries.{Precedes}
use Rattle.pieces.specs.Joints.{words_in}
use Rattle.store.specs.declared.lists.FiberEnd.{FiberEnd}
use Rattle.store.specs.Fibers.{AreFlat, AreOthers, end_on, entries_from, last_end, outer_at}
use Rattle.store.proofs.AttachLaws.{IsAttached, attach_part}
use Rattle.store.proofs.EditLaws.{ends_within}

-- one list more
pub words_more : (xs : List (Vec ℕ)) (x : Vec ℕ) → words_in (xs ++ x ∷ []) ≡ words_in xs ++ x.items
words_more [] x = append-nil x.items
words_more (y ∷ ys) x = ap (λ l. y.items ++ l) (words_more ys x) ∙ sym (append_assoc y.items (words_in ys) x.items)

-- the first fiber of a part goes on the last of others, or not
some_count : (ends part : List FiberEnd) → (count : ℕ) × AreOthers ends part count
some_count ends part =
    let n = length ends in
    elim (cases_eq n 0) [
      | inl none ↦ (
        n,
        record {
          high = omega arith;
          last = λ less. absurd (omega arith);
          some = λ less. absurd (omega arith);
          same = λ less. absurd (omega arith);
          other = λ all some part_some. absurd (omega arith);
        },
      )
      | inr some ↦ elim (cases_eq (length part) 0) [
        | inl none ↦ (
          n,
          record {
            high = omega arith;
            last = λ less. absurd (omega arith);
            some = λ less. absurd (omega arith);
            same = λ less. absurd (omega arith);
            other = λ all some part_some. absurd (omega arith);
          },
        )
        | inr part_some ↦ elim (cases_eq (outer_at ends (n - 1)) (outer_at part 0)) [
          | inl same ↦ (
            n - 1,
            record {
              high = omega arith;
              last = λ less. omega arith;
              some = λ less. omega arith;
              same = λ less. same;
              other = λ all some part_some. absurd (omega arith);
            },
          )
          | inr other ↦ (
            n,
            record {
              high = omega arith;
              last = λ less. absurd (omega arith);
              some = λ less. absurd (omega arith);
              same = λ less. absurd (omega arith);
              other = λ all some part_some. other;
            },
          )
        ]
      ]
    ]

-- fibers of a part behind others
pub attached : (ends part new : List FiberEnd) (inner words inner' words' : List ℕ) → AreFlat ends inner words
    → AreFlat part inner' words'
    → All (λ e. All (Precedes e) (entries_from 0 part inner' words')) (entries_from 0 ends inner words)
    → ((count : ℕ) → AreOthers ends part count → new ≡ take count ends ++ map (end_on (length inner)) part)
    → IsAttached new ends part inner words inner' words'
attached ends part new inner words inner' words' flat flat' order is =
    let from = length inner in
    let some = some_count ends part in
    let same : from ≡ length words = sym flat.same_length in
    let inner_front : take from (inner ++ inner') ≡ inner = take-append_seam inner inner' in
    let inner_behind : drop from (inner ++ inner') ≡ inner' = drop-append_seam inner inner' in
    let words_front : take from (words ++ words') ≡ words = rw same (take-append_seam words words') in
    let words_behind : drop from (words ++ words') ≡ words' = rw same (drop-append_seam words words') in
    let made = attach_part ends part some.0 from (inner ++ inner') (words ++ words') (rw (inner_front, words_front) flat) (rw (inner_behind, words_behind) flat') (rw (inner_front, words_front, inner_behind, words_behind) order) some.1 in
    subst (λ (es : List FiberEnd). IsAttached es ends part inner words inner' words') (sym (is some.0 some.1)) (rw (inner_front, words_front, inner_behind, words_behind) at made)

-- the ends of a part fit behind so many entries
pub ends_fit : (from most : ℕ) (part : List FiberEnd) (inner words : List ℕ) → AreFlat part inner words
    → from + length inner < most → All (λ r. r.end + from < most) part
ends_fit from most part inner words flat room =
    let whole = flat.whole in
    All-weaker (λ (r : FiberEnd). (0 < r.end) × (r.end ≤ last_end 0 part)) (λ (r : FiberEnd). r.end + from < most)
    (λ r p. let high = p.1 in omega arith) part (ends_within 0 part flat.rises)
