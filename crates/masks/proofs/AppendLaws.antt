-- The fibers that are left on a walk, put behind others.
use Rattle.std.proofs.Common.{◌≡◌, ℕ, ◌-◌, ◌+◌, ◌<◌, List, [], ◌∷◌, ◌++◌, length, take, drop, map, refl, sym, ◌∙◌, ap, arith, append_assoc, length-append}
use Rattle.std.specs.List.{All}
use Rattle.std.proofs.lemmas.List.{take_all}
use Rattle.std.proofs.Math.Seq.{drop-append_seam}
use Rattle.model.specs.Entries.{Precedes}
use Rattle.store.specs.declared.lists.FiberEnd.{FiberEnd}
use Rattle.store.specs.Fibers.{AreFlat, AreOthers, end_back, end_on, entries_from}
use Rattle.store.specs.Walks.{AreLeft}
use Rattle.store.proofs.AttachLaws.{IsAttached, attach_part, ends_fit}
use Rattle.store.proofs.CopyLaws.{copied}
use Rattle.store.proofs.Order.{all_from_map}
use Rattle.masks.proofs.Joins.{cut_behind, cut_front}

-- what was put behind so many ends
pub put_behind : (old others all : List FiberEnd) (head : FiberEnd) (count : ℕ) → count ≡ length old
    → all ≡ (old ++ head ∷ []) ++ others → take (length all - count) (drop count all) ≡ head ∷ others
put_behind old others all head count is whole =
    let back = head ∷ others in
    let parts : all ≡ old ++ back = whole ∙ append_assoc old (head ∷ []) others in
    let rest : drop count all ≡ back = rw (is, parts) (drop-append_seam old back) in
    let size : length all ≡ length old + length back = ap length parts ∙ length-append old back in
    rw rest (take_all (length all - count) back (omega arith))

-- the ends of what is left on a walk, counted from the start
abbrev pub part_of : ℕ → FiberEnd → List FiberEnd → List FiberEnd
part_of from head others = map (end_back from) (head ∷ others)

pub walk_fits : (from to most : ℕ) (head : FiberEnd) (others : List FiberEnd) (old inner all : List ℕ) (words : List ℕ)
    → AreLeft from head others inner words → 0 < length inner → to ≡ length old → all ≡ old ++ inner → length all < most
    → All (λ r. (r.end - from) + to < most) (head ∷ others)
walk_fits from to most head others old inner all words left some size whole room =
    let made = copied from head others inner words left some in
    let behind : drop (length old) all ≡ inner = cut_behind (length old) old inner all refl whole in
    let behind_words : drop (length old) (old ++ words) ≡ words = drop-append_seam old words in
    rw size
    (all_from_map (λ (r : FiberEnd). r.end + length old < most) (end_back from) (head ∷ others)
    (ends_fit (length old) (part_of from head others) all (old ++ words) most (rw (behind, behind_words) made.0) room))

-- the ends of fibers, and behind them those of what is left on a walk
pub walk_attached : (ends : List FiberEnd) (inner words : List ℕ) (from to : ℕ) (head : FiberEnd)
    (others : List FiberEnd) (inner' words' : List ℕ) (count : ℕ) → AreFlat ends inner words
    → AreLeft from head others inner' words' → 0 < length inner' → to ≡ length inner
    → All (λ e. All (Precedes e) (entries_from from (head ∷ others) inner' words')) (entries_from 0 ends inner words)
    → AreOthers ends (part_of from head others) count
    → AreFlat (take count ends ++ map (end_on to) (part_of from head others)) (inner ++ inner') (words ++ words')
    × (entries_from 0 (take count ends ++ map (end_on to) (part_of from head others)) (inner ++ inner')
    (words ++ words') ≡ entries_from 0 ends inner words ++ entries_from from (head ∷ others) inner' words')
walk_attached ends inner words from to head others inner' words' count flat left some size order counted =
    let part = part_of from head others in
    let made = copied from head others inner' words' left some in
    let all = inner ++ inner' in
    let all_words = words ++ words' in
    let size_words : to ≡ length words = size ∙ sym flat.same_length in
    let front : take to all ≡ inner = cut_front to inner inner' all size refl in
    let behind : drop to all ≡ inner' = cut_behind to inner inner' all size refl in
    let front_words : take to all_words ≡ words = cut_front to words words' all_words size_words refl in
    let behind_words : drop to all_words ≡ words' = cut_behind to words words' all_words size_words refl in
    let attached : IsAttached (take count ends ++ map (end_on to) part) ends part inner words inner' words' =
    rw (front, behind, front_words, behind_words) at
    (attach_part ends part count to all all_words (rw (front, front_words) flat) (rw (behind, behind_words) made.0) (rw (front, behind, front_words, behind_words, made.1) order) counted) in
    (attached.flat, attached.entries ∙ ap (λ es. entries_from 0 ends inner words ++ es) made.1)
