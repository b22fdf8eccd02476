-- Fibers one behind the other, in lists that they fill, and the first of them.
use Rattle.std.proofs.Common.{◌≡◌, ℕ, ◌+◌, ◌-◌, ◌<◌, ◌≤◌, List, ◌∷◌, ◌++◌, length, take, drop, ◌∙◌, arith, length-take, length-drop}
use Rattle.std.specs.List.{All}
use Rattle.store.specs.declared.lists.FiberEnd.{FiberEnd}
use Rattle.store.specs.Fibers.{AreApart, Rises, entries_along, entries_from, last_end}
use Rattle.store.proofs.FlatLaws.{rises_le}
use Rattle.store.proofs.Order.{all_pairs_head, all_pairs_tail}
use Rattle.store.proofs.Places.{length_outers}
use Rattle.store.proofs.Walks.{first_fiber, rows_from}

-- fibers one behind the other, in lists that they fill
pub record AreFilled (from : ℕ) (ends : List FiberEnd) (inner words : List ℕ) : Type 0 where
  pub same_length : length words ≡ length inner
  pub rises : Rises from ends
  pub whole : last_end from ends ≡ from + length inner
  pub apart : AreApart ends

-- the first fiber of such
pub record IsFirst (from : ℕ) (r : FiberEnd) (rs : List FiberEnd) (inner words : List ℕ) : Type 0 where
  pub room : (from + (r.end - from) ≡ r.end) × (r.end - from ≤ length inner)
  pub some : 0 < length (take (r.end - from) words)
  pub lengths : length (take (r.end - from) words) ≡ length (take (r.end - from) inner)
  pub parts : entries_from from (r ∷ rs) inner words ≡ entries_along r.outer (take (r.end - from) inner)
      (take (r.end - from) words) ++ entries_from r.end rs (drop (r.end - from) inner) (drop (r.end - from) words)
  pub rest : AreFilled r.end rs (drop (r.end - from) inner) (drop (r.end - from) words)
  pub behind : All (λ e. r.outer < e.row)
      (entries_from r.end rs (drop (r.end - from) inner) (drop (r.end - from) words))

pub is_first : (from : ℕ) (r : FiberEnd) (rs : List FiberEnd) (inner words : List ℕ)
    → AreFilled from (r ∷ rs) inner words → IsFirst from r rs inner words
unfolding Rises last_end
is_first from r rs inner words h =
    let n = r.end - from in
    let low = h.rises.0 in
    let whole = h.whole in
    let same = h.same_length in
    let le = rises_le r.end rs h.rises.1 in
    let long = length_outers r.end rs h.rises.1 in
    let apart = all_pairs_head (λ (r s : FiberEnd). r.outer < s.outer) r rs h.apart in
    record {
      room = (omega arith, omega arith);
      some = omega (arith, length-take n words);
      lengths = omega (arith, length-take n words, length-take n inner);
      parts = first_fiber from r rs inner words (omega arith) same;
      rest = record {
        same_length = omega (arith, length-drop n words, length-drop n inner);
        rises = h.rises.1;
        whole = whole ∙ omega (arith, length-drop n inner);
        apart = all_pairs_tail (λ (r s : FiberEnd). r.outer < s.outer) r rs h.apart;
      };
      behind = rows_from (λ o. r.outer < o) r.end rs (drop n inner) (drop n words) apart (omega (arith, length-drop n inner)) (omega (arith, length-drop n inner, length-drop n words));
    }
