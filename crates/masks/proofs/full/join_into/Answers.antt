use Rattle.std.proofs.Common.{rules, [], ◌≡◌, ◌<◌, ◌-◌, ℕ, get_or, length}
use Rattle.std.proofs.lemmas.List.{with_items_is}
use Rattle.store.proofs.CloseLaws.{closed}
use Rattle.store.specs.Fibers.{AreFlat, entries_along, entries_in}
use Rattle.masks.specs.Joins.{IsJoinBy, both_beside}
use Rattle.masks.proofs.FullLaws.{closed_full}
use Rattle.masks.proofs.full.join_into.Goals as goal
use Rattle.masks.proofs.full.join_into.Goals.{After-drop-joined-2}

made : (c : After-drop-joined-2)
    → AreFlat c.close.new.self.ends.items c.close.new.self.inner.items c.close.new.self.words.items
    × IsJoinBy (both_beside c.args.side c.args.by) (entries_along c.args.outer c.args.full.inner.now c.args.full.words.now) (entries_along c.args.outer c.args.other.inner.now c.args.other.words.now) (entries_in c.close.new.self)
made c =
    let full = c.args.full.inner.now in
    let fw = c.args.full.words.now in
    let other = c.args.other.inner.now in
    let ow = c.args.other.words.now in
    let f = both_beside c.args.side c.args.by in
    let o = c.args.outer in
    let words = c.put_words.new.words in
    let close = c.in_ok-close.ensures in
    let inner_are : c.extend_from_slice.new.self.items ≡ full = (search rules) in
    let start : c.extend_from_slice-2.new.self.items ≡ fw = (search rules) in
    let kept = with_items_is c.extend_from_slice-2.new.self words (search rules) in
    let long : length words ≡ length full = (search rules) in
    let each : (k : ℕ) → k < length other → get_or c.deref.result.now k 0 ≡ f (get_or fw (get_or other k 0 - get_or full 0 0) 0) (get_or ow k 0) = rw c.deref.ensures.value c.in_ok-joined.ensures.words in
    let ended : c.close.new.self.ends.items ≡ closed [] o (length full) = (search rules) in
    rw (close.inner, close.words, kept, inner_are)
    (closed_full f o full words c.close.new.self.ends.items (entries_along o full fw) (entries_along o other ow) long c.requires.full_rises ended (c.put_words.ensures o f each))

pub returns-clause-flat : goal.returns-clause-flat
returns-clause-flat c = (made (search rules)).0

pub returns-clause-joined : goal.returns-clause-joined
returns-clause-joined c = (made (search rules)).1
