use Rattle.std.proofs.Common.{◌≡◌, ◌<◌, ◌*◌, ◌+◌, ◌∷◌, ◌∙◌, [], ap, append-nil, append_assoc, arith, get_or, length, refl, subst, sym, w64}
use Rattle.std.specs.Int.{trailing_zeros}
use Rattle.std.proofs.lemmas.List.{length-append}
use Rattle.lanes.proofs.BitLaws.{AreLeft, all_left, cleared_less, lowest_cleared}
use Rattle.model.specs.Entries.{entry_at}
use Rattle.bitmap.specs.Bitmaps.{column_entries, word_in}
use Rattle.bitmap.proofs.ColumnLaws.{column_most, column_zero, next_entry, none_left, place_under}
use Rattle.bitmap.proofs.column.ColumnLists.gather_word.Goals as goal

pub loop-left-init : goal.loop-left-init
loop-left-init c = record {
  p = 0;
  are_left = all_left (get_or c.args.bits.now c.args.at 0);
  entries = rw (column_zero (word_in c.args.bits.now c.args.words.now) (64 * c.args.at)) (sym (append-nil _));
  room = refl;
}

pub bounds-words-place : goal.bounds-words-place
bounds-words-place c =
    let s = c.loop-left in
    let bits = c.args.bits.now in
    let words = c.args.words.now in
    let next = next_entry bits words c.args.at s.left s.invariant.p s.invariant.are_left c.loop-left-test.true (omega (arith, s.auto.left-fits)) in
    place_under bits words (64 * c.args.at + trailing_zeros w64 s.left) c.requires.none_behind next.2

pub push-requires : goal.push-requires
push-requires c =
    let s = c.loop-left in
    let bits = c.args.bits.now in
    let words = c.args.words.now in
    let f = word_in bits words in
    let base = 64 * c.args.at in
    let place = trailing_zeros w64 s.left in
    let next = next_entry bits words c.args.at s.left s.invariant.p s.invariant.are_left c.loop-left-test.true (omega (arith, s.auto.left-fits)) in
    let small = next.0 in
    let here = ap length s.invariant.entries ∙ length-append c.args.self.now.entries (column_entries f base s.invariant.p) in
    let more = ap length next.3 ∙ length-append (column_entries f base s.invariant.p) (entry_at (base + place) 0 (get_or words (base + place) 0) ∷ []) in
    let most = column_most f base (place + 1) 64 (omega arith) in
    let room = c.requires.room in
    let same = s.invariant.room in
    omega arith

pub loop-left-smaller : goal.loop-left-smaller
loop-left-smaller c =
    let left = c.loop-left.left in
    let fits : left < 18446744073709551616 = omega (arith, c.loop-left.auto.left-fits) in
    rw (lowest_cleared left c.loop-left-test.true fits) (cleared_less left c.loop-left-test.true fits)

pub loop-left-preserved : goal.loop-left-preserved
loop-left-preserved c =
    let s = c.loop-left in
    let here = s.invariant in
    let bits = c.args.bits.now in
    let words = c.args.words.now in
    let f = word_in bits words in
    let next = next_entry bits words c.args.at s.left here.p here.are_left c.loop-left-test.true (omega (arith, s.auto.left-fits)) in
    record {
      p = trailing_zeros w64 s.left + 1;
      are_left = rw (lowest_cleared s.left c.loop-left-test.true (omega (arith, s.auto.left-fits))) next.1;
      entries = c.push.ensures.entries ∙ rw (here.entries, next.3) (simp append_assoc);
      room = c.push.ensures.room ∙ here.room;
    }

pub returns-clause-entries : goal.returns-clause-entries
returns-clause-entries c =
    let s = c.loop-left in
    let bits = c.args.bits.now in
    let words = c.args.words.now in
    let none : s.left ≡ 0 = c.loop-left-test.false in
    let all = none_left bits words c.args.at s.invariant.p (subst (λ left. AreLeft (get_or bits c.args.at 0) left s.invariant.p) none s.invariant.are_left) in
    s.invariant.entries ∙ rw all refl
