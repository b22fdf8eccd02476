use Rattle.std.proofs.Common.{◌≡◌, ◌*◌, ◌+◌, ◌∙◌, ap, append-nil, append_assoc, arith, length, refl, sym}
use Rattle.std.proofs.lemmas.List.{length-append}
use Rattle.bitmap.specs.Bitmaps.{column_entries, word_in}
use Rattle.bitmap.proofs.ColumnLaws.{all_places, column_most, column_zero, next_places}
use Rattle.bitmap.proofs.column.ColumnLists.gather.Goals as goal

pub loop-at-init : goal.loop-at-init
loop-at-init c = record {
  entries = rw (column_zero (word_in c.args.bits.now c.args.words.now) 0) (sym (append-nil _));
  room = refl;
}

pub gather_word-requires-clause-room : goal.gather_word-requires-clause-room
gather_word-requires-clause-room c =
    let s = c.loop-at in
    let bits = c.args.bits.now in
    let words = c.args.words.now in
    let f = word_in bits words in
    let room = c.requires.room in
    let same = s.invariant.room in
    let here = ap length s.invariant.entries ∙ length-append _ (column_entries f 0 (64 * s.at)) in
    let next = ap length (next_places f s.at) ∙ length-append (column_entries f 0 (64 * s.at)) (column_entries f (64 * s.at) 64) in
    let most = column_most f 0 (64 * (s.at + 1)) (64 * length bits) (omega (arith, c.loop-at-test.true)) in
    let all = ap length (all_places bits words (64 * length bits) (omega (arith, c.requires.bits)) c.requires.none_behind) in
    omega arith

pub loop-at-preserved : goal.loop-at-preserved
loop-at-preserved c =
    let s = c.loop-at in
    let f = word_in c.args.bits.now c.args.words.now in
    record {
      entries = c.gather_word.ensures.entries ∙ rw (s.invariant.entries, next_places f s.at) (simp append_assoc);
      room = c.gather_word.ensures.room ∙ s.invariant.room;
    }

pub returns : goal.returns
returns c =
    let s = c.loop-at in
    let bits = c.args.bits.now in
    let words = c.args.words.now in
    let end : s.at ≡ length bits = omega (arith, c.loop-at-test.false) in
    s.invariant.entries ∙ rw (end, all_places bits words (64 * length bits) (omega (arith, c.requires.bits)) c.requires.none_behind) refl
