use Rattle.std.proofs.Common.{◌*◌, ◌+◌, ◌<◌, ◌∷◌, ◌∙◌, [], append-nil, arith, get_or, refl, rules, sym, w64}
use Rattle.std.specs.Int.{trailing_zeros}
use Rattle.bitmap.specs.Bitmaps.{row_part}
use Rattle.lanes.proofs.BitLaws.{all_left, cleared_less, lowest_cleared, ones_behind}
use Rattle.model.specs.declared.entry.Entry.{Entry}
use Rattle.model.specs.Entries.{entry_at, word_at}
use Rattle.store.proofs.RowParts.{next_entry, none_left, part_zero, put_more}
use Rattle.store.proofs.forms.append_part.Goals as goal

pub loop-left-init : goal.loop-left-init
loop-left-init c = record {
  p = 0;
  are_left = all_left c.row_from-bits.result.0;
  ends = refl;
  inner = rw (part_zero (word_at c.args.bitmap.now.entries) c.args.i (64 * c.args.part)) (sym (append-nil _));
  words = rw (part_zero (word_at c.args.bitmap.now.entries) c.args.i (64 * c.args.part)) (sym (append-nil _));
  inner_room = search rules;
  words_room = search rules;
}

pub bounds-words-bit : goal.bounds-words-bit
bounds-words-bit c =
    let s = c.loop-left in
    let next = next_entry (word_at c.args.bitmap.now.entries) c.args.i (64 * c.args.part) c.row_from-bits.result.0 s.left s.invariant.p c.row_from-bits.result.1.now c.row_from-bits.ensures.content s.invariant.are_left c.loop-left-test.true (omega (arith, s.auto.left-fits)) in
    c.row_from-bits.ensures.inside (trailing_zeros w64 s.left) next.0 next.3

pub push_reserved-requires-clause-inner_room : goal.push_reserved-requires-clause-inner_room
push_reserved-requires-clause-inner_room c =
    let s = c.loop-left in
    let next = next_entry (word_at c.args.bitmap.now.entries) c.args.i (64 * c.args.part) c.row_from-bits.result.0 s.left s.invariant.p c.row_from-bits.result.1.now c.row_from-bits.ensures.content s.invariant.are_left c.loop-left-test.true (omega (arith, s.auto.left-fits)) in
    let room = s.invariant.inner_room in
    omega (arith, ones_behind c.row_from-bits.result.0 s.invariant.p (trailing_zeros w64 s.left) next.2 next.3)

pub push_reserved-requires-clause-words_room : goal.push_reserved-requires-clause-words_room
push_reserved-requires-clause-words_room c =
    let s = c.loop-left in
    let next = next_entry (word_at c.args.bitmap.now.entries) c.args.i (64 * c.args.part) c.row_from-bits.result.0 s.left s.invariant.p c.row_from-bits.result.1.now c.row_from-bits.ensures.content s.invariant.are_left c.loop-left-test.true (omega (arith, s.auto.left-fits)) in
    let room = s.invariant.words_room in
    omega (arith, ones_behind c.row_from-bits.result.0 s.invariant.p (trailing_zeros w64 s.left) next.2 next.3)

pub loop-left-smaller : goal.loop-left-smaller
loop-left-smaller c =
    let left = c.loop-left.left in
    let fits : left < 18446744073709551616 = omega (arith, c.loop-left.auto.left-fits) in
    rw (lowest_cleared left c.loop-left-test.true fits) (cleared_less left c.loop-left-test.true fits)

pub loop-left-preserved : goal.loop-left-preserved
loop-left-preserved c =
    let s = c.loop-left in
    let here = s.invariant in
    let push = c.push_reserved.ensures in
    let map_is = word_at c.args.bitmap.now.entries in
    let first = 64 * c.args.part in
    let bits = c.row_from-bits.result.0 in
    let words = c.row_from-bits.result.1.now in
    let fits : s.left < 18446744073709551616 = omega (arith, s.auto.left-fits) in
    let before = row_part map_is c.args.i first here.p in
    let place = trailing_zeros w64 s.left in
    let e = entry_at c.args.i (first + place) (get_or words place 0) in
    let next = next_entry map_is c.args.i first bits s.left here.p words c.row_from-bits.ensures.content here.are_left c.loop-left-test.true fits in
    let fewer = ones_behind bits here.p place next.2 next.3 in
    record {
      p = place + 1;
      are_left = rw (lowest_cleared s.left c.loop-left-test.true fits) next.1;
      ends = push.ends ∙ here.ends;
      inner = put_more (λ (e : Entry). e.col) _ _ _ before (e ∷ []) (row_part map_is c.args.i first (place + 1)) here.inner next.4 push.inner;
      words = put_more (λ (e : Entry). e.word) _ _ _ before (e ∷ []) (row_part map_is c.args.i first (place + 1)) here.words next.4 push.words;
      inner_room = let room = here.inner_room in let long = push.inner_length in let same = push.inner_capacity in omega (arith, fewer);
      words_room = let room = here.words_room in let long = push.words_length in let same = push.words_capacity in omega (arith, fewer);
    }

pub returns-clause-inner : goal.returns-clause-inner
returns-clause-inner c =
    let s = c.loop-left in
    let all = none_left (word_at c.args.bitmap.now.entries) c.args.i (64 * c.args.part) c.row_from-bits.result.0 s.left s.invariant.p c.row_from-bits.result.1.now c.row_from-bits.ensures.content s.invariant.are_left c.loop-left-test.false in
    s.invariant.inner ∙ rw (c.in_ok-reserve.ensures.items, all) refl

pub returns-clause-words : goal.returns-clause-words
returns-clause-words c =
    let s = c.loop-left in
    let all = none_left (word_at c.args.bitmap.now.entries) c.args.i (64 * c.args.part) c.row_from-bits.result.0 s.left s.invariant.p c.row_from-bits.result.1.now c.row_from-bits.ensures.content s.invariant.are_left c.loop-left-test.false in
    s.invariant.words ∙ rw (c.in_ok-reserve-2.ensures.items, all) refl
