use Rattle.std.proofs.Common.{◌≡◌, ◌<◌, ◌+◌, ◌∷◌, ◌∙◌, [], append-nil, append_assoc, arith, get_or, refl, rules, subst, sym, w64}
use Rattle.std.specs.Int.{trailing_zeros}
use Rattle.std.proofs.lemmas.List.{map-append}
use Rattle.spgemm.specs.Dense.{found, word_by}
use Rattle.terms.specs.Terms.{term_at}
use Rattle.terms.specs.declared.term.Term.{Term}
use Rattle.lanes.proofs.BitLaws.{AreLeft, all_left, cleared_less, lowest_cleared, ones_behind}
use Rattle.spgemm.proofs.DenseLaws.{all_found, found_zero, next_word}
use Rattle.spgemm.proofs.dense.gather_word.Goals as goal

pub loop-left-init : goal.loop-left-init
loop-left-init c = record {
  p = 0;
  are_left = all_left c.args.bits;
  ends = refl;
  inner = rw (found_zero (word_by c.args.bits c.args.base c.args.words.now) c.args.base) (sym (append-nil _));
  words = rw (found_zero (word_by c.args.bits c.args.base c.args.words.now) c.args.base) (sym (append-nil _));
  inner_room = search rules;
  words_room = search rules;
}

pub push_sum-requires-clause-inner_room : goal.push_sum-requires-clause-inner_room
push_sum-requires-clause-inner_room c =
    let s = c.loop-left in
    let next = next_word c.args.bits s.left s.invariant.p c.args.base c.args.words.now s.invariant.are_left c.loop-left-test.true (omega (arith, s.auto.left-fits)) in
    let room = s.invariant.inner_room in
    omega (arith, ones_behind c.args.bits s.invariant.p (trailing_zeros w64 s.left) next.2 next.3)

pub push_sum-requires-clause-words_room : goal.push_sum-requires-clause-words_room
push_sum-requires-clause-words_room c =
    let s = c.loop-left in
    let next = next_word c.args.bits s.left s.invariant.p c.args.base c.args.words.now s.invariant.are_left c.loop-left-test.true (omega (arith, s.auto.left-fits)) in
    let room = s.invariant.words_room in
    omega (arith, ones_behind c.args.bits s.invariant.p (trailing_zeros w64 s.left) next.2 next.3)

pub loop-left-smaller : goal.loop-left-smaller
loop-left-smaller c =
    let left = c.loop-left.left in
    let fits : left < 18446744073709551616 = omega (arith, c.loop-left.auto.left-fits) in
    rw (lowest_cleared left c.loop-left-test.true fits) (cleared_less left c.loop-left-test.true fits)

pub loop-left-preserved : goal.loop-left-preserved
loop-left-preserved c =
    let s = c.loop-left in
    let here = s.invariant in
    let push = c.push_sum.ensures in
    let f = word_by c.args.bits c.args.base c.args.words.now in
    let before = found f c.args.base here.p in
    let place = trailing_zeros w64 s.left in
    let at = c.args.base + place in
    let t = term_at at (get_or c.args.words.now at 0) in
    let next = next_word c.args.bits s.left here.p c.args.base c.args.words.now here.are_left c.loop-left-test.true (omega (arith, s.auto.left-fits)) in
    let fewer = ones_behind c.args.bits here.p place next.2 next.3 in
    record {
      p = place + 1;
      are_left = rw (lowest_cleared s.left c.loop-left-test.true (omega (arith, s.auto.left-fits))) next.1;
      ends = push.ends ∙ here.ends;
      inner = push.inner ∙ rw (here.inner, next.4, map-append (λ (s : Term). s.col) before (t ∷ [])) (simp append_assoc);
      words = push.words ∙ rw (here.words, next.4, map-append (λ (s : Term). s.word) before (t ∷ [])) (simp append_assoc);
      inner_room = let room = here.inner_room in let long = push.inner_length in let same = push.inner_capacity in omega (arith, fewer);
      words_room = let room = here.words_room in let long = push.words_length in let same = push.words_capacity in omega (arith, fewer);
    }

pub returns-clause-inner : goal.returns-clause-inner
returns-clause-inner c =
    let s = c.loop-left in
    let none : s.left ≡ 0 = c.loop-left-test.false in
    let all = all_found c.args.bits s.invariant.p c.args.base c.args.words.now (subst (λ left. AreLeft c.args.bits left s.invariant.p) none s.invariant.are_left) in
    s.invariant.inner ∙ rw (c.in_ok-reserve.ensures.items, all) refl

pub returns-clause-words : goal.returns-clause-words
returns-clause-words c =
    let s = c.loop-left in
    let none : s.left ≡ 0 = c.loop-left-test.false in
    let all = all_found c.args.bits s.invariant.p c.args.base c.args.words.now (subst (λ left. AreLeft c.args.bits left s.invariant.p) none s.invariant.are_left) in
    s.invariant.words ∙ rw (c.in_ok-reserve-2.ensures.items, all) refl
