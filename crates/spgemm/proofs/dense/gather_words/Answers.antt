use Rattle.std.proofs.Common.{◌≡◌, ◌*◌, ◌<◌, ◌≤◌, ◌∙◌, ◌+◌, ◌++◌, [], ap, append-nil, append_assoc, arith, get_or, length, refl, set, sym, inl, inr, ltb}
use Rattle.std.proofs.lemmas.Bool.{cases_Bool, cases_eq}
use Rattle.std.proofs.lemmas.Bool.Decides.{nat_tests}
use Rattle.std.proofs.lemmas.List.{get_or-set_other, get_or-set_same, map-append}
use Rattle.spgemm.specs.Dense.{found, word_by, word_in}
use Rattle.terms.specs.declared.term.Term.{Term}
use Rattle.spgemm.proofs.DenseLaws.{all_before, found_next, no_bits, none_before}
use Rattle.spgemm.proofs.dense.gather_words.Goals as goal
use Rattle.spgemm.proofs.dense.gather_words.Goals.{then-here-ne0+in_ok-gather_word, else-here-ne0}

pub loop-at-init : goal.loop-at-init
loop-at-init c = record {
  ends = refl;
  inner = rw (none_before c.args.bits.now c.args.words.now c.args.span.now.start c.requires.before) (sym (append-nil _));
  words = rw (none_before c.args.bits.now c.args.words.now c.args.span.now.start c.requires.before) (sym (append-nil _));
  clear = c.requires.before;
  rest = λ k le. refl;
}

pub loop-at-preserved : goal.loop-at-preserved
loop-at-preserved c =
    let s = c.loop-at in
    let here = s.invariant in
    let bits = c.args.bits.now in
    let words = c.args.words.now in
    let f = word_in bits words in
    let word : get_or s.bits s.at 0 ≡ get_or bits s.at 0 = here.rest s.at (omega arith) in
    let g = word_by (get_or bits s.at 0) (64 * s.at) words in
    let next = found_next bits words s.at in
    let inside : s.at < length s.bits = omega (arith, c.loop-at-test.true) in
    elim c.if-here-ne0.branch [
      | then-here-ne0+in_ok-gather_word w ↦
          let put = w.in_ok-gather_word.ensures in
          rw (w.lists-is, w.bits-is) (record {
            ends = put.ends ∙ here.ends;
            inner = put.inner ∙ rw (word, here.inner, next, map-append (λ (s : Term). s.col) (found f 0 (64 * s.at)) (found g (64 * s.at) 64)) (simp append_assoc);
            words = put.words ∙ rw (word, here.words, next, map-append (λ (s : Term). s.word) (found f 0 (64 * s.at)) (found g (64 * s.at) 64)) (simp append_assoc);
            clear = λ k less.
                elim (cases_eq k s.at) [
                  | inl same ↦ ap (λ k. get_or (set s.bits s.at 0) k 0) same ∙ get_or-set_same s.bits s.at 0 0 inside
                  | inr other ↦ get_or-set_other s.bits s.at k 0 0 other ∙ here.clear k (omega arith)
                ];
            rest = λ k le. get_or-set_other s.bits s.at k 0 0 (λ e. absurd (omega arith)) ∙ here.rest k (omega arith);
          })
      | else-here-ne0 w ↦
          let none : get_or s.bits s.at 0 ≡ 0 = omega (arith, w.if-here-ne0.false) in
          let nothing : found g (64 * s.at) 64 ≡ [] = no_bits (get_or bits s.at 0) (64 * s.at) words (sym word ∙ none) in
          let same : found f 0 (64 * (s.at + 1)) ≡ found f 0 (64 * s.at) = next ∙ ap (λ ts. found f 0 (64 * s.at) ++ ts) nothing ∙ append-nil _ in
          rw (w.lists-is, w.bits-is) (record {
            ends = here.ends;
            inner = here.inner ∙ rw same refl;
            words = here.words ∙ rw same refl;
            clear = λ k less. elim (cases_eq k s.at) [ inl at ↦ ap (λ k. get_or s.bits k 0) at ∙ none | inr other ↦ here.clear k (omega arith) ];
            rest = λ k le. here.rest k (omega arith);
          })
    ]

pub returns-clause-clear : goal.returns-clause-clear
returns-clause-clear c = λ k.
    let s = c.loop-at in
    elim (cases_Bool (ltb k s.at)) [
      | inl done ↦ s.invariant.clear k (grind (arith, nat_tests))
      | inr past ↦ let le : s.at ≤ k = grind (arith, nat_tests) in s.invariant.rest k le ∙ c.requires.behind k (omega (arith, c.loop-at-test.false))
    ]

pub returns-clause-inner : goal.returns-clause-inner
returns-clause-inner c =
    let bits = c.args.bits.now in
    let words = c.args.words.now in
    let end : c.loop-at.at ≡ c.args.span.now.end = omega (arith, c.loop-at-test.false) in
    c.loop-at.invariant.inner ∙ rw (end, all_before bits words c.args.span.now.end c.requires.room c.requires.end c.requires.behind) refl

pub returns-clause-words : goal.returns-clause-words
returns-clause-words c =
    let bits = c.args.bits.now in
    let words = c.args.words.now in
    let end : c.loop-at.at ≡ c.args.span.now.end = omega (arith, c.loop-at-test.false) in
    c.loop-at.invariant.words ∙ rw (end, all_before bits words c.args.span.now.end c.requires.room c.requires.end c.requires.behind) refl
