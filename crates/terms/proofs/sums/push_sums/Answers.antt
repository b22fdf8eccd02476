use Rattle.std.proofs.Common.{◌≡◌, ◌∙◌, ◌++◌, ◌∷◌, [], List, append_assoc, ap, arith, length, refl, rules, sym}
use Rattle.std.proofs.lemmas.List.{append-nil, map-append}
use Rattle.terms.specs.declared.term.Term.{Term}
use Rattle.terms.proofs.Terms.{are_sums_first, are_sums_none, step_same, step_new, last_next}
use Rattle.terms.proofs.sums.push_sums.Goals as goal
use Rattle.terms.proofs.sums.push_sums.Goals.{then-term-sum, else-term-sum}

no_terms : (ts : List Term) → length ts ≡ 0 → ts ≡ []
no_terms [] none = refl
no_terms (t ∷ ts) none = absurd (omega arith)

pub returns-in_default : goal.returns-in_default
returns-in_default c =
    let none : c.args.terms.now ≡ [] = no_terms c.args.terms.now c.in_default.ensures.cases in
    record {
      sums = [];
      are_sums = rw none (are_sums_none c.args.semiring.add.op);
      ends = refl;
      inner = sym (append-nil _);
      words = sym (append-nil _);
    }

pub loop-term-init : goal.loop-term-init
loop-term-init c =
    let whole : c.args.terms.now ≡ c.in-Some.first.now ∷ c.in-Some.rest.now = search rules in
    let long = ap length whole in
    record {
      sums = [];
      are_sums = rw whole (are_sums_first c.args.semiring.add.op c.in-Some.first.now);
      ends = refl;
      inner = sym (append-nil _);
      words = sym (append-nil _);
      inner_room = search rules;
      words_room = search rules;
      last = λ d. rw whole refl;
    }

pub loop-term-preserved : goal.loop-term-preserved
loop-term-preserved c =
    let terms = c.args.terms.now in
    let rest = c.in-Some.rest.now in
    let whole : terms ≡ c.in-Some.first.now ∷ rest = search rules in
    let here = c.loop-term.invariant in
    let sum = c.loop-term.sum in
    elim c.if-term-sum.branch [
      | then-term-sum w ↦ rw (w.lists-is, w.sum-is, w.eval.ensures) (record {
        sums = here.sums;
        are_sums = step_same c.args.semiring.add.op terms rest here.sums _ sum c.loop-term.term-index _ whole c.loop-term-test.true here.are_sums w.if-term-sum.true;
        ends = here.ends;
        inner = here.inner;
        words = here.words;
        inner_room = let room = here.inner_room in omega arith;
        words_room = let room = here.words_room in omega arith;
        last = λ d. sym w.if-term-sum.true ∙ last_next terms rest _ c.loop-term.term-index _ d whole c.loop-term-test.true;
      })
      | else-term-sum w ↦
          let push = w.push_sum.ensures in
          rw (w.lists-is, w.sum-is) (record {
            sums = here.sums ++ sum ∷ [];
            are_sums = step_new c.args.semiring.add.op terms rest here.sums _ sum c.loop-term.term-index _ whole c.loop-term-test.true c.requires here.last here.are_sums w.if-term-sum.false;
            ends = push.ends ∙ here.ends;
            inner = push.inner ∙ rw (here.inner, map-append (λ (s : Term). s.col) here.sums (sum ∷ [])) (simp append_assoc);
            words = push.words ∙ rw (here.words, map-append (λ (s : Term). s.word) here.sums (sum ∷ [])) (simp append_assoc);
            inner_room = let room = here.inner_room in let long = push.inner_length in let same = push.inner_capacity in omega arith;
            words_room = let room = here.words_room in let long = push.words_length in let same = push.words_capacity in omega arith;
            last = λ d. last_next terms rest _ c.loop-term.term-index _ d whole c.loop-term-test.true;
          })
    ]
