use Rattle.std.proofs.Common.{◌≡◌, ◌<◌, ◌≤◌, ◌+◌, ◌∷◌, ◌++◌, [], ◌/◌, arith, get_or, inl, inr, sym, subst, take}
use Rattle.std.specs.List.{All}
use Rattle.std.proofs.lemmas.List.{take_all, take_more}
use Rattle.std.proofs.lemmas.List.Elements.{All-weaker, All-push}
use Rattle.store.proofs.Order.{all_append_left, all_append_right}
use Rattle.terms.specs.declared.term.Term.{Term}
use Rattle.spgemm.proofs.span.span_of.Goals as goal

pub loop-term-preserved : goal.loop-term-preserved
loop-term-preserved c =
    let s = c.loop-term in
    let terms = c.args.terms.now in
    let t : Term = get_or terms s.term-index (record { col = 0; word = 0 }) in
    let put = c.widened-ends.ensures in
    let ends = c.widened-ends.result in
    let more : take (s.term-index + 1) terms ≡ take s.term-index terms ++ t ∷ [] = take_more terms s.term-index _ c.loop-term-test.true in
    record {
      within =
          subst (All (λ t. (ends.0 ≤ t.col) × (t.col ≤ ends.1))) (sym more)
          (All-push (λ (t : Term). (ends.0 ≤ t.col) × (t.col ≤ ends.1)) (take s.term-index terms) t
          (All-weaker (λ t. (s.ends.0 ≤ t.col) × (t.col ≤ s.ends.1)) (λ (t : Term). (ends.0 ≤ t.col) × (t.col ≤ ends.1)) (λ t at. let low = at.0 in let high = at.1 in let least = put.least in let greatest = put.greatest in (omega arith, omega arith)) (take s.term-index terms) s.invariant.within)
          (put.low, put.high));
      bound = λ words some all.
          let P : Term → Type 0 = λ t. t.col / 64 < words in
          let parts : All P (take s.term-index terms ++ t ∷ []) = subst (All P) more all in
          let before = s.invariant.bound words some (all_append_left P (take s.term-index terms) (t ∷ []) parts) in
          let last : t.col / 64 < words = all_append_right P (take s.term-index terms) (t ∷ []) parts 0 t (omega arith) in
          elim put.either [ inl is ↦ rw is before | inr is ↦ rw is last ];
    }

pub returns-clause-within : goal.returns-clause-within
returns-clause-within c =
    let s = c.loop-term in
    let span = c.words_between.result in
    let first = c.words_between.ensures.low in
    let past = c.words_between.ensures.high in
    All-weaker (λ t. (s.ends.0 ≤ t.col) × (t.col ≤ s.ends.1)) (λ t. (span.start ≤ t.col / 64) × (t.col / 64 < span.end)) (λ t at. let low = at.0 in let high = at.1 in (omega arith, omega arith)) c.args.terms.now
    (subst (All (λ t. (s.ends.0 ≤ t.col) × (t.col ≤ s.ends.1))) (take_all s.term-index c.args.terms.now (omega (arith, c.loop-term-test.false))) s.invariant.within)
