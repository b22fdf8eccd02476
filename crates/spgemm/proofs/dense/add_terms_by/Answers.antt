use Rattle.std.proofs.Common.{◌≡◌, ◌≢◌, ◌+◌, ◌/◌, ◌∷◌, ◌++◌, ◌∙◌, [], arith, get_or, subst, sym, take}
use Rattle.std.specs.List.{All}
use Rattle.std.proofs.lemmas.List.{take_more}
use Rattle.store.proofs.Order.{all_append_left, all_append_right}
use Rattle.spgemm.specs.Dense.{AreColumnSums}
use Rattle.terms.specs.declared.term.Term.{Term}
use Rattle.spgemm.proofs.DenseLaws.{clear_sums}
use Rattle.spgemm.proofs.dense.add_terms_by.Goals as goal

pub loop-term-init : goal.loop-term-init
loop-term-init c = record { sums = clear_sums c.args.semiring.add.op c.args.bits.now c.args.sums.now c.requires.none; others = λ at away. c.requires.none at }

pub loop-term-preserved : goal.loop-term-preserved
loop-term-preserved c =
    let s = c.loop-term in
    let terms = c.args.terms.now in
    let t : Term = get_or terms s.term-index (record { col = 0; word = 0 }) in
    let more : take (s.term-index + 1) terms ≡ take s.term-index terms ++ t ∷ [] = take_more terms s.term-index _ c.loop-term-test.true in
    record {
      sums = subst (λ ts. AreColumnSums c.args.semiring.add.op ts c.add_at.new.bits c.add_at.new.sums) (sym more) (c.add_at.ensures.sums (take s.term-index terms) s.invariant.sums);
      others = λ at away.
          let P : Term → Type 0 = λ t. t.col / 64 ≢ at in
          let parts : All P (take s.term-index terms ++ t ∷ []) = subst (All P) more away in
          c.add_at.ensures.others at (λ is. all_append_right P (take s.term-index terms) (t ∷ []) parts 0 t (omega arith) (sym is)) ∙ s.invariant.others at (all_append_left P (take s.term-index terms) (t ∷ []) parts);
    }
