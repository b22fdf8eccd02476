use Rattle.std.proofs.Common.{◌∙◌, ap, arith, get_or, inl, inr, sym}
use Rattle.std.proofs.lemmas.Bool.{cases_eq}
use Rattle.std.proofs.lemmas.List.{get_or_default}
use Rattle.store.specs.Stored.{content_of}
use Rattle.store.proofs.BlockLaws.{not_some}
use Rattle.store.proofs.blocks.part_with.Goals as goal

pub loop-at-init : goal.loop-at-init
loop-at-init c = λ k d low. absurd (omega arith)

pub loop-at-preserved : goal.loop-at-preserved
loop-at-preserved c = λ k d low.
    let parts = c.args.parts.now in
    let part = c.index-parts-at.result in
    elim (cases_eq k c.loop-at.at) [
      | inl same ↦
          ap (λ n. content_of (get_or parts n d) c.args.i c.args.j) same
          ∙ ap (λ s. content_of s c.args.i c.args.j) (get_or_default parts c.loop-at.at d part c.loop-at-test.true ∙ sym c.index-parts-at.is)
          ∙ sym c.get.ensures ∙ not_some c.get.result (sym c.is_some.ensures ∙ c.if-is_some.false)
      | inr other ↦ c.loop-at.invariant k d (omega arith)
    ]

pub returns : goal.returns
returns c = λ k d within. c.loop-at.invariant k d (let end = c.loop-at-test.false in omega arith)
