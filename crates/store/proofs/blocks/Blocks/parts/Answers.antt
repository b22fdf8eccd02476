use Rattle.std.proofs.Common.{◌≡◌, refl}
use Rattle.std.proofs.lemmas.List.Elements.{All-weaker}
use Rattle.store.specs.Blocks.{IsPart}
use Rattle.store.proofs.BlockLaws.{words_of_parts}
use Rattle.store.proofs.blocks.Blocks.parts.Goals as goal

pub returns-clause-entries : goal.returns-clause-entries
returns-clause-entries c = rw (← c.self.view_is, c.deref.ensures.value) refl

pub returns-clause-shapes : goal.returns-clause-shapes
returns-clause-shapes c =
    let b = c.self.inside in
    rw (← c.self.view_is, c.deref.ensures.value)
    (All-weaker (IsPart b.rows b.cols) (λ s. (s.rows ≡ b.rows) × (s.cols ≡ b.cols)) (λ s part. (part.rows_are, part.cols_are)) b.parts.items c.self.invariant.are.each)

pub returns-clause-words : goal.returns-clause-words
returns-clause-words c =
    let b = c.self.inside in
    rw (← c.self.view_is, c.deref.ensures.value) (words_of_parts b.rows b.cols b.parts.items c.self.invariant.are)
