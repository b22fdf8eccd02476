use Rattle.std.proofs.Common.{rules, arith, ◌≡◌, ℕ, Vec, Global, IsUtf8, take, inl, inr, sym}
use Rattle.std.proofs.lemmas.Grind.{common_steps}
use Rattle.std.proofs.lemmas.List.Elements.{All-more}
use Rattle.gbrun.proofs.Faults.{IfErr-passed_on}
use Rattle.gbrun.proofs.options.texts.Goals as goal

pub returns-in_err-text-clause-err : goal.returns-in_err-text-clause-err
returns-in_err-text-clause-err c =
    IfErr-passed_on c.from_residual.result c.in_err-text.field-0.0 _ c.from_residual.ensures.1 (elim c.in_err-text.ensures.err [
      | inl gone ↦ inl gone
      | inr wrong ↦ inr (wrong.0, (c.loop-word.word-index, c.word-item.result, search rules, sym c.word-item.is, rw c.as_slice.ensures.value at wrong.1))
    ])

pub loop-word-preserved : goal.loop-word-preserved
loop-word-preserved c =
    (grind (arith, common_steps), All-more (λ (word : Vec ℕ Global). IsUtf8 word.items) c.args.words.now c.loop-word.word-index c.word-item.result (search rules) c.loop-word.invariant.1 (search rules))

pub returns-clause-utf8 : goal.returns-clause-utf8
returns-clause-utf8 c =
    let whole : take c.loop-word.word-index c.args.words.now ≡ c.args.words.now = grind (arith, common_steps) in
    rw whole at c.loop-word.invariant.1
