use Rattle.std.proofs.Common.{◌∙◌, ap, arith, map, sym, subst, List}
use Rattle.std.proofs.lemmas.List.{length-map}
use Rattle.board.specs.Falls.{KeepsReady, falls}
use Rattle.stages.specs.Progress.{Progress}
use Rattle.stages.specs.Slots.{task_of}
use Rattle.stages.specs.Stages.{progress_of}
use Rattle.board.proofs.FailLaws.{falling_skip, falls_keeps}
use Rattle.board.proofs.falling.fall.Goals as goal

pub returns-then-is_falling-clause-keeps : goal.returns-then-is_falling-clause-keeps
returns-then-is_falling-clause-keeps g c =
    subst (λ (qs : List Progress). KeepsReady (map (task_of {N = _}) c.args.slots.now) (map progress_of c.args.stages.now.items) qs) (sym c.end.ensures.progress)
    (falls_keeps _ _ c.args.number (omega (arith, c.requires.within, length-map c.args.slots.now (task_of {N = _})))
    (ap (λ l. falls (map (task_of {N = _}) c.args.slots.now) (map progress_of l) c.args.number) (sym c.deref.ensures.value) ∙ (sym c.is_falling.ensures ∙ c.if-is_falling.true)))

pub returns-else-is_falling-clause-falling : goal.returns-else-is_falling-clause-falling
returns-else-is_falling-clause-falling g c =
    falling_skip _ _ _ _ _ c.requires.falling (omega (arith, c.requires.within, length-map c.args.slots.now (task_of {N = _})))
    (ap (λ l. falls (map (task_of {N = _}) c.args.slots.now) (map progress_of l) c.args.number) (sym c.deref.ensures.value) ∙ (sym c.is_falling.ensures ∙ c.if-is_falling.false))
