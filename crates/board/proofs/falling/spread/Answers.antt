use Rattle.std.proofs.Common.{◌≡◌, ℕ, arith, length, map, subst}
use Rattle.board.specs.Falling.{IsFalling}
use Rattle.stages.specs.Slots.{task_of}
use Rattle.board.proofs.falling.spread.Goals as goal

pub returns-clause-falling : goal.returns-clause-falling
returns-clause-falling g c =
    let last : c.loop-number.number ≡ length c.args.slots.now = omega arith in
    subst (λ (n : ℕ). IsFalling n (map (task_of {N = _}) c.args.slots.now) c.loop-number.stages.items c.args.holds.now c.loop-number.reads.items) last c.loop-number.invariant.0
