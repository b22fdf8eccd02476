-- The operator of an accepted operation's accumulator is offered.
use Rattle.std.proofs.Common.{◌∙◌, sym}
use Rattle.std.proofs.lemmas.Bool.{true≢false}
use Rattle.kernel.proofs.Accepted.{accumulator-offered}
use Rattle.kernel.proofs.over.accumulator_in.Goals as goal

pub unreachable-requires : goal.unreachable-requires
unreachable-requires c =
    let accepted = c.args.accepted.now in
    true≢false (sym (accumulator-offered accepted.out accepted.operation accepted.accepted c.in_ok-op.op c.in_ok-op.was) ∙ c.in-None.ensures)
