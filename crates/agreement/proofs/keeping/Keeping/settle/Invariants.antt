-- To ask for stores and to give tickets back ends no epoch.
use Rattle.std.proofs.Common.{◌≡◌}
use Rattle.agreement.proofs.keeping.Keeping.settle.Given as goal

abbrev pub invariant-loop-ticket : goal.invariant-loop-ticket
invariant-loop-ticket g l = g.R.Runner.epoch l.self.runner ≡ g.R.Runner.epoch l.fn.self.runner
