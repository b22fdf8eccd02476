use Rattle.std.proofs.Common.{◌+◌, ◌≤◌, ◌<◌, length}
use Rattle.script.specs.Named.{state_in}
use Rattle.session.specs.Performed.{made_in}
use Rattle.script.proofs.RunLaws.{IsUnderWay}
use Rattle.script.proofs.running.answer_lines.Given as goal

-- the lines so far are answered, each made at most one object, and each has at least a byte
abbrev pub invariant-loop-rest : goal.invariant-loop-rest
invariant-loop-rest g l = record {
  way : IsUnderWay (g.S.Sources.held l.sources) l.script l.rest (state_in l.environment) l.number l.initial.out.items l.out.items;
  made : made_in l.environment.session < l.number;
  numbered : l.number + length l.rest ≤ length l.script + 1;
}

abbrev pub decreases-loop-rest : goal.decreases-loop-rest
decreases-loop-rest g l = length l.rest
