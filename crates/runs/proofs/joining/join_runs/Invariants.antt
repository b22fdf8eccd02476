use Rattle.std.proofs.Common.{◌+◌, ◌-◌, ◌<◌, drop, length}
use Rattle.std.specs.Option.{option_map}
use Rattle.std.specs.Vec.{vec_len, vec_capacity}
use Rattle.algebra.specs.OperatorNames.{op_named}
use Rattle.runs.specs.Runs.{runs_of}
use Rattle.runs.proofs.JoinLaws.{AreOpen}
use Rattle.runs.proofs.joining.join_runs.Given as goal

abbrev pub invariant-loop-entry : goal.invariant-loop-entry
invariant-loop-entry l = record {
  opened : AreOpen (option_map op_named l.joins) l.ends.items l.inner.items l.words.items l.last (drop l.entry-index l.rest) (runs_of (option_map op_named l.joins) l.entries);
  inner_room : vec_len l.inner + (length l.rest - l.entry-index) < vec_capacity l.inner;
  words_room : vec_len l.words + (length l.rest - l.entry-index) < vec_capacity l.words;
}
