-- A run that was refused memory before its first line.
use Rattle.std.proofs.Common.{ℕ, List, take}
use Rattle.std.specs.Prelude.{OnErr, Result, Ok, Err}
use Rattle.model.specs.Loads.{Sources, readings_in}
use Rattle.model.specs.Marks.{first_state}
use Rattle.model.specs.Poisoned.{Ran}
use Rattle.script.proofs.RunLaws.{ran-so_far, under_way-start}

-- none of its lines ran
pub none_ran : {T E : Type 0} (r : Result T E) (sources : Sources) (script out : List ℕ)
    → OnErr r ((n : ℕ) × Ran (take n (readings_in sources script)) out out)
none_ran (Ok x) sources script out = tt
none_ran (Err e) sources script out =
    ran-so_far sources script script first_state 1 out out (under_way-start sources script out)
