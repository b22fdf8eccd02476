-- Outputs whose flags transpose no input.
use Rattle.std.specs.Prelude.{◌≡◌, false}
use Rattle.model.specs.declared.call.Desc.{Desc}
use Rattle.model.specs.declared.call.Out.{Out}

-- no flag transposes an input
abbrev pub IsStraight : Desc → Type 0
IsStraight desc = (desc.transpose_first ≡ false) × (desc.transpose_second ≡ false)

abbrev pub straight_desc : Desc → Desc
straight_desc desc = record desc { transpose_first = false; transpose_second = false }

abbrev pub straight_out : {K : Type 0} → Out K → Out K
straight_out out = record out { desc = straight_desc out.desc }
