use Rattle.std.proofs.Common.{arith}
use Rattle.lines.proofs.GapLanes.{gap_lanes}
use Rattle.lines.proofs.gaps.gaps_in.Goals as goal

pub returns : goal.returns
returns c = gap_lanes c.args.bytes (omega (arith, c.fits-bytes.0)) c.fits-bytes.1
