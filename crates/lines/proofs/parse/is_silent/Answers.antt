-- The first byte that is no blank tells.
use Rattle.std.proofs.Common.{refl}
use Rattle.lines.proofs.Silence.{is_silent-words}
use Rattle.lines.proofs.parse.is_silent.Goals as goal

pub returns-in-Some : goal.returns-in-Some
returns-in-Some c = rw (is_silent-words c.args.line.now, ← c.in-Some.ensures) refl

pub returns-in-None : goal.returns-in-None
returns-in-None c = rw (is_silent-words c.args.line.now, ← c.in-None.ensures) refl
