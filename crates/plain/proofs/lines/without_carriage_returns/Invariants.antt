use Rattle.std.proofs.Common.{◌≡◌, map, take}
use Rattle.std.specs.Str.Lines.{strip_carriage_return}
use Rattle.plain.specs.Files.{texts_in}
use Rattle.plain.proofs.lines.without_carriage_returns.Given as goal

-- the lines so far
abbrev pub invariant-loop-line : goal.invariant-loop-line
invariant-loop-line l = texts_in l.stripped.items ≡ map strip_carriage_return (texts_in (take l.line-index l.lines))
