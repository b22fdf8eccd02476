-- The last part is dropped where it is empty.
use Rattle.std.proofs.Common.{refl, sym}
use Rattle.plain.proofs.FileLaws.{without_empty_last-last}
use Rattle.plain.proofs.lines.without_empty_last.Goals as goal

pub returns-then-is_empty : goal.returns-then-is_empty
returns-then-is_empty c =
    rw (c.in-Some.ensures.cases.0, without_empty_last-last c.in-Some.front.now c.in-Some.last.now, sym c.if-is_empty.ensures) refl

pub returns : goal.returns
returns c =
    rw (c.in-Some.ensures.cases.0, without_empty_last-last c.in-Some.front.now c.in-Some.last.now, sym c.if-is_empty.ensures) refl
