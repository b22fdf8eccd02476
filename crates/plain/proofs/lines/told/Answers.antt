-- A line is the first of those that were left.
use Rattle.std.proofs.Common.{◌≡◌, ◌<◌, [], ℕ, List, length, arith}
use Rattle.std.specs.Borrow.{Bor}
use Rattle.std.proofs.lemmas.Bool.Decides.{nat_tests}
use Rattle.plain.specs.Files.{lines_in}
use Rattle.plain.proofs.FileLaws.{told_lines-end, told_lines-next}
use Rattle.plain.proofs.lines.told.Goals as goal

-- nothing, where there is no line
no_line : Bor (List ℕ)
no_line = record { ref_ptr = (0, 0); now = [] }

pub loop-left-preserved : goal.loop-left-preserved
unfolding no_line
loop-left-preserved c =
    let some : 0 < length c.loop-left.left.now = grind (arith, nat_tests, c.loop-left-test.ensures) in
    rw (c.in_ok-push_told.ensures, c.in_ok-words.ensures) (told_lines-next (lines_in c.loop-left.told.items) _ c.loop-left.left.now no_line some c.loop-left.invariant)

pub returns : goal.returns
returns c =
    let none : length c.loop-left.left.now ≡ 0 = grind (arith, nat_tests, c.loop-left-test.ensures) in
    told_lines-end (lines_in c.loop-left.told.items) _ c.loop-left.left.now none c.loop-left.invariant
