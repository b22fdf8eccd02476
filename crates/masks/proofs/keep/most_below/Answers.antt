-- From the first on each index is greater by one at least.
use Rattle.std.proofs.Common.{◌∙◌, ◌+◌, ◌<◌, length, arith}
use Rattle.std.proofs.lemmas.Int.{clamps}
use Rattle.std.proofs.lemmas.List.{get_or_default, get_or-drop, length-drop}
use Rattle.masks.proofs.FullLaws.{rise_to}
use Rattle.masks.proofs.keep.most_below.Goals as goal

pub returns-clause-left : goal.returns-clause-left
returns-clause-left c = λ k d within.
    let xs = c.args.inner.now in
    let n = c.min.result in
    let inside : n + k < length xs = omega (arith, within, length-drop n xs) in
    let far = rise_to xs 0 (n + k) c.requires.rising (omega arith) inside in
    let is = get_or-drop n xs k d ∙ get_or_default xs (n + k) d 0 inside in
    rw is (omega (arith, clamps, far, inside, c.min.ensures, c.saturating_sub-far.ensures))
