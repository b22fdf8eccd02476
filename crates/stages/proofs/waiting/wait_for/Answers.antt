use Rattle.std.proofs.Common.{ℕ, Bool, map, slice_get}
use Rattle.std.proofs.lemmas.Bool.{and_from}
use Rattle.stages.specs.Progress.{is_made}
use Rattle.stages.specs.Stages.{progress_of}
use Rattle.stages.proofs.WakeLaws.{grows_then, passes_grows}
use Rattle.stages.proofs.waiting.wait_for.Goals as goal

pub returns-clause-waits : goal.returns-clause-waits
returns-clause-waits c =
    let last = c.wait_for_one-4.ensures.grows in
    let two = grows_then _ _ _ c.wait_for_one-3.ensures.grows last in
    let three = grows_then _ _ _ c.wait_for_one-2.ensures.grows two in
    let made : ℕ → Bool = λ i. is_made (slice_get (map progress_of c.args.stages.now) i) in
    and_from _ _ (passes_grows made c.args.number _ _ c.args.inputs.now.old three (rw c.old.ensures at c.in_ok-wait_for_one.ensures.waits))
    (and_from _ _ (passes_grows made c.args.number _ _ c.args.inputs.now.mask two (rw c.mask.ensures at c.in_ok-wait_for_one-2.ensures.waits))
    (and_from _ _ (passes_grows made c.args.number _ _ c.args.inputs.now.first last (rw c.first.ensures at c.in_ok-wait_for_one-3.ensures.waits))
    (rw c.second.ensures at c.in_ok-wait_for_one-4.ensures.waits)))
