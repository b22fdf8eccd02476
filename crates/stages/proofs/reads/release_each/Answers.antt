use Rattle.std.proofs.Common.{◌∙◌, ℕ, ◌+◌, ◌||◌, ap, slice_get}
use Rattle.std.specs.Prelude.{slice_index}
use Rattle.std.specs.Option.{option_map}
use Rattle.stages.specs.Stages.{is_at, released_if}
use Rattle.stages.proofs.StageLaws.{released_twice}
use Rattle.stages.proofs.reads.release_each.Goals as goal

pub returns : goal.returns
returns c k =
    let u : ℕ = slice_index c.args.holds.now k + slice_index c.args.reads.now k in
    let old = is_at c.args.inputs.now.old k in
    let mask = is_at c.args.inputs.now.mask k in
    let first = is_at c.args.inputs.now.first k in
    let second = is_at c.args.inputs.now.second k in
    let start = slice_get c.args.stages.now.items k in
    (rw c.second.ensures at (c.release-4.ensures k))
    ∙ (ap (option_map (released_if second u)) ((rw c.first.ensures at (c.release-3.ensures k))
    ∙ (ap (option_map (released_if first u)) ((rw c.mask.ensures at (c.release-2.ensures k))
    ∙ (ap (option_map (released_if mask u)) (rw c.old.ensures at (c.release.ensures k)) ∙ released_twice mask old u start))
    ∙ released_twice first (old || mask) u start))
    ∙ released_twice second ((old || mask) || first) u start)
