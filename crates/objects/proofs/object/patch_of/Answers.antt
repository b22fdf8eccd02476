-- The edits are those that wait.
use Rattle.std.proofs.Common.{◌≡◌, rules}
use Rattle.objects.proofs.WaitingLaws.{edits-keep}
use Rattle.objects.proofs.object.patch_of.Goals as goal

pub invariant_of-result : goal.invariant_of-result
invariant_of-result g c =
    let kept = c.args.object.now in
    let same : c.extend_from_slice.new.self.items ≡ kept.edits.items = search rules in
    rw same (record { inside = kept.inside; keeps = edits-keep kept.of kept.edits.items kept.inside kept.words })
