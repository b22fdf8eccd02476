-- The edits up to the next one set entries.
use Rattle.std.proofs.Common.{◌≡◌, arith, rules, take}
use Rattle.std.proofs.lemmas.List.{take_all}
use Rattle.std.proofs.lemmas.List.Elements.{All-more}
use Rattle.patch.specs.declared.edits.Edit.TheVariants.{Set}
use Rattle.patch.specs.Edits.{IsSet}
use Rattle.patch.proofs.merging.are_sets.Goals as goal

pub loop-edit-preserved : goal.loop-edit-preserved
loop-edit-preserved c =
    All-more IsSet c.args.edits.now c.loop-edit.edit-index (Set 0 0 0) (search rules) c.loop-edit.invariant (search rules)

pub returns : goal.returns
returns c is =
    let k = c.loop-edit.edit-index in
    let whole : take k c.args.edits.now ≡ c.args.edits.now = take_all k c.args.edits.now (omega (arith, c.loop-edit-test.false)) in
    rw whole at c.loop-edit.invariant
