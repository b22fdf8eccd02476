-- What is computed is written back at the positions of the mask, into what was there.
use Rattle.std.proofs.Common.{◌∙◌, refl, sym, arith}
use Rattle.calls.specs.declared.role.Role.{Role}
use Rattle.calls.specs.declared.role.Role.TheVariants.{Old, Mask}
use Rattle.calls.specs.Recipes.{known_by_role, meaning, operation_with, out_with}
use Rattle.kernel.specs.Overs.{beside}
use Rattle.kernel.specs.Spread.{computed_in, spread}
use Rattle.kernel.specs.Takes.{map_in}
use Rattle.kernel.proofs.Accepted.{straight-means}
use Rattle.kernel.proofs.MaskLaws.{landed-spread, written-masked}
use Rattle.kernel.proofs.OverLaws.{mask-cols, old-taken}
use Rattle.kernel.proofs.TakenLaws.{map-taken, meaning-is_object, whole-store}
use Rattle.model.specs.Object.{Content}
use Rattle.model.specs.Operations.{is_written_by}
use Rattle.store.specs.Stored.{Block, block_content}
use Rattle.kernel.proofs.over.computed_over.Goals as goal

pub mask_in-mask-requires : goal.mask_in-mask-requires
mask_in-mask-requires g c = c.requires.inputs Mask

pub write_into-requires-clause-past : goal.write_into-requires-clause-past
write_into-requires-clause-past g c =
    let out = c.args.accepted.now.out in
    c.in_ok-t.ensures.past_is ∙ sym (old-taken out c.args.accepted.now.operation c.args.old (c.requires.inputs Old)).rows

pub write_into-requires-clause-cols : goal.write_into-requires-clause-cols
write_into-requires-clause-cols g c =
    let out = c.args.accepted.now.out in
    c.in_ok-t.ensures.cols_are ∙ sym (old-taken out c.args.accepted.now.operation c.args.old (c.requires.inputs Old)).cols

pub write_into-requires-clause-mask : goal.write_into-requires-clause-mask
write_into-requires-clause-mask g c =
    let out = c.args.accepted.now.out in
    let old = old-taken out c.args.accepted.now.operation c.args.old (c.requires.inputs Old) in
    mask-cols c.mask_in-mask.result _ _ c.args.old.cols c.mask_in-mask.ensures.shape (sym old.cols)

pub prove_eq-unreachable-requires : goal.prove_eq-unreachable-requires
prove_eq-unreachable-requires g c =
    let old = old-taken c.args.accepted.now.out c.args.accepted.now.operation c.args.old (c.requires.inputs Old) in
    c.if-prove_eq.true (c.rows.ensures.rows ∙ c.write_into.ensures.rows ∙ old.rows ∙ sym c.rows-2.ensures)

pub returns-clause-rows : goal.returns-clause-rows
returns-clause-rows g c =
    c.write_into.ensures.rows ∙ (old-taken c.args.accepted.now.out c.args.accepted.now.operation c.args.old (c.requires.inputs Old)).rows

pub returns-clause-cols : goal.returns-clause-cols
returns-clause-cols g c =
    c.write_into.ensures.cols ∙ (old-taken c.args.accepted.now.out c.args.accepted.now.operation c.args.old (c.requires.inputs Old)).cols

pub returns-clause-content : goal.returns-clause-content
returns-clause-content g c =
    let accepted = c.args.accepted.now in
    let maps : Role → Content = λ role. map_in (beside c.args.old c.args.stores.now role) in
    let out = out_with accepted.out maps in
    let op = operation_with accepted.operation maps in
    let t = c.in_ok-t.t in
    let old = old-taken accepted.out accepted.operation c.args.old (c.requires.inputs Old) in
    let is = c.in_ok-t.ensures in
    let written = rw c.accumulator_in-accum.ensures at c.in_ok-write_into.ensures.content in
    let mask = c.mask_in-mask.result in
    let store = c.write_into.new.old in
    let object = meaning-is_object accepted.out accepted.operation maps accepted.accepted
    (λ role. map-taken (known_by_role accepted.out accepted.operation role) (beside c.args.old c.args.stores.now role) (c.requires.inputs role)) in
    let whole : Block = record { first = 0; past = store.rows; cols = store.cols; entries = store.entries } in
    whole-store accepted.out.c (meaning accepted.out accepted.operation maps) whole store object (c.write_into.ensures.rows ∙ old.rows) c.rows.ensures.within (λ i j. refl)
    (λ i j first low.
    let same = c.mask_in-mask.ensures.set maps refl i j in
    written i j (rw old.rows low)
    ∙ written-masked mask out (block_content t) (spread out op) i j same (λ inside. is.words i j (omega arith) low (same ∙ inside))
    ∙ sym (straight-means out op c.requires.straight i j ∙ landed-spread out (is_written_by out.c.shape op) (computed_in out op) i j))
