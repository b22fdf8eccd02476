-- What is computed is written back at the positions of the mask.
use Rattle.std.proofs.Common.{◌≡◌, ◌∙◌, None, ap, rules, sym}
use Rattle.std.proofs.lemmas.Result.{IfOk-weaker}
use Rattle.kernel.specs.Spread.{computed_in, spread}
use Rattle.kernel.specs.Tasks.{operation_of, out_of}
use Rattle.kernel.proofs.Accepted.{straight-means}
use Rattle.kernel.proofs.MaskLaws.{landed-spread, left-alone, written-masked}
use Rattle.masks.specs.Masks.{lets_through}
use Rattle.masks.specs.Writes.{written_at}
use Rattle.model.specs.Operations.{is_written_by}
use Rattle.store.specs.Stored.{block_content}
use Rattle.kernel.proofs.task.task_rows.Goals as goal

pub returns-clause-words : goal.returns-clause-words
returns-clause-words c =
    let task = c.args.task.now in
    let out = out_of task in
    let op = operation_of task in
    let t = c.in_ok-t.t in
    let rows = c.in_ok-t.ensures.rows in
    let lists = rw (c.first.ensures, c.past.ensures, rows.first_is, rows.past_is) at c.in_ok-old.ensures in
    let given = rw (c.get.ensures, c.accumulator_of.ensures, rows.first_is, rows.past_is) at c.write_back.ensures.words in
    let mask = c.mask_of-mask.result in
    IfOk-weaker c.write_back.result _ _
    (λ block words i j low high. words i j low high
    ∙ ap (λ old. written_at out.accum out.desc.replace (lets_through mask i j) old (block_content t i j)) (lists.words i j low high)
    ∙ written-masked mask out (block_content t) (spread out op) i j (c.mask_of-mask.ensures.set i j) (rows.words i j low high)
    ∙ sym (straight-means out op task.straight i j ∙ landed-spread out (is_written_by out.c.shape op) (computed_in out op) i j))
    given

pub returns-then-is_product-clause-words : goal.returns-then-is_product-clause-words
returns-then-is_product-clause-words c i j low high =
    let task = c.args.task.now in
    let out = out_of task in
    let op = operation_of task in
    let t = c.in_ok-t.t in
    let mask = c.mask_of-mask.result in
    let alone : out.accum ≡ None = search rules in
    let product = sym c.is_product.ensures ∙ c.if-is_product.true in
    left-alone mask out.accum out.desc.replace out.c.content (block_content t) i j alone c.if-desc.true (c.in_ok-t.ensures.under product i j low high)
    ∙ written-masked mask out (block_content t) (spread out op) i j (c.mask_of-mask.ensures.set i j) (c.in_ok-t.ensures.rows.words i j low high)
    ∙ sym (straight-means out op task.straight i j ∙ landed-spread out (is_written_by out.c.shape op) (computed_in out op) i j)
