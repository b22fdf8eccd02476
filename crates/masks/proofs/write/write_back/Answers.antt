-- Without a store the mask set is all positions, or none.
use Rattle.std.proofs.Common.{◌≡◌, ◌≤◌, ◌<◌, ◌∙◌, ℕ, Bool, Option, true, false, refl}
use Rattle.std.specs.Option.{option_map}
use Rattle.std.proofs.lemmas.Result.{IfOk-weaker}
use Rattle.algebra.specs.OperatorNames.{op_named}
use Rattle.algebra.specs.declared.operator_names.OpName.{OpName}
use Rattle.store.specs.Stored.{block_content, content_of}
use Rattle.masks.specs.Writes.{written_at, written_by}
use Rattle.masks.proofs.write.write_back.Goals as goal

pub returns-in-Nowhere-clause-words : goal.returns-in-Nowhere-clause-words
returns-in-Nowhere-clause-words c =
    let t = c.args.t in
    let name = option_map op_named c.args.accum in
    let old = content_of c.args.old.now in
    let replace = c.args.replace in
    IfOk-weaker c.write_nowhere.result (λ block. (accum : Option OpName) (i j : ℕ) → t.first ≤ i → i < t.past → block_content block i j ≡ written_at accum replace false (old i j) (block_content t i j))
    (λ block. (i j : ℕ) → t.first ≤ i → i < t.past → block_content block i j ≡ written_by c.args.mask name replace old (block_content t) i j)
    (λ block words i j low high. words name i j low high ∙ rw c.in-Nowhere.is refl)
    c.write_nowhere.ensures.words

pub returns-in-Everywhere-clause-words : goal.returns-in-Everywhere-clause-words
returns-in-Everywhere-clause-words c =
    let t = c.args.t in
    let name = option_map op_named c.args.accum in
    let old = content_of c.args.old.now in
    IfOk-weaker c.write_all.result (λ block. (replace : Bool) (i j : ℕ) → t.first ≤ i → i < t.past → block_content block i j ≡ written_at name replace true (old i j) (block_content t i j))
    (λ block. (i j : ℕ) → t.first ≤ i → i < t.past → block_content block i j ≡ written_by c.args.mask name c.args.replace old (block_content t) i j)
    (λ block words i j low high. words c.args.replace i j low high ∙ rw c.in-Everywhere.is refl)
    c.write_all.ensures.words
