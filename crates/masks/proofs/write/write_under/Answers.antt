-- What was there, beside what was computed inside the mask set.
use Rattle.std.proofs.Common.{◌≡◌, ◌≤◌, ◌<◌, ◌∙◌, ℕ, Some, None, true, false}
use Rattle.std.proofs.lemmas.Result.{IfOk-weaker}
use Rattle.algebra.specs.OperatorNames.{op_named}
use Rattle.store.specs.Stored.{block_content, content_of}
use Rattle.model.specs.WriteBack.{accumulated}
use Rattle.masks.specs.declared.join.Joining.TheVariants.{Accumulate}
use Rattle.masks.specs.Joins.{join_word}
use Rattle.masks.specs.Masks.{lets_word}
use Rattle.masks.specs.Writes.{written_at}
use Rattle.masks.proofs.WriteLaws.{accumulated_inside, inside_accumulated, inside_written, none_outside}
use Rattle.masks.proofs.write.write_under.Goals as goal

pub write_over-requires-clause-inside : goal.write_over-requires-clause-inside
write_over-requires-clause-inside c i j low high out =
    let is = c.in_ok-inside.ensures.words i j (rw c.in_ok-inside.ensures.first at low) (rw c.in_ok-inside.ensures.past at high) in
    none_outside (lets_word c.args.mask.test (content_of c.args.mask.store.now i j)) (block_content c.in_ok-inside.inside i j) (block_content c.args.t i j) is out

pub returns-in-None-false-clause-words : goal.returns-in-None-false-clause-words
returns-in-None-false-clause-words c =
    let t = c.args.t in
    let test = c.args.mask.test in
    let old = content_of c.args.old.now in
    let stored = content_of c.args.mask.store.now in
    let inside = c.in_ok-inside.inside in
    rw (c.in-None-false.is-0, c.in-None-false.is-1)
    (IfOk-weaker c.write_over.result (λ block. (i j : ℕ) → inside.first ≤ i → i < inside.past → block_content block i j ≡ written_at None false (lets_word test (stored i j)) (old i j) (block_content inside i j))
    (λ block. (i j : ℕ) → t.first ≤ i → i < t.past → block_content block i j ≡ written_at None false (lets_word test (stored i j)) (old i j) (block_content t i j))
    (λ block words i j low high.
    words i j (rw c.in_ok-inside.ensures.first low) (rw c.in_ok-inside.ensures.past high)
    ∙ rw (c.in_ok-inside.ensures.words i j low high) (inside_written (lets_word test (stored i j)) (old i j) (block_content t i j)))
    c.write_over.ensures.words)

pub returns-in_ok-kept-in-Some-true-clause-words : goal.returns-in_ok-kept-in-Some-true-clause-words
returns-in_ok-kept-in-Some-true-clause-words c =
    let t = c.args.t in
    let mask = c.args.mask in
    let test = mask.test in
    let old = content_of c.args.old.now in
    let stored = content_of mask.store.now in
    let inside = c.in_ok-inside.inside in
    let kept = c.in_ok-kept-in-Some-true.kept in
    let op = c.in-Some-true.op in
    rw (c.in-Some-true.is-0, c.in-Some-true.is-1)
    (IfOk-weaker c.join_blocks.result (λ block. (i j : ℕ) → inside.first ≤ i → i < inside.past → block_content block i j ≡ join_word (Accumulate op) (block_content kept i j) (block_content inside i j))
    (λ block. (i j : ℕ) → t.first ≤ i → i < t.past → block_content block i j ≡ written_at (Some (op_named op)) true (lets_word test (stored i j)) (old i j) (block_content t i j))
    (λ block words i j low high.
    words i j (rw c.in_ok-inside.ensures.first low) (rw c.in_ok-inside.ensures.past high)
    ∙ rw (c.in_ok-kept-in-Some-true.ensures.words i j (rw c.in_ok-inside.ensures.first low) (rw c.in_ok-inside.ensures.past high), c.in_ok-inside.ensures.words i j low high)
    (accumulated_inside op (lets_word test (stored i j)) (old i j) (block_content t i j)))
    c.join_blocks.ensures.words)

pub returns-in-Some-false-clause-words : goal.returns-in-Some-false-clause-words
returns-in-Some-false-clause-words c =
    let t = c.args.t in
    let test = c.args.mask.test in
    let old = content_of c.args.old.now in
    let stored = content_of c.args.mask.store.now in
    let inside = c.in_ok-inside.inside in
    let name = op_named c.in-Some-false.op in
    rw (c.in-Some-false.is-0, c.in-Some-false.is-1)
    (IfOk-weaker c.accumulate.result (λ block. (i j : ℕ) → inside.first ≤ i → i < inside.past → block_content block i j ≡ accumulated name (old i j) (block_content inside i j))
    (λ block. (i j : ℕ) → t.first ≤ i → i < t.past → block_content block i j ≡ written_at (Some name) false (lets_word test (stored i j)) (old i j) (block_content t i j))
    (λ block words i j low high.
    words i j (rw c.in_ok-inside.ensures.first low) (rw c.in_ok-inside.ensures.past high)
    ∙ rw (c.in_ok-inside.ensures.words i j low high) (inside_accumulated name (lets_word test (stored i j)) (old i j) (block_content t i j)))
    c.accumulate.ensures.words)
