-- What was there, beside what was computed inside the mask set.
use Rattle.std.proofs.Common.{◌≡◌, ◌≤◌, ◌<◌, ◌∙◌, ℕ, None, not, false}
use Rattle.std.proofs.lemmas.Result.{IfOk-weaker}
use Rattle.store.specs.Stored.{block_content, content_of}
use Rattle.masks.specs.declared.join.Joining.TheVariants.{Right}
use Rattle.masks.specs.Joins.{join_word}
use Rattle.masks.specs.Masks.{has_word, lets_word}
use Rattle.masks.specs.Writes.{written_at}
use Rattle.masks.proofs.WriteLaws.{beside, complemented}
use Rattle.masks.proofs.write.write_over.Goals as goal

pub returns-clause-words : goal.returns-clause-words
returns-clause-words c =
    let inside = c.args.inside in
    let test = c.args.mask.test in
    let old = content_of c.args.old.now in
    let stored = content_of c.args.mask.store.now in
    let rest = c.in_ok-rest.rest in
    IfOk-weaker c.join_blocks.result (λ block. (i j : ℕ) → inside.first ≤ i → i < inside.past → block_content block i j ≡ join_word Right (block_content rest i j) (block_content inside i j))
    (λ block. (i j : ℕ) → inside.first ≤ i → i < inside.past → block_content block i j ≡ written_at None false (lets_word test (stored i j)) (old i j) (block_content inside i j))
    (λ block words i j low high.
    words i j low high
    ∙ rw (c.in_ok-rest.ensures.words i j low high, c.complement.ensures.store, c.complement.ensures.valued, c.complement.ensures.complement)
    (beside (lets_word test (stored i j)) (lets_word (record { valued = test.valued; complement = not test.complement }) (stored i j)) (old i j) (block_content inside i j) (complemented test.complement (has_word test.valued (stored i j))) (c.requires.inside i j low high)))
    c.join_blocks.ensures.words
