-- A block without an entry adds none.
use Rattle.std.proofs.Common.{◌≡◌, length, arith}
use Rattle.store.specs.Stored.{block_content}
use Rattle.masks.proofs.BlockLaws.{empty_fibers, no_word, some_between}
use Rattle.masks.proofs.WriteLaws.{left_alone, right_alone}
use Rattle.masks.proofs.blocks.join_blocks.Goals as goal

pub returns-then-len-eq0-clause-words : goal.returns-then-len-eq0-clause-words
returns-then-len-eq0-clause-words c i j low high =
    let right = c.args.right in
    let none : length c.fibers.result.entries ≡ 0 = let count = c.len.ensures.count in let test = c.if-len-eq0.true in omega arith in
    left_alone c.args.by (block_content c.args.left i j) (block_content right i j) c.requires.alone (no_word right.entries i j (empty_fibers right.cols c.fibers.result.entries right.entries none c.fibers.ensures.entries))

pub returns-then-len-eq0-2-clause-words : goal.returns-then-len-eq0-2-clause-words
returns-then-len-eq0-2-clause-words c i j low high =
    let left = c.args.left in
    let none : length c.fibers-2.result.entries ≡ 0 = let count = c.len-2.ensures.count in let test = c.if-len-eq0-2.true in omega arith in
    right_alone c.args.by (block_content left i j) (block_content c.args.right i j) c.requires.alone (no_word left.entries i j (empty_fibers left.cols c.fibers-2.result.entries left.entries none c.fibers-2.ensures.entries))

pub join_rows-requires-clause-range : goal.join_rows-requires-clause-range
join_rows-requires-clause-range c =
    let right = c.args.right in
    rw (c.first-first.ensures, c.past-past.ensures) (some_between right.first right.past right.cols c.fibers.result.entries right.entries (let count = c.len.ensures.count in let test = c.if-len-eq0.false in omega arith) c.fibers.ensures.entries c.fibers.ensures.inside)
