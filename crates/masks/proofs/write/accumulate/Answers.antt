-- Where nothing was computed, what was there stays.
use Rattle.std.proofs.Common.{◌≡◌, ◌≤◌, ◌<◌, ◌∙◌, ℕ, ap, length, sym, arith}
use Rattle.std.proofs.lemmas.Result.{IfOk-weaker}
use Rattle.algebra.specs.OperatorNames.{op_named}
use Rattle.model.specs.WriteBack.{accumulated}
use Rattle.store.specs.Stored.{along, block_content, content_of}
use Rattle.masks.proofs.BlockLaws.{empty_fibers, no_fibers_word, no_word, some_between}
use Rattle.masks.proofs.SamePlaces.{along_twice}
use Rattle.masks.proofs.WriteLaws.{into_nothing, nothing_accumulated}
use Rattle.masks.proofs.write.accumulate.Goals as goal

pub returns-then-len-eq0-clause-words : goal.returns-then-len-eq0-clause-words
returns-then-len-eq0-clause-words c =
    let t = c.args.t in
    let old = content_of c.args.old.now in
    let none : length c.fibers.result.entries ≡ 0 = let count = c.len.ensures.count in let test = c.if-len-eq0.true in omega arith in
    let empty = empty_fibers t.cols c.fibers.result.entries t.entries none c.fibers.ensures.entries in
    IfOk-weaker c.copy_rows.result (λ block. (i j : ℕ) → c.first-first.result ≤ i → i < c.past-past.result → block_content block i j ≡ old i j)
    (λ block. (i j : ℕ) → t.first ≤ i → i < t.past → block_content block i j ≡ accumulated (op_named c.args.op) (old i j) (block_content t i j))
    (λ block words i j low high. words i j (rw c.first-first.ensures low) (rw c.past-past.ensures high) ∙ rw (no_word t.entries i j empty) (nothing_accumulated (op_named c.args.op) (old i j)))
    c.copy_rows.ensures.words

pub returns-then-len-eq0-2-clause-words : goal.returns-then-len-eq0-2-clause-words
returns-then-len-eq0-2-clause-words c i j low high =
    let t = c.args.t in
    let old = c.args.old.now in
    let es = c.fibers_in-olds.result.entries in
    let none : length es ≡ 0 = let count = c.len-2.ensures.count in let test = c.if-len-eq0-2.true in omega arith in
    into_nothing (op_named c.args.op) (content_of old i j) (block_content t i j) (no_fibers_word old.cols es i j (content_of old i j) none (c.fibers_in-olds.ensures.words i j (rw c.first-first.ensures low) (rw c.past-past.ensures high)))

pub join_over-requires : goal.join_over-requires
join_over-requires c =
    let t = c.args.t in
    let es = c.fibers-2.result.entries in
    let is : along t.cols t.entries ≡ es = ap (along t.cols) (sym c.fibers-2.ensures.entries) ∙ along_twice t.cols es in
    rw is (c.are_alike.ensures.0 c.if-are_alike.true)

pub join_rows-requires-clause-range : goal.join_rows-requires-clause-range
join_rows-requires-clause-range c =
    let t = c.args.t in
    rw (c.first-first.ensures, c.past-past.ensures) (some_between t.first t.past t.cols c.fibers.result.entries t.entries (let count = c.len.ensures.count in let test = c.if-len-eq0.false in omega arith) c.fibers.ensures.entries c.fibers.ensures.inside)
