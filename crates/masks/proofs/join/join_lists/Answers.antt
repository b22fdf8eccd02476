-- Where one side has no entry, the other is alone.
use Rattle.std.proofs.Common.{◌≡◌, length, arith}
use Rattle.std.specs.Option.{option_map}
use Rattle.std.proofs.lemmas.Result.{IfOk-weaker}
use Rattle.store.specs.Fibers.{entries_in}
use Rattle.store.specs.Parts.{HasRows}
use Rattle.store.specs.Stored.{content_of}
use Rattle.store.proofs.RowEntries.{entries_between-inside}
use Rattle.masks.specs.Joins.{alone_of, joined}
use Rattle.masks.proofs.BlockLaws.{no_fibers_word, rows_equal}
use Rattle.masks.proofs.FewLaws.{rows_joined}
use Rattle.masks.proofs.WriteLaws.{left_only, right_only}
use Rattle.masks.proofs.join.join_lists.Goals as goal

pub returns-then-len-eq0 : goal.returns-then-len-eq0
returns-then-len-eq0 c =
    let left = content_of c.args.left.now in
    let right = content_of c.args.right.now in
    let by = c.args.by in
    let first = c.args.range.start in
    let past = c.args.range.end in
    let cols = c.args.left.now.cols in
    let b = c.fibers_in-rights in
    let none : length b.result.entries ≡ 0 = let count = c.len.ensures.count in let test = c.if-len-eq0.true in omega arith in
    IfOk-weaker c.copy_alone.result (HasRows (λ i j. option_map (alone_of by) (left i j)) first past cols) (HasRows (joined by left right) first past cols)
    (λ lists rows. rows_equal (λ i j. option_map (alone_of by) (left i j)) (joined by left right) first past cols lists rows
    (λ i j low high. left_only by (left i j) (right i j) (no_fibers_word c.args.right.now.cols b.result.entries i j (right i j) none (b.ensures.words i j low high))))
    c.copy_alone.ensures

pub returns-then-len-eq0-2 : goal.returns-then-len-eq0-2
returns-then-len-eq0-2 c =
    let left = content_of c.args.left.now in
    let right = content_of c.args.right.now in
    let by = c.args.by in
    let first = c.args.range.start in
    let past = c.args.range.end in
    let cols = c.args.left.now.cols in
    let a = c.fibers_in-lefts in
    let none : length a.result.entries ≡ 0 = let count = c.len-2.ensures.count in let test = c.if-len-eq0-2.true in omega arith in
    IfOk-weaker c.copy_alone-then-len-eq0-2.result (HasRows (λ i j. option_map (alone_of by) (right i j)) first past cols) (HasRows (joined by left right) first past cols)
    (λ lists rows. rows_equal (λ i j. option_map (alone_of by) (right i j)) (joined by left right) first past cols lists rows
    (λ i j low high. right_only by (left i j) (right i j) (no_fibers_word cols a.result.entries i j (left i j) none (a.ensures.words i j low high))))
    (rw c.requires.cols c.copy_alone-then-len-eq0-2.ensures)

pub returns-in-Some : goal.returns-in-Some
returns-in-Some c =
    let left = content_of c.args.left.now in
    let right = content_of c.args.right.now in
    let first = c.args.range.start in
    let past = c.args.range.end in
    let cols = c.args.left.now.cols in
    let a = c.fibers_in-lefts in
    let b = c.fibers_in-rights in
    let here = rw c.in-Some.is at c.in_ok-lists.ensures in
    let rows = rows_joined c.args.by left right first past cols a.result.entries b.result.entries (entries_in c.in-Some.lists) here.joined
    (rw a.ensures.entries (entries_between-inside first past cols left))
    (rw c.requires.cols (rw b.ensures.entries (entries_between-inside first past c.args.right.now.cols right)))
    a.ensures.words (rw c.requires.cols b.ensures.words) in
    record { flat = here.flat; inside = rows.0; words = rows.1 }
