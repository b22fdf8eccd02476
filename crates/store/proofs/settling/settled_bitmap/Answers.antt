use Rattle.std.proofs.Common.{◌≡◌, ◌∙◌, ◌*◌, ap, sym, arith, refl, length, false, true}
use Rattle.std.proofs.Math.Bool.{and-false}
use Rattle.fitting.specs.Fitting.{has_many, may_be_bitmap}
use Rattle.store.proofs.Content.{entries_of-words}
use Rattle.store.proofs.settling.settled_bitmap.Goals as goal
use Rattle.store.proofs.settling.settled_bitmap.Goals.{then-cols-ne1-via-then-cols-ne1, then-cols-ne1-via-else-cols-ne1+then-has_many}

pub returns-then-cols-ne1-clause-settled : goal.returns-then-cols-ne1-clause-settled
returns-then-cols-ne1-clause-settled c = λ one. elim c.then-cols-ne1.branch [
  | then-cols-ne1-via-then-cols-ne1 w ↦ absurd (w.if-cols-ne1.true (c.cols.ensures ∙ one))
  | then-cols-ne1-via-else-cols-ne1+then-has_many w ↦
      let b = c.args.bitmap in
      let held = w.nvals.ensures in
      let many : has_many b.rows (length b.entries) ≡ true = rw (w.rows.ensures.rows, held.number) at (sym w.has_many.ensures ∙ w.if-has_many.true) in
      rw (entries_of-words b.rows b.cols b.entries held.order held.inside, many) refl
]

pub returns-in-Ok-clause-settled : goal.returns-in-Ok-clause-settled
returns-in-Ok-clause-settled c =
    let b = c.args.bitmap in
    let held = c.nvals.ensures in
    let one : b.cols ≡ 1 = sym c.cols.ensures ∙ c.if-cols-ne1.false in
    let few : has_many b.rows (length b.entries) ≡ false = rw (c.rows.ensures.rows, held.number) at (sym c.has_many.ensures ∙ c.if-has_many.false) in
    let times : b.rows * b.cols ≡ b.rows = ap (λ n. b.rows * n) one ∙ omega arith in
    let few' : has_many (b.rows * b.cols) (length b.entries) ≡ false = rw times few in
    rw (c.in-Ok.ensures, entries_of-words b.rows b.cols b.entries held.order held.inside, few') (and-false (may_be_bitmap b.rows b.cols))
