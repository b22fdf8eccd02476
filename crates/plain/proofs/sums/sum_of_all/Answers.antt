-- The entries list all values.
use Rattle.std.proofs.Common.{◌≡◌, ◌∙◌, ℕ, List, ap, arith, sym}
use Rattle.std.specs.Option.{unwrap_or}
use Rattle.std.proofs.lemmas.List.{take_all}
use Rattle.algebra.specs.Monoids.{identity_of, sum_of}
use Rattle.algebra.specs.Operators.{combines_by, eval_of}
use Rattle.model.specs.Object.{cols_of, in_domain, rows_of}
use Rattle.model.proofs.EntryLaws.{all_words-entries}
use Rattle.plain.specs.Evaluated.{input_of}
use Rattle.plain.proofs.SumLaws.{entries-more}
use Rattle.plain.proofs.sums.sum_of_all.Goals as goal

pub loop-entry-preserved : goal.loop-entry-preserved
loop-entry-preserved c =
    let monoid = c.args.monoid in
    let same : monoid.op.kind ≡ combines_by monoid.kind = cc in
    entries-more (eval_of (combines_by monoid.kind) monoid.op.domain) c.deref-entry-items.result.now c.loop-entry.entry-index _
    c.loop-entry.sum c.added-sum.result (omega arith) c.loop-entry.invariant (rw same at c.added-sum.ensures)

pub returns : goal.returns
returns c =
    let monoid = c.args.monoid in
    let domain = monoid.op.domain in
    let o = input_of c.args.object in
    let sum : List ℕ → ℕ = λ words. unwrap_or (sum_of monoid.kind domain words) (identity_of monoid.kind domain) in
    let whole = take_all c.loop-entry.entry-index c.deref-entry-items.result.now (omega arith) in
    let listed = rw c.shape.ensures at c.in_ok-entries.ensures in
    c.unwrap_or.ensures
    ∙ rw (c.loop-entry.invariant, c.identity.ensures, whole, c.deref-entry-items.ensures.value, listed)
    (ap sum (sym (all_words-entries (rows_of o.shape) (cols_of o.shape) (in_domain domain o))))
