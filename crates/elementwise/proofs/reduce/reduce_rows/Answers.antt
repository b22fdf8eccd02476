-- The sums are those of the map's rows.
use Rattle.std.proofs.Common.{◌≡◌, ◌∙◌, ◌<◌, ◌≤◌, ℕ, List, ap, cond, eqb, None, false, refl, rules, sym}
use Rattle.std.specs.Option.{option_map}
use Rattle.std.proofs.lemmas.Bool.{ne_eqb}
use Rattle.std.proofs.lemmas.List.Elements.{All-weaker}
use Rattle.algebra.specs.Operators.{combines_by, eval_of}
use Rattle.algebra.specs.Monoids.{identity_of}
use Rattle.model.specs.declared.entry.Entry.{Entry}
use Rattle.model.specs.Entries.{IsInside, entries_between, word_at}
use Rattle.store.specs.Stored.{AreIn, along, content_of, transposed}
use Rattle.store.proofs.Contents.{by_rows}
use Rattle.store.proofs.RowEntries.{entries_between-inside}
use Rattle.elementwise.proofs.MappedLaws.{along-words, mapped-in, word_at-mapped}
use Rattle.elementwise.proofs.SumLaws.{column_sum_is, row_sum_is}
use Rattle.elementwise.proofs.reduce.reduce_rows.Goals as goal
use Rattle.elementwise.proofs.reduce.reduce_rows.Goals.{After-cols}

-- the entries of the range are in it
in_range : (c : After-cols)
    → AreIn c.args.range.start c.args.range.end c.args.a.now.cols (along c.args.a.now.cols c.fibers_in-fibers.result.entries)
in_range c =
    let a = c.args.a.now in
    rw c.fibers_in-fibers.ensures.entries (entries_between-inside c.args.range.start c.args.range.end a.cols (content_of a))

pub of_fibers-requires-clause-inside : goal.of_fibers-requires-clause-inside
of_fibers-requires-clause-inside c =
    let a = c.args.a.now in
    let es = c.fibers_in-fibers.result.entries in
    let one : a.cols ≡ 1 = sym c.cols.ensures ∙ c.if-cols-eq1.true in
    let f = eval_of c.args.monoid.op.kind c.args.monoid.op.domain c.identity-value.result in
    let inside : AreIn c.args.range.start c.args.range.end 1 (transposed es) = rw one at (in_range (search rules)) in
    rw (c.in_ok-lists.ensures.entries, along-words 1 f es) (mapped-in (λ _ _. f) c.args.range.start c.args.range.end 1 (transposed es) inside)

pub returns-then-cols-eq1-clause-words : goal.returns-then-cols-eq1-clause-words
returns-then-cols-eq1-clause-words c i j low high =
    let a = c.args.a.now in
    let monoid = c.args.monoid in
    let es = c.fibers_in-fibers.result.entries in
    let one : a.cols ≡ 1 = sym c.cols.ensures ∙ c.if-cols-eq1.true in
    let f = eval_of monoid.op.kind monoid.op.domain c.identity-value.result in
    let f_is : f ≡ eval_of (combines_by monoid.kind) monoid.op.domain (identity_of monoid.kind monoid.op.domain) = rw (c.identity-value.ensures, monoid.combines) refl in
    let inside : IsInside a.rows 1 (transposed es) = rw one at c.fibers_in-fibers.ensures.inside in
    let words : (k : ℕ) → word_at (transposed es) i k ≡ content_of a i k = λ k. rw one at (c.fibers_in-fibers.ensures.words i k low high) in
    ap (λ (es : List Entry). word_at es i j) (c.of_fibers.ensures.entries ∙ ap (along 1) c.in_ok-lists.ensures.entries ∙ along-words 1 f es)
    ∙ word_at-mapped (λ _ _. f) (transposed es) i j ∙ ap (λ f. option_map f (word_at (transposed es) i j)) f_is
    ∙ rw one (column_sum_is monoid a.rows (content_of a) i j es inside words)

pub of_fibers-requires-2-clause-inside : goal.of_fibers-requires-2-clause-inside
of_fibers-requires-2-clause-inside c =
    let a = c.args.a.now in
    let es = c.fibers_in-fibers.result.entries in
    let many : eqb a.cols 1 ≡ false = ne_eqb a.cols 1 (λ one. c.if-cols-eq1.false (c.cols.ensures ∙ one)) in
    let inside : AreIn c.args.range.start c.args.range.end a.cols es = rw (by_rows a.cols es many) at (in_range (search rules)) in
    c.in_ok-lists-2.ensures.inside c.args.range.start c.args.range.end
    (All-weaker (λ e. ((c.args.range.start ≤ e.row) × (e.row < c.args.range.end)) × (e.col < a.cols)) (λ e. (c.args.range.start ≤ e.row) × (e.row < c.args.range.end)) (λ e p. p.0) es inside)

pub returns-clause-words : goal.returns-clause-words
returns-clause-words c i j low high =
    let a = c.args.a.now in
    let monoid = c.args.monoid in
    let es = c.fibers_in-fibers.result.entries in
    let many : eqb a.cols 1 ≡ false = ne_eqb a.cols 1 (λ one. c.if-cols-eq1.false (c.cols.ensures ∙ one)) in
    let is : es ≡ entries_between c.args.range.start c.args.range.end a.cols (content_of a) = sym (by_rows a.cols es many) ∙ c.fibers_in-fibers.ensures.entries in
    ap (λ (es : List Entry). word_at es i j) c.of_fibers-2.ensures.entries ∙ c.in_ok-lists-2.ensures.sums i j
    ∙ ap (λ sum. cond (eqb j 0) sum None) (row_sum_is monoid c.args.range.start c.args.range.end a.cols (content_of a) i es is low high)
