-- The bytes from one gap to a blank, or to the end, are one word.
use Rattle.std.proofs.Common.{◌∙◌, ◌++◌, ap, append_assoc, arith, map, rules, sym}
use Rattle.std.proofs.lemmas.List.{take_rest}
use Rattle.lines.proofs.GapLaws.{formed, last_plain, last_words, next_plain, next_words}
use Rattle.lines.proofs.words.add_words.Goals as goal

pub loop-gap-preserved : goal.loop-gap-preserved
loop-gap-preserved c =
    let line = c.args.line.now in
    let words = map (λ word. word.now) c.loop-gap.words.items in
    let before = c.loop-gap.invariant in
    let found = c.in-Some.ensures in
    record {
      within = omega (arith, found.within.1);
      added = rw c.in_ok-add.ensures (before.added ∙ ap (λ others. words ++ others) (next_words line c.loop-gap.start c.in-Some.gap found.within.0 found.within.1 found.inner (search rules)) ∙ sym (append_assoc words _ _));
      plain = before.plain ∙ next_plain line c.loop-gap.start c.in-Some.gap found.within.0 found.within.1 found.inner (search rules);
    }

pub returns-clause-added : goal.returns-clause-added
returns-clause-added c =
    let words = map (λ word. word.now) c.loop-gap.words.items in
    let before = c.loop-gap.invariant in
    let last = last_words c.args.line.now c.loop-gap.start c.in_default.ensures.inner in
    rw take_rest at c.in_ok-add-2.ensures ∙ sym (before.added ∙ ap (λ others. words ++ others) last)

pub returns-clause-formed : goal.returns-clause-formed
returns-clause-formed c =
    let before = c.loop-gap.invariant in
    let last = last_plain c.args.line.now c.loop-gap.start c.in_default.ensures.inner in
    formed c.args.line.now (search rules) (before.plain ∙ last)
