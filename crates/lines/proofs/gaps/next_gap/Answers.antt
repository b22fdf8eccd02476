use Rattle.std.proofs.Common.{arith, inl, inr}
use Rattle.std.proofs.lemmas.Bool.{cases_lt}
use Rattle.lines.proofs.GapLanes.{first_gap, no_gap}
use Rattle.lines.proofs.gaps.next_gap.Goals as goal

pub returns-then-gaps-ne0-clause-within : goal.returns-then-gaps-ne0-clause-within
returns-then-gaps-ne0-clause-within c =
    let found = first_gap c.args.line.now c.loop-at.at c.gaps_in-gaps.result (omega (arith, c.loop-at-test.true)) c.gaps_in-gaps.ensures (omega (arith, c.if-gaps-ne0.true)) in
    (omega (arith, c.loop-at.invariant.behind), omega (arith, found.0, c.loop-at-test.true))

pub returns-then-gaps-ne0-clause-gap : goal.returns-then-gaps-ne0-clause-gap
returns-then-gaps-ne0-clause-gap c =
    let found = first_gap c.args.line.now c.loop-at.at c.gaps_in-gaps.result (omega (arith, c.loop-at-test.true)) c.gaps_in-gaps.ensures (omega (arith, c.if-gaps-ne0.true)) in
    found.1

pub returns-then-gaps-ne0-clause-inner : goal.returns-then-gaps-ne0-clause-inner
returns-then-gaps-ne0-clause-inner c = λ k low high.
    let at = c.loop-at.at in
    let found = first_gap c.args.line.now at c.gaps_in-gaps.result (omega (arith, c.loop-at-test.true)) c.gaps_in-gaps.ensures (omega (arith, c.if-gaps-ne0.true)) in
    elim (cases_lt k at) [
      | inl before ↦ c.loop-at.invariant.inner k low before
      | inr behind ↦ found.2 k behind high
    ]

pub loop-at-preserved : goal.loop-at-preserved
loop-at-preserved c =
    let at = c.loop-at.at in
    let here = c.loop-at.invariant in
    let none = no_gap c.args.line.now at c.gaps_in-gaps.result (omega (arith, c.loop-at-test.true)) c.gaps_in-gaps.ensures (omega (arith, c.if-gaps-ne0.false)) in
    record {
      behind = omega (arith, here.behind);
      within = omega (arith, c.loop-at-test.true);
      inner = λ k low high. elim (cases_lt k at) [
        | inl before ↦ here.inner k low before
        | inr behind ↦ none k behind high
      ];
    }
