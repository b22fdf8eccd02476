-- What is stepped over stands in front of the index.
use Rattle.std.proofs.Common.{◌≡◌, ◌≢◌, ◌∙◌, ◌<◌, ◌≤◌, ap, sym, length, inl, inr, arith}
use Rattle.std.proofs.lemmas.Bool.{cases_eq}
use Rattle.std.proofs.lemmas.List.Elements.{All-weaker}
use Rattle.model.specs.declared.entry.Entry.{Entry}
use Rattle.model.specs.Entries.{word_at}
use Rattle.store.specs.Fibers.{entries_along}
use Rattle.store.proofs.FlatLaws.{all_rows}
use Rattle.store.proofs.PartLaws.{word_before, word_behind}
use Rattle.masks.proofs.Keeps.{step_shorter}
use Rattle.masks.proofs.keep.seek.Goals as goal

pub loop-first-preserved : goal.loop-first-preserved
loop-first-preserved c =
    let p = c.split-behind.result in
    let first = c.loop-first.first in
    let less : first < c.args.outer = c.loop-first-test.true in
    let fiber = entries_along first p.0.now p.1.now in
    record {
      words = λ i j low.
          sym (word_behind i j fiber p.2.entries (All-weaker (λ (e : Entry). e.row ≡ first) (λ (e : Entry). i ≢ e.row) (λ e at same. absurd (omega arith)) fiber (all_rows first p.0.now p.1.now)))
          ∙ ap (λ es. word_at es i j) (sym c.split-behind.ensures.whole)
          ∙ c.loop-first.invariant.words i j low;
      below = c.outer-first-in-loop-first.ensures.below;
      there = c.outer-first-in-loop-first.ensures.there;
      none = c.outer-first-in-loop-first.ensures.none;
    }

pub loop-first-smaller : goal.loop-first-smaller
loop-first-smaller c =
    let p = c.split-behind.result in
    let first = c.loop-first.first in
    let less : first < c.args.outer = c.loop-first-test.true in
    let outer_fits : c.args.outer < 18446744073709551616 = c.ranges.outer.fits in
    let some : 0 < length c.loop-first.rest.entries = elim (cases_eq (length c.loop-first.rest.entries) 0) [
      | inl none ↦ let most = c.loop-first.invariant.none none in absurd (omega arith)
      | inr some ↦ omega arith
    ] in
    step_shorter first (entries_along first p.0.now p.1.now) c.loop-first.rest.entries p.2.entries c.split-behind.ensures.whole c.loop-first.invariant.there c.split-behind.ensures.behind some

pub split-requires : goal.split-requires
split-requires c = All-weaker (λ (e : Entry). c.loop-first.first ≤ e.row) (λ (e : Entry). c.args.outer ≤ e.row) (λ e low. let least = c.loop-first-test.false in omega arith) c.loop-first.rest.entries c.loop-first.invariant.below

pub returns : goal.returns
returns c =
    let p = c.split.result in
    let outer = c.args.outer in
    let fiber = entries_along outer p.0.now p.1.now in
    record {
      lengths = c.split.ensures.lengths;
      rising = c.split.ensures.rising;
      here = λ j.
          sym (word_before outer j fiber p.2.entries (All-weaker (λ (e : Entry). outer < e.row) (λ (e : Entry). outer ≢ e.row) (λ e low same. absurd (omega arith)) p.2.entries c.split.ensures.behind))
          ∙ ap (λ es. word_at es outer j) (sym c.split.ensures.whole) ∙ c.loop-first.invariant.words outer j (omega arith);
      behind = λ i j less.
          sym (word_behind i j fiber p.2.entries (All-weaker (λ (e : Entry). e.row ≡ outer) (λ (e : Entry). i ≢ e.row) (λ e at same. absurd (omega arith)) fiber (all_rows outer p.0.now p.1.now)))
          ∙ ap (λ es. word_at es i j) (sym c.split.ensures.whole) ∙ c.loop-first.invariant.words i j (omega arith);
    }
