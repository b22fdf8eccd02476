-- No entry stands before the first.
use Rattle.std.proofs.Common.{◌≡◌, ◌≢◌, ◌-◌, ◌^◌, ◌<◌, ◌≤◌, ◌∙◌, inl, inr, rules, sym, arith}
use Rattle.std.proofs.lemmas.Bool.{cases_lt, ne_eqb}
use Rattle.std.proofs.lemmas.List.Elements.{All-weaker}
use Rattle.model.specs.declared.entry.Entry.{Entry}
use Rattle.store.specs.Stored.{AreIn, along, content_of}
use Rattle.store.proofs.Contents.{by_rows}
use Rattle.store.proofs.PartLaws.{none_there}
use Rattle.store.proofs.RowEntries.{entries_between-inside}
use Rattle.masks.proofs.SparseLaws.{none_in_row}
use Rattle.masks.proofs.sparse.next_row.Goals as goal
use Rattle.masks.proofs.sparse.next_row.Goals.{After-fibers_near-fibers}

-- the fibers are rows
are_rows : (c : After-fibers_near-fibers) → along c.args.store.now.cols c.fibers_near-fibers.result.0.entries ≡ c.fibers_near-fibers.result.0.entries
are_rows c = by_rows c.args.store.now.cols c.fibers_near-fibers.result.0.entries (ne_eqb c.args.store.now.cols 1 c.requires.rows)

pub returns-clause-low : goal.returns-clause-low
returns-clause-low c =
    let first = c.args.first in
    let past = c.args.past in
    let cols = c.args.store.now.cols in
    let es = c.fibers_near-fibers.result.0.entries in
    let least = c.outer.result in
    let fits = c.ranges.first.fits in
    let is = c.min.ensures in
    let range = c.requires.range in
    let within : AreIn first (2 ^ 64 - 1) cols (along cols es) = rw c.fibers_near-fibers.ensures.entries (entries_between-inside first (2 ^ 64 - 1) cols (content_of c.args.store.now)) in
    let inside : AreIn first (2 ^ 64 - 1) cols es = rw (are_rows (search rules)) at within in
    elim (cases_lt least first) [
      | inl less ↦
          let none = c.outer.ensures.there (All-weaker (λ e. ((first ≤ e.row) × (e.row < 2 ^ 64 - 1)) × (e.col < cols)) (λ e. least < e.row) (λ e p. let low = p.0.0 in omega arith) es inside) in
          let greatest = c.outer.ensures.none none in
          absurd (omega arith)
      | inr up ↦ omega arith
    ]

pub returns-clause-none : goal.returns-clause-none
returns-clause-none c i j low high =
    let es = c.fibers_near-fibers.result.0.entries in
    let least = c.outer.result in
    let is = c.min.ensures in
    let fits = c.ranges.past.fits in
    let within : i < 2 ^ 64 - 1 = omega arith in
    let before : i < least = omega arith in
    sym (c.fibers_near-fibers.ensures.words i j low within)
    ∙ rw (are_rows (search rules)) (none_there i j es (All-weaker (λ (e : Entry). least ≤ e.row) (λ (e : Entry). i ≢ e.row) (λ e up same. absurd (omega arith)) es c.outer.ensures.below))

pub returns-clause-there : goal.returns-clause-there
returns-clause-there c less none =
    let es = c.fibers_near-fibers.result.0.entries in
    let least = c.outer.result in
    let fits = c.ranges.past.fits in
    let min_is = c.min.ensures in
    let is : c.min.result ≡ least = omega arith in
    let low : c.args.first ≤ least = rw is at (returns-clause-low c) in
    let within : least < 2 ^ 64 - 1 = omega arith in
    let away = none_in_row least es (λ j. let word = c.fibers_near-fibers.ensures.words least j low within in rw (are_rows (search rules)) at word ∙ rw is at (none j)) in
    let nothing = c.outer.ensures.there (λ k d inside. let up = c.outer.ensures.below k d inside in let other = away k d inside in omega arith) in
    let greatest = c.outer.ensures.none nothing in
    omega arith
