-- Entries in order are what they make; others are summed in any order.
use Rattle.std.proofs.Common.{◌≡◌, ◌∙◌, ◌<◌, ◌≤◌, List, Some, ap, refl}
use Rattle.std.specs.List.Sorted.{IsPermutation}
use Rattle.std.proofs.lemmas.List.Sorted.{All-permutation}
use Rattle.algebra.specs.Value.{IsWordOf}
use Rattle.model.specs.Builds.{gathered}
use Rattle.model.specs.declared.entry.Entry.{Entry}
use Rattle.model.specs.Entries.{word_at}
use Rattle.model.specs.MatrixMarket.{sum_in_file}
use Rattle.store.specs.declared.lists.FiberLists.{FiberLists}
use Rattle.store.specs.Fibers.{entries_in}
use Rattle.store.specs.Tuples.{listed}
use Rattle.patch.proofs.GatherLaws.{words_in_order}
use Rattle.patch.proofs.SumLaws.{gathered-permuted}
use Rattle.patch.proofs.summing.sum_entries.Goals as goal
use Rattle.patch.proofs.summing.sum_entries.Goals.{in-Ok, in-Err+in_ok-into_lists-in-Err+in_ok-lists-in-Err}

pub sum-requires-clause-inside : goal.sum-requires-clause-inside
sum-requires-clause-inside g c =
    let permutes = rw c.in-Err.ensures.others at c.in_ok-into_lists-in-Err.ensures in
    All-permutation (λ (e : Entry). ((0 ≤ e.row) × (e.row < c.args.rows)) × (e.col < c.args.cols)) c.args.entries (listed c.in_ok-into_lists-in-Err.field-0.items) permutes c.requires.inside

pub sum-requires-clause-words : goal.sum-requires-clause-words
sum-requires-clause-words g c =
    let permutes = rw c.in-Err.ensures.others at c.in_ok-into_lists-in-Err.ensures in
    All-permutation (λ (e : Entry). IsWordOf c.args.domain e.word) c.args.entries (listed c.in_ok-into_lists-in-Err.field-0.items) permutes c.requires.words

pub returns-clause-content : goal.returns-clause-content
returns-clause-content g c i j =
    let joins = Some (sum_in_file c.args.domain) in
    let kept = c.shrink_to_fit.ensures in
    let lists = c.match-into_rows.lists in
    let same : entries_in c.shrink_to_fit.new.self ≡ entries_in lists = rw (kept.ends, kept.inner, kept.words) refl in
    c.from_block.ensures.content i j
    ∙ ap (λ (es : List Entry). word_at es i j) (c.of_rows.ensures.entries ∙ same)
    ∙ elim c.match-into_rows.branch [
      | in-Ok w ↦
          ap (λ (lists : FiberLists). word_at (entries_in lists) i j) w.lists-is
          ∙ words_in_order joins (entries_in w.in-Ok.lists) w.in-Ok.ensures.flat.order i j
          ∙ ap (λ (es : List Entry). gathered joins es i j) w.in-Ok.ensures.rows
      | in-Err+in_ok-into_lists-in-Err+in_ok-lists-in-Err w ↦
          let list = listed w.in_ok-into_lists-in-Err.field-0.items in
          let permutes : IsPermutation c.args.entries list = rw w.in-Err.ensures.others at w.in_ok-into_lists-in-Err.ensures in
          ap (λ (lists : FiberLists). word_at (entries_in lists) i j) w.lists-is
          ∙ w.in_ok-lists-in-Err.ensures.words i j
          ∙ gathered-permuted c.args.domain c.args.entries list c.requires.built_in permutes c.requires.words i j
    ]
