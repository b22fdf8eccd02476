use Rattle.std.proofs.Common.{◌≡◌, ◌∙◌, false, true, not, cond, List, None, ap, map, inl, inr, arith}
use Rattle.std.proofs.lemmas.Bool.{cases_lt}
use Rattle.masks.specs.Masks.{has_word}
use Rattle.model.specs.Builds.{gathered}
use Rattle.model.specs.declared.entry.Entry.{Entry}
use Rattle.store.specs.Stored.{block_content, content_of}
use Rattle.patch.specs.Edits.{removal_entry, set_entry}
use Rattle.patch.proofs.EditLaws.{merged-edited, removals_inside, removals_order, same_behind, sets_inside}
use Rattle.patch.proofs.merging.merge_any.Goals as goal

pub block_of_sorted-requires-clause-inside : goal.block_of_sorted-requires-clause-inside
block_of_sorted-requires-clause-inside c =
    rw (c.in_ok-set_entries.ensures, c.rows-rows.ensures.rows, c.cols-cols.ensures) (sets_inside c.args.store.now.rows c.args.store.now.cols c.args.edits.now c.requires.inside)

pub block_of_sorted-requires-2-clause-order : goal.block_of_sorted-requires-2-clause-order
block_of_sorted-requires-2-clause-order c =
    rw c.in_ok-removal_entries.ensures (removals_order c.args.edits.now c.requires.order)

pub block_of_sorted-requires-2-clause-inside : goal.block_of_sorted-requires-2-clause-inside
block_of_sorted-requires-2-clause-inside c =
    rw (c.in_ok-removal_entries.ensures, c.rows-rows.ensures.rows, c.cols-cols.ensures) (removals_inside c.args.store.now.rows c.args.store.now.cols c.args.edits.now c.requires.inside)

pub returns-clause-content : goal.returns-clause-content
returns-clause-content c i j =
    let store = c.args.store.now in
    let edits = c.args.edits.now in
    let named = c.from_block-removals.result in
    let removal : content_of named i j ≡ gathered None (map removal_entry edits) i j = c.from_block-removals.ensures.content i j ∙ c.in_ok-removals.ensures.words i j ∙ ap (λ (es : List Entry). gathered None es i j) c.in_ok-removal_entries.ensures in
    let word : block_content c.in_ok-words.words i j ≡ gathered None (map set_entry edits) i j = c.in_ok-words.ensures.words i j ∙ ap (λ (es : List Entry). gathered None es i j) c.in_ok-set_entries.ensures in
    elim (cases_lt i store.rows) [
      | inl within ↦
          let past = c.in_ok-words.ensures.past ∙ c.rows-rows.ensures.rows in
          let first = c.in_ok-words.ensures.first in
          let kept : block_content c.in_ok-kept.kept i j ≡ cond (not (has_word true (content_of named i j))) (block_content c.in_ok-words.words i j) None = c.in_ok-kept.ensures.words i j (omega arith) (omega arith) in
          let kept_first = c.in_ok-kept.ensures.first in
          let kept_past = c.in_ok-kept.ensures.past in
          let block : block_content c.in_ok-block.block i j ≡ cond (has_word false (content_of named i j)) (block_content c.in_ok-kept.kept i j) (content_of store i j) = c.in_ok-block.ensures.words i j (omega arith) (omega arith) in
          c.from_block.ensures.content i j ∙ block ∙ rw (kept, removal, word) (merged-edited edits (content_of store) i j)
      | inr behind ↦
          let made = c.from_block.ensures in
          same_behind store.rows store.cols c.from_block.result.rows c.from_block.result.cols edits c.requires.inside (content_of store) (content_of c.from_block.result) c.rows-rows.ensures.within made.within (made.rows ∙ c.rows-rows.ensures.rows) i j behind
    ]
