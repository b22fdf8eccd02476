-- The words that are set stand over those that are there.
use Rattle.std.proofs.Common.{◌≡◌, ◌∙◌, List, None, ap, map, inl, inr, arith}
use Rattle.std.proofs.lemmas.Bool.{cases_lt}
use Rattle.masks.specs.declared.join.Joining.TheVariants.{Right}
use Rattle.masks.specs.Joins.{join_word}
use Rattle.model.specs.Builds.{gathered}
use Rattle.model.specs.declared.entry.Entry.{Entry}
use Rattle.store.specs.Stored.{block_content, content_of}
use Rattle.patch.specs.Edits.{set_entry}
use Rattle.patch.proofs.EditLaws.{same_behind, sets-edited, sets_inside}
use Rattle.patch.proofs.merging.merge_sets.Goals as goal

pub block_of_sorted-requires-clause-inside : goal.block_of_sorted-requires-clause-inside
block_of_sorted-requires-clause-inside c =
    rw (c.in_ok-set_entries.ensures, c.rows-rows.ensures.rows, c.cols-cols.ensures) (sets_inside c.args.store.now.rows c.args.store.now.cols c.args.edits.now c.requires.inside)

pub returns-clause-content : goal.returns-clause-content
returns-clause-content c i j =
    let store = c.args.store.now in
    let edits = c.args.edits.now in
    let named = c.from_block-words.result in
    let word : content_of named i j ≡ gathered None (map set_entry edits) i j = c.from_block-words.ensures.content i j ∙ c.in_ok-words.ensures.words i j ∙ ap (λ (es : List Entry). gathered None es i j) c.in_ok-set_entries.ensures in
    elim (cases_lt i store.rows) [
      | inl within ↦
          let block : block_content c.in_ok-block.block i j ≡ join_word Right (content_of store i j) (content_of named i j) = c.in_ok-block.ensures.words i j (omega arith) (rw c.rows-rows.ensures.rows within) in
          c.from_block.ensures.content i j ∙ block ∙ ap (join_word Right (content_of store i j)) word
          ∙ sets-edited edits c.requires.sets (content_of store) i j
      | inr behind ↦
          let made = c.from_block.ensures in
          same_behind store.rows store.cols c.from_block.result.rows c.from_block.result.cols edits c.requires.inside (content_of store) (content_of c.from_block.result) c.rows-rows.ensures.within made.within (made.rows ∙ c.rows-rows.ensures.rows) i j behind
    ]
