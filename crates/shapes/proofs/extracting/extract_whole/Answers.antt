use Rattle.std.proofs.Common.{◌≡◌, ◌<◌, ◌≤◌, ◌∙◌, ℕ, arith, sym}
use Rattle.model.specs.Indices.{All}
use Rattle.model.specs.Regions.{extracted}
use Rattle.store.specs.Stored.{Block, block_content, content_of}
use Rattle.shapes.proofs.Extracts.{all_of_all}
use Rattle.shapes.proofs.Going.{if_ok}
use Rattle.store.proofs.RowWords.{no_column}
use Rattle.shapes.proofs.extracting.extract_whole.Goals as goal

pub returns-clause-words : goal.returns-clause-words
returns-clause-words c =
    let a = c.args.a.now in
    let first = c.args.range.start in
    let past = c.args.range.end in
    if_ok (λ (block : Block). (i j : ℕ) → first ≤ i → i < past → block_content block i j ≡ content_of a i j)
    (λ (block : Block). (i j : ℕ) → first ≤ i → i < past → block_content block i j ≡ extracted a.rows a.cols All All (content_of a) i j) c.copy_rows.result
    (λ block words i j low high. words i j low high ∙ sym (all_of_all a.rows a.cols (content_of a) i j (omega (arith, c.requires)) (λ out. c.rows-rows.ensures.within i j (no_column _ _ out)))) c.copy_rows.ensures.words
