use Rattle.std.proofs.Common.{◌≡◌, ◌<◌, ◌≤◌, ◌∙◌, ℕ, None, true, ap, arith}
use Rattle.std.specs.List.{filter_map}
use Rattle.std.proofs.lemmas.Bool.Decides.{nat_tests}
use Rattle.model.specs.Builds.{gathered}
use Rattle.model.specs.Entries.{entries_between}
use Rattle.model.specs.Regions.{placed}
use Rattle.store.specs.Stored.{Block, block_content, content_of}
use Rattle.store.proofs.RowEntries.{entries_between-inside}
use Rattle.shapes.specs.Places.{is_in, placed_entry}
use Rattle.shapes.proofs.Gathering.{between_are, gathered_is}
use Rattle.shapes.proofs.PlaceLaws.{placed_are, placed_inside, placed_whole, reaches}
use Rattle.shapes.proofs.Going.{if_ok}
use Rattle.shapes.proofs.SpanLaws.{count_itself, end_of_every}
use Rattle.shapes.proofs.Walked.{all_words}
use Rattle.shapes.proofs.assigning.assign_rows.Goals as goal

pub place_entries-requires-clause-rows : goal.place_entries-requires-clause-rows
place_entries-requires-clause-rows c = count_itself c.args.shape.0 c.args.a.now.rows c.args.rows.now c.requires.counts_rows

pub place_entries-requires-clause-end : goal.place_entries-requires-clause-end
place_entries-requires-clause-end c every = end_of_every c.args.shape.0 c.args.a.now.rows c.args.range.end c.args.rows.now c.requires.counts_rows c.requires.end every

pub place_entries-requires-clause-cols : goal.place_entries-requires-clause-cols
place_entries-requires-clause-cols c k less = reaches c.args.shape.1 k c.args.cols.now (omega (arith, c.requires.counts_cols))

pub gather-requires : goal.gather-requires
gather-requires c =
    let a = c.args.a.now in
    rw c.in_ok-entries.ensures (placed_inside c.args.shape.1 c.args.range.start c.args.range.end c.args.rows.now c.args.cols.now a.rows a.cols (entries_between 0 a.rows a.cols (content_of a)) c.requires.cols c.requires.counts_cols (entries_between-inside 0 a.rows a.cols (content_of a)))

pub returns-clause-words : goal.returns-clause-words
returns-clause-words c =
    let a = c.args.a.now in
    let m = c.args.shape.0 in
    let n = c.args.shape.1 in
    let first = c.args.range.start in
    let past = c.args.range.end in
    let rows = c.args.rows.now in
    let cols = c.args.cols.now in
    let es = entries_between 0 a.rows a.cols (content_of a) in
    let words = λ (i j : ℕ). all_words a.rows a.cols (content_of a) i j c.rows-rows.ensures.within in
    let are = between_are 0 a.rows a.cols (content_of a) in
    let put = placed_are m n first past rows cols a.rows a.cols (content_of a) es c.requires.once_rows c.requires.once_cols c.requires.counts_rows c.requires.counts_cols (entries_between-inside 0 a.rows a.cols (content_of a)) are in
    if_ok (λ (block : Block). (i j : ℕ) → block_content block i j ≡ gathered None c.in_ok-entries.entries.items i j)
    (λ (block : Block). (i j : ℕ) → first ≤ i → i < past → block_content block i j ≡ placed m n rows cols (content_of a) i j) c.gather.result
    (λ block is i j low high.
    let lies : is_in first past i ≡ true = grind (arith, nat_tests) in
    is i j ∙ ap (λ es. gathered None es i j) c.in_ok-entries.ensures
    ∙ gathered_is (placed m n rows cols (content_of a)) i j (filter_map (placed_entry rows cols first past) es) put (placed_whole m n first past rows cols (content_of a) es i j words lies)) c.gather.ensures.words
