use Rattle.std.proofs.Common.{◌≡◌, ◌∙◌, ◌<◌, ◌≤◌, ℕ, None, Some, arith, sym}
use Rattle.std.proofs.lemmas.List.Elements.{All-map, All-weaker}
use Rattle.model.specs.declared.entry.Entry.{Entry}
use Rattle.model.specs.Entries.{entries_between, entry_at, word_at}
use Rattle.model.specs.Builds.{gathered}
use Rattle.model.specs.Object.{transposed_content}
use Rattle.store.specs.Stored.{AreIn, Block, block_content, content_of, transposed}
use Rattle.store.proofs.RowEntries.{entries_between-inside}
use Rattle.shapes.proofs.Gathering.{gathered_transposed, order_of}
use Rattle.shapes.proofs.Going.{if_ok}
use Rattle.shapes.proofs.Walked.{all_words}
use Rattle.shapes.proofs.transposing.transpose_by_sort.Goals as goal

pub gather-requires : goal.gather-requires
gather-requires c =
    let a = c.args.a.now in
    let es = entries_between 0 a.rows a.cols (content_of a) in
    let inside : AreIn 0 a.cols a.rows (transposed es) =
    All-map (λ (e : Entry). ((0 ≤ e.row) × (e.row < a.cols)) × (e.col < a.rows)) (λ (e : Entry). entry_at e.col e.row e.word) es
    (All-weaker (λ (e : Entry). ((0 ≤ e.row) × (e.row < a.rows)) × (e.col < a.cols)) (λ (e : Entry). ((0 ≤ e.col) × (e.col < a.cols)) × (e.row < a.rows)) (λ e p. ((omega arith, p.1), p.0.1)) es (entries_between-inside 0 a.rows a.cols (content_of a))) in
    rw (c.in_ok-entries.ensures.entries, c.rows.ensures.rows, c.cols.ensures) inside

pub returns-clause-words : goal.returns-clause-words
returns-clause-words c =
    let a = c.args.a.now in
    let es = entries_between 0 a.rows a.cols (content_of a) in
    let words = λ (i j : ℕ). all_words a.rows a.cols (content_of a) i j c.rows.ensures.within in
    let are = All-weaker (λ (e : Entry). word_at es e.row e.col ≡ Some e.word) (λ (e : Entry). content_of a e.row e.col ≡ Some e.word) (λ e is. sym (words e.row e.col) ∙ is) es (order_of es c.in_ok-entries.ensures.order) in
    if_ok (λ (block : Block). (i j : ℕ) → block_content block i j ≡ gathered None c.in_ok-entries.entries.items i j) (λ (block : Block). (i j : ℕ) → block_content block i j ≡ transposed_content (content_of a) i j) c.gather.result
    (λ block is i j. is i j ∙ rw c.in_ok-entries.ensures.entries (gathered_transposed (content_of a) es are words i j)) c.gather.ensures.words
