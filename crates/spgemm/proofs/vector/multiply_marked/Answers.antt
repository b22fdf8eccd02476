use Rattle.std.proofs.Common.{◌∙◌, Bool, ℕ, ap, rules}
use Rattle.masks.specs.Masks.{lets_word}
use Rattle.model.specs.Entries.{word_at}
use Rattle.store.specs.Fibers.{entries_along}
use Rattle.terms.specs.Marked.{keeps_marked}
use Rattle.terms.specs.Terms.{kept_terms, terms_of_row}
use Rattle.spgemm.specs.Vectors.{keeps_down}
use Rattle.terms.proofs.Kept.{terms_inside}
use Rattle.spgemm.proofs.Parts.{kept_down}
use Rattle.spgemm.proofs.Vectors.{IsOneRow, one_row, one_row_inside, vector_words}
use Rattle.spgemm.proofs.vector.multiply_marked.Goals as goal
use Rattle.spgemm.proofs.vector.multiply_marked.Goals.{After-cols}

one : (c : After-cols) → IsOneRow (keeps_down (λ i j. lets_word c.args.mask.test (word_at c.args.mask.bitmap.now.entries i j)) 0 c.args.a.now.cols)
    c.args.semiring (entries_along 0 c.row_of-row.result.cols.now c.row_of-row.result.words.now) c.args.a.now c.multiply_marked_row.new.lists
one c =
    let a = c.args.a.now in
    let semiring = c.args.semiring in
    let keeps : ℕ → ℕ → Bool = λ i j. lets_word c.args.mask.test (word_at c.args.mask.bitmap.now.entries i j) in
    let row = entries_along 0 c.row_of-row.result.cols.now c.row_of-row.result.words.now in
    let terms = terms_of_row semiring.multiply row a in
    one_row (keeps_down keeps 0 a.cols) semiring row a (kept_terms (keeps_marked c.args.mask) terms) c.new-lists.result c.multiply_marked_row.new.lists
    (kept_down keeps a.cols terms (terms_inside semiring.multiply row a)) c.new-lists.ensures.ends c.new-lists.ensures.inner c.new-lists.ensures.words
    (rw c.row_of-row.ensures.index at c.in_ok-multiply_marked_row.ensures)

pub of_fibers-requires-clause-flat : goal.of_fibers-requires-clause-flat
of_fibers-requires-clause-flat c = let row = one (search rules) in row.flat

pub of_fibers-requires-clause-inside : goal.of_fibers-requires-clause-inside
of_fibers-requires-clause-inside c =
    let a = c.args.a.now in
    rw c.cols.ensures (one_row_inside (λ i j. lets_word c.args.mask.test (word_at c.args.mask.bitmap.now.entries i j)) 0 a.cols c.args.semiring
    (entries_along 0 c.row_of-row.result.cols.now c.row_of-row.result.words.now) a c.multiply_marked_row.new.lists (one (search rules)))

pub returns : goal.returns
returns c =
    let u = c.args.u.now in
    let a = c.args.a.now in
    let keeps : ℕ → ℕ → Bool = λ i j. lets_word c.args.mask.test (word_at c.args.mask.bitmap.now.entries i j) in
    record {
      first_is = c.of_fibers.ensures.first;
      past_is = c.of_fibers.ensures.past ∙ c.cols.ensures;
      cols = c.of_fibers.ensures.cols;
      words = λ i j low high.
          ap (λ es. word_at es i j) c.of_fibers.ensures.entries
          ∙ vector_words keeps 0 a.cols c.args.semiring u a c.row_of-row.result.cols.now c.row_of-row.result.words.now c.multiply_marked_row.new.lists i j c.requires.vector c.rows.ensures.within c.rows-2.ensures.within
          c.row_of-row.ensures.entries (one (search rules)) low high;
    }
