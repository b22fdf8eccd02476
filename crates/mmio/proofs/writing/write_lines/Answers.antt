-- The parts of the text, one after the other.
use Rattle.std.proofs.Common.{◌≡◌, codes, length, map, refl, rules, sym, ap, ◌∙◌}
use Rattle.model.specs.Entries.{entries_between, entries_of}
use Rattle.model.specs.Object.{cols_of, rows_of}
use Rattle.model.specs.Text.{canonical_lines, entry_line, size_line}
use Rattle.store.specs.Stored.{content_of}
use Rattle.store.proofs.RowEntries.{entries_between-all}
use Rattle.mmio.proofs.WriteLaws.{object_text}
use Rattle.mmio.proofs.writing.write_lines.Goals as goal

pub returns-clause-ok : goal.returns-clause-ok
unfolding canonical_lines
returns-clause-ok g c =
    let store = c.args.store.now in
    let rows = rows_of c.args.shape in
    let cols = cols_of c.args.shape in
    let content = content_of store in
    let entries = entries_of rows cols content in
    let all : entries_between 0 c.rows-2.result store.cols content ≡ entries =
    ap (λ n. entries_between 0 n store.cols content) (c.rows-2.ensures ∙ sym c.requires.rows)
    ∙ entries_between-all store.rows store.cols content ∙ rw (c.requires.rows, c.requires.cols) refl in
    object_text c.write_entries.result c.args.out.now.items c.extend_from_slice.new.self.items c.write_size.new.out.items c.write_entries.new.out.items
    (codes "%%MatrixMarket matrix coordinate integer general") (size_line rows cols (length entries)) (map (entry_line c.args.domain) entries)
    (search rules) (search rules) (rw all at c.write_entries.ensures.ok)
