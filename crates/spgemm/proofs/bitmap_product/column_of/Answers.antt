-- No sum stands behind the last column, in either form.
use Rattle.std.proofs.Common.{◌≡◌, ◌-◌, ◌*◌, ◌∙◌, length, rules, sym}
use Rattle.std.specs.Vec.{vec_len, with_items}
use Rattle.std.proofs.lemmas.List.{with_items_is}
use Rattle.bitmap.specs.Bitmaps.{row_part}
use Rattle.model.specs.Entries.{word_at}
use Rattle.model.specs.Object.{transposed_content}
use Rattle.spgemm.specs.Dense.{AreColumnSums}
use Rattle.spgemm.specs.Partials.{terms_between}
use Rattle.spgemm.proofs.BitmapSums.{no_truth_behind, none_behind}
use Rattle.spgemm.proofs.PartialLaws.{marked_sums}
use Rattle.spgemm.proofs.bitmap_product.column_of.Goals as goal

pub returns-in_ok-bits-in-Words-clause-none_behind :
    goal.returns-in_ok-bits-in-Words-clause-none_behind
returns-in_ok-bits-in-Words-clause-none_behind c =
    let f = c.args.factors in
    let a = f.a.now in
    let add = f.semiring.add in
    let own = c.in-Words.field-0 in
    let sums = rw c.in-Words.is at c.requires.sums in
    let row = row_part (transposed_content (word_at f.u.now.entries)) 0 0 (a.rows - 0) in
    let bits = c.set_marked.new.bits in
    let fit : length bits ≡ vec_len c.in_ok-bits-in-Words.bits = search rules in
    let are : (with_items c.in_ok-bits-in-Words.bits bits).items ≡ bits = with_items_is c.in_ok-bits-in-Words.bits bits fit in
    let room : length own.words.items ≡ 64 * length bits = search rules in
    let here : AreColumnSums add.op (terms_between f 0 a.rows) bits own.words.items = marked_sums add (terms_between f 0 a.rows) own.marks.items bits own.words.items (sums.mark_each ∙ sym sums.word_each) (rw c.deref.ensures.value at c.set_marked.ensures.bits) sums.sums_are in
    rw are (none_behind add.op f.semiring.multiply row a bits own.words.items room here)

pub returns-in_ok-words-in-Truths-clause-none_behind :
    goal.returns-in_ok-words-in-Truths-clause-none_behind
returns-in_ok-words-in-Truths-clause-none_behind c =
    let f = c.args.factors in
    let a = f.a.now in
    let sums = rw c.in-Truths.is at c.requires.sums in
    let row = row_part (transposed_content (word_at f.u.now.entries)) 0 0 (a.rows - 0) in
    no_truth_behind f.semiring.add.op f.semiring.multiply row a c.in-Truths.field-0.bits.items c.in-Truths.field-0.trues.items sums.sums_are
