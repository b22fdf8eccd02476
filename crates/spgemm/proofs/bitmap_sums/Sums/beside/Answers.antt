-- Sums in one form are put together in that form.
use Rattle.spgemm.proofs.PartialLaws.{truths_beside, words_beside}
use Rattle.spgemm.proofs.bitmap_sums.Sums.beside.Goals as goal

pub returns-in-Words-other : goal.returns-in-Words-other
returns-in-Words-other c = λ f first cut past same le le' front back.
    let put = c.add.ensures in
    words_beside f first cut past le le' c.in-Words.sums c.in-Words-other.other c.add.new.self (rw c.in-Words.is at front) (rw c.in-Words-other.is at back)
    put.marks_length put.words_length put.marks (rw (← same) at put.words)

pub returns-in-Truths-other : goal.returns-in-Truths-other
returns-in-Truths-other c = λ f first cut past same le le' front back.
    let put = c.add-in-Truths.ensures in
    truths_beside f first cut past le le' c.in-Truths.sums c.in-Truths-other.other c.add-in-Truths.new.self (rw c.in-Truths.is at front) (rw c.in-Truths-other.is at back)
    put.bits_length put.trues_length put.bits put.trues
