-- A block without an entry has the rows of a map without one.
use Rattle.std.proofs.Common.{ap, refl}
use Rattle.model.specs.declared.entry.Entry.{Entry}
use Rattle.model.specs.Entries.{word_at}
use Rattle.std.specs.Prelude.{List}
use Rattle.trials.proofs.row.rows.Goals as goal

pub returns : goal.returns
unfolding word_at
returns c = record {
  first_is = refl;
  past_is = refl;
  cols_are = c.new.ensures.cols;
  words = λ i j low high. ap (λ (es : List Entry). word_at es i j) c.new.ensures.entries;
}
