use Rattle.std.proofs.Common.{◌≡◌, length}
use Rattle.store.specs.Fibers.{entries_from}
use Rattle.masks.proofs.Keeping.{IsKeeping}
use Rattle.masks.proofs.keep.keep_fibers.Given as goal

abbrev pub invariant-loop-at : goal.invariant-loop-at
invariant-loop-at l = record {
  ends_long : length l.ends ≡ length l.fn.ends;
  inner_long : length l.inner ≡ length l.fn.inner;
  words_long : length l.words ≡ length l.fn.words;
  keeping : IsKeeping l.test l.fn.stored.entries (entries_from 0 l.fn.ends l.fn.inner l.fn.words) l.rest.entries l.ends l.inner l.words l.at l.fibers l.kept l.start;
}
