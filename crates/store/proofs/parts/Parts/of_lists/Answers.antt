use Rattle.std.proofs.Common.{◌≡◌, ◌∙◌, ap, arith, refl}
use Rattle.store.specs.Blocks.{IsPart, entries_in_parts}
use Rattle.store.specs.Fibers.{entries_from, outers}
use Rattle.store.specs.Stored.{Stored, along}
use Rattle.store.proofs.BlockLaws.{only_entries, only_part}
use Rattle.store.proofs.Contents.{held_stored, length_along}
use Rattle.store.proofs.Places.{length_placed, long_outers}
use Rattle.store.proofs.parts.Parts.of_lists.Goals as goal

pub invariant_of-result : goal.invariant_of-result
invariant_of-result c =
    let s = c.lists.inside in
    let ends = s.lists.ends.items in
    let inner = s.lists.inner.items in
    let words = s.lists.words.items in
    let part : IsPart s.rows s.cols (record { rows = s.rows; cols = s.cols; entries = along s.cols (entries_from 0 ends inner words) }) = record {
      rows_are = refl;
      cols_are = refl;
      stored = held_stored s.rows s.cols ends inner words c.lists.invariant;
    } in
    let long = long_outers ends inner words c.lists.invariant.flat in
    let all = length_placed (outers 0 ends) inner words long.0 long.1 in
    let count = length_along s.cols (entries_from 0 ends inner words) in
    let ok = s.lists.inner.ok in
    let most = s.lists.inner.len in
    rw (c.from_ref.ensures.value, ← c.lists.view_is) (only_part s.rows s.cols _ part (omega arith))

pub returns : goal.returns
returns c =
    let s = c.lists.inside in
    let whole : entries_in_parts c.from_ref.result.now ≡ c.args.lists.now.entries = ap entries_in_parts c.from_ref.ensures.value ∙ only_entries c.args.lists.now in
    rw (whole, ap (λ (s : Stored). s.rows) c.lists.view_is, ap (λ (s : Stored). s.cols) c.lists.view_is) refl
