use Rattle.std.proofs.Common.{◌<◌, ap, arith, length, refl}
use Rattle.std.proofs.lemmas.List.Elements.{All-nil}
use Rattle.std.specs.Global.{Vec}
use Rattle.model.specs.declared.entry.Entry.{Entry}
use Rattle.store.specs.Tuples.{IsUpTo}
use Rattle.store.proofs.Contents.{no_entries}
use Rattle.store.proofs.FlatLaws.{flat_none}
use Rattle.store.proofs.tuples.Tuples.with_capacity.Goals as goal

pub invariant_of-result : goal.invariant_of-result
invariant_of-result c =
    let rows = c.in_ok-with_capacity.field-0 in
    let none = c.in_ok-with_capacity.ensures in
    let no_ends = ap length none.ends in
    record {
      are_rows = record {
        flat = rw (none.ends, none.inner, none.words) flat_none;
        up_to = rw (no_entries 0 rows.ends.items rows.inner.items rows.words.items none.ends) (All-nil (IsUpTo 0 0));
        last = λ some h. absurd (omega arith);
      };
      some = rw c.new.ensures.items (All-nil (λ (list : Vec Entry). 0 < length list.items));
      unordered = λ some order. absurd (let none = rw (c.new.ensures.items, c.new-2.ensures.items) at some in omega arith);
    }

pub returns : goal.returns
returns c =
    let rows = c.in_ok-with_capacity.field-0 in
    rw (no_entries 0 rows.ends.items rows.inner.items rows.words.items c.in_ok-with_capacity.ensures.ends, c.new.ensures.items, c.new-2.ensures.items) refl
