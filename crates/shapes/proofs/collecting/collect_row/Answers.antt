-- A row in another order has the same entries.
use Rattle.std.proofs.Common.{◌≡◌, ◌∙◌, ◌+◌, ◌-◌, ◌≤◌, List, [], ◌++◌, length, take, drop, sym, ap, arith, le_of_eq, length-append, length-drop, length-take}
use Rattle.std.specs.List.Sorted.{IsPermutation}
use Rattle.std.proofs.lemmas.List.{append-nil, drop_all, take-append-drop, take_all}
use Rattle.std.proofs.lemmas.List.Sorted.{IsPermutation-append_right, length_permutation}
use Rattle.model.specs.declared.entry.Entry.{Entry}
use Rattle.store.specs.Fibers.{entries_along}
use Rattle.store.specs.Stored.{content_of}
use Rattle.shapes.specs.Collects.{collected}
use Rattle.shapes.proofs.collecting.collect_row.Goals as goal

pub returns : goal.returns
returns c =
    let old : List Entry = c.args.entries.now.items in
    let places = c.args.places.now.store in
    let found : List Entry = collected c.args.index places.cols (content_of places) (entries_along 0 c.args.cols.now c.args.words.now) in
    let L : List Entry = c.list_row.new.entries.items in
    let D : List Entry = c.deref_mut.result.now in
    let n : List Entry = c.sort_row.new.entries in
    let s = c.len-start.result in
    let is : D ≡ L = c.deref_mut.ensures.value in
    let all : L ≡ old ++ found = c.in_ok-list_row.ensures in
    let size : length D ≡ length old + length found = ap (λ (es : List Entry). length es) (is ∙ all) ∙ length-append old found in
    let start = c.len-start.ensures in
    let low : s ≤ length D = omega arith in
    let tail : take (length D - s) (drop s D) ≡ drop s D = take_all (length D - s) (drop s D) (le_of_eq (length-drop s D)) in
    let left : drop (length D - s) (drop s D) ≡ [] = drop_all (length D - s) (drop s D) (le_of_eq (length-drop s D)) in
    let sorted : IsPermutation (drop s D) n = rw tail at c.sort_row.ensures in
    let long : length n ≡ length D - s = length_permutation (drop s D) n sorted ∙ length-drop s D in
    let whole : length (take s D ++ n) ≡ length D = omega (arith, length-append (take s D) n, length-take s D) in
    let none : drop (length (take s D ++ n)) L ≡ [] = drop_all (length (take s D ++ n)) L (le_of_eq (ap (λ (es : List Entry). length es) (sym is) ∙ sym whole)) in
    let made : IsPermutation (old ++ found) (take s D ++ n) =
    rw (sym (is ∙ all) ∙ sym (take-append-drop s D)) (IsPermutation-append_right (take s D) (drop s D) n sorted) in
    let end : take c.list_row.new.entries.len (take s D ++ n) ≡ take s D ++ n = take_all c.list_row.new.entries.len (take s D ++ n) (omega (arith, whole)) in
    rw (left, append-nil n, none, append-nil (take s D ++ n), end) made
