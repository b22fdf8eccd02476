-- The walk's lists behind those that were there.
use Rattle.std.proofs.Common.{◌≡◌, ◌<◌, ◌++◌, ◌∷◌, ◌∙◌, ap, OnOk, length, take, map, refl, sym, rules, arith}
use Rattle.std.proofs.lemmas.Bool.Decides.{nat_tests}
use Rattle.std.proofs.lemmas.List.{append-nil}
use Rattle.std.proofs.lemmas.Result.{on_ok_weaker}
use Rattle.store.specs.Fibers.{AreFlat, end_on, entries_from, entries_in}
use Rattle.store.proofs.CopyLaws.{ends_behind}
use Rattle.store.proofs.Walks.{no_lines}
use Rattle.masks.proofs.AppendLaws.{part_of, walk_attached, walk_fits}
use Rattle.masks.proofs.append.append_walk.Goals as goal
use Rattle.masks.proofs.append.append_walk.Goals.{After-append_ends, After-truncate}

pub returns-then-is_empty-clause-entries : goal.returns-then-is_empty-clause-entries
returns-then-is_empty-clause-entries c =
    let w = c.flat-from.result in
    let none : length w.inner.now ≡ 0 = grind (arith, nat_tests) in
    rw (c.flat-from.ensures.entries, no_lines w.from (w.head ∷ w.others.now) w.inner.now w.words.now none) (sym (append-nil (entries_in c.args.lists.now)))

some_left : (c : After-truncate) → 0 < length c.flat-from.result.inner.now
some_left c = grind (arith, nat_tests)

place : (c : After-truncate) → c.len-to.result ≡ length c.args.lists.now.inner.items
place c = let ok = c.args.lists.now.inner.ok in let is = c.len-to.ensures in omega arith

pub append_ends-requires-clause-behind : goal.append_ends-requires-clause-behind
append_ends-requires-clause-behind c =
    let w = c.flat-from.result in
    ends_behind w.from (w.head ∷ w.others.now) w.from (omega arith) (c.flat-from.ensures.left.rises (some_left (search rules)))

pub append_ends-requires-clause-fits : goal.append_ends-requires-clause-fits
append_ends-requires-clause-fits c =
    let w = c.flat-from.result in
    let all = c.extend_from_slice.new.self in
    let ok = all.ok in
    walk_fits w.from c.len-to.result 18446744073709551616 w.head w.others.now c.args.lists.now.inner.items w.inner.now all.items w.words.now c.flat-from.ensures.left (some_left (search rules)) (place (search rules)) c.in_ok-extend_from_slice.ensures.items (omega arith)

-- where the fibers end, and their entries
attached : (c : After-truncate)
    → let l = c.args.lists.now in
    let w = c.flat-from.result in
    let ends = take c.count_before-count.result l.ends.items ++ map (end_on c.len-to.result) (part_of w.from w.head w.others.now) in
    AreFlat ends (l.inner.items ++ w.inner.now) (l.words.items ++ w.words.now)
    × (entries_from 0 ends (l.inner.items ++ w.inner.now) (l.words.items ++ w.words.now) ≡ entries_in l ++ entries_from w.from (w.head ∷ w.others.now) w.inner.now w.words.now)
attached c =
    let l = c.args.lists.now in
    let w = c.flat-from.result in
    let counted = c.count_before-count.ensures (part_of w.from w.head w.others.now) (omega arith) refl in
    walk_attached l.ends.items l.inner.items l.words.items w.from c.len-to.result w.head w.others.now w.inner.now w.words.now c.count_before-count.result c.requires.flat c.flat-from.ensures.left (some_left c) (place c) (rw c.flat-from.ensures.entries at c.requires.order)
    (rw c.deref.ensures.value at counted)

-- the ends that were put, by those that were there
ends_put : (c : After-append_ends)
    → OnOk c.append_ends.result (c.append_ends.new.ends.items ≡ take c.count_before-count.result c.args.lists.now.ends.items ++ map (end_on c.len-to.result) (part_of c.flat-from.result.from c.flat-from.result.head c.flat-from.result.others.now))
ends_put c =
    let w = c.flat-from.result in
    on_ok_weaker c.append_ends.result
    (λ is. is ∙ ap (λ es. es ++ map (end_on c.len-to.result) (part_of w.from w.head w.others.now)) c.truncate.ensures.items)
    c.append_ends.ensures

pub returns-clause-flat : goal.returns-clause-flat
returns-clause-flat c =
    on_ok_weaker c.append_ends.result
    (λ is. rw (is, c.in_ok-extend_from_slice.ensures.items, c.in_ok-extend_from_slice-2.ensures.items) (attached (search rules)).0)
    (ends_put (search rules))

pub returns-clause-entries : goal.returns-clause-entries
returns-clause-entries c =
    on_ok_weaker c.append_ends.result
    (λ is. rw (is, c.in_ok-extend_from_slice.ensures.items, c.in_ok-extend_from_slice-2.ensures.items, c.flat-from.ensures.entries) (attached (search rules)).1)
    (ends_put (search rules))
