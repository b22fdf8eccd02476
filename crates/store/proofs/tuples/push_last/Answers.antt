-- The entry is one more behind the others.
use Rattle.std.proofs.Common.{◌≡◌, ap, arith, length}
use Rattle.store.proofs.TupleLaws.{IsOneMore, one_more}
use Rattle.store.proofs.tuples.push_last.Goals as goal
use Rattle.store.proofs.tuples.push_last.Goals.{After-push_reserved-2}

end_is : (c : After-push_reserved-2) → c.len-end.result ≡ length c.args.rows.now.inner.items
end_is c =
    let same = ap length c.in_ok-make_room_in.ensures.items in
    let long = c.len-end.ensures in
    omega arith

more : (c : After-push_reserved-2) → let rows = c.args.rows.now in IsOneMore c.set_end.new.ends.items rows.ends.items rows.inner.items rows.words.items c.args.entry
more c =
    let rows = c.args.rows.now in
    one_more rows.ends.items c.set_end.new.ends.items rows.inner.items rows.words.items c.args.entry c.requires.flat c.requires.order
    (rw (end_is c) at c.in_ok-set_end.ensures.ok)

pub returns-clause-flat : goal.returns-clause-flat
returns-clause-flat c =
    rw (c.push_reserved.ensures.items, c.push_reserved-2.ensures.items, c.in_ok-make_room_in.ensures.items, c.in_ok-make_room_in-2.ensures.items) (more c).flat

pub returns-clause-ok : goal.returns-clause-ok
returns-clause-ok c =
    rw (c.push_reserved.ensures.items, c.push_reserved-2.ensures.items, c.in_ok-make_room_in.ensures.items, c.in_ok-make_room_in-2.ensures.items) (more c).entries
