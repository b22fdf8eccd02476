use Rattle.std.proofs.Common.{◌<◌, arith, length, min}
use Rattle.std.specs.Vec.{vec_capacity}
use Rattle.bitmap.specs.Bitmaps.{entries_down}
use Rattle.bitmap.proofs.ColumnLaws.{down_push, long_down}
use Rattle.bitmap.proofs.column.ColumnLists.push.Goals as goal

pub push_reserved-requires : goal.push_reserved-requires
push_reserved-requires c =
    let s = c.self.inside in
    let room : length (entries_down s.rows.items s.words.items) < min (vec_capacity s.rows) (vec_capacity s.words) = rw (← c.self.view_is) at c.requires in
    let long = long_down s.rows.items s.words.items c.self.invariant in
    let rows = s.rows.ok.0 in
    omega arith

pub push_reserved-requires-2 : goal.push_reserved-requires-2
push_reserved-requires-2 c =
    let s = c.self.inside in
    let room : length (entries_down s.rows.items s.words.items) < min (vec_capacity s.rows) (vec_capacity s.words) = rw (← c.self.view_is) at c.requires in
    let long = long_down s.rows.items s.words.items c.self.invariant in
    let same = c.self.invariant in
    let words = s.words.ok.0 in
    omega arith

pub returns-clause-entries : goal.returns-clause-entries
returns-clause-entries c =
    let s = c.self.inside in
    rw (← c.self.view_is, c.push_reserved.ensures.items, c.push_reserved-2.ensures.items) (down_push s.rows.items s.words.items c.args.row c.args.word c.self.invariant)
