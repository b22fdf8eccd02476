use Rattle.std.proofs.Common.{◌≡◌, ◌-◌, ◌∷◌, length, take, drop, refl, arith, rules}
use Rattle.masks.proofs.AppendLaws.{put_behind}
use Rattle.masks.proofs.append.append_ends.Goals as goal
use Rattle.masks.proofs.append.append_ends.Goals.{After-deref_mut}

-- the ends that were put there
moved : (c : After-deref_mut)
    → take (length c.deref_mut.result.now - c.len-count.result) (drop c.len-count.result c.deref_mut.result.now) ≡ c.args.head ∷ c.args.others.now
moved c =
    let old = c.args.ends.now in
    let count : c.len-count.result ≡ length old.items = let ok = old.ok in let is = c.len-count.ensures in omega arith in
    put_behind old.items c.args.others.now c.deref_mut.result.now c.args.head c.len-count.result count
    (rw (c.deref_mut.ensures.value, c.in_ok-extend_from_slice.ensures.items, c.in_ok-push.ensures.items) refl)

pub move_ends-requires-clause-behind : goal.move_ends-requires-clause-behind
move_ends-requires-clause-behind c = rw (moved (search rules)) c.requires.behind

pub move_ends-requires-clause-fits : goal.move_ends-requires-clause-fits
move_ends-requires-clause-fits c = rw (moved (search rules)) c.requires.fits
