use Rattle.std.proofs.Common.{◌∙◌, ◌<◌, ◌≤◌, arith, length, rules}
use Rattle.store.proofs.BlockLaws.{joined_held, joined_is, joined_more, joined_order, joined_start}
use Rattle.store.proofs.blocks.Blocks.joined_in.Given.{Over}
use Rattle.store.proofs.blocks.Blocks.joined_in.Goals as goal
use Rattle.store.proofs.blocks.Blocks.joined_in.Goals.{After-lists-1, After-loop-k}

pub loop-k-init : goal.loop-k-init
loop-k-init g c =
    let room = c.args.room in
    joined_start c.self.inside.parts.items (record { ends = room.ends; inner = c.try_reserve_exact.new.self; words = c.try_reserve_exact-2.new.self }) c.requires.ends
    (c.in_ok-try_reserve_exact.ensures.items ∙ c.requires.inner) (c.in_ok-try_reserve_exact-2.ensures.items ∙ c.requires.words)

within : (g : Over) (c : After-lists-1 g) → c.loop-k.k < length c.self.inside.parts.items
within g c = let ok = c.self.inside.parts.ok in let test = c.loop-k-test.true in let long = c.len-k-end.ensures in omega arith

pub append_beside-requires-clause-flat : goal.append_beside-requires-clause-flat
append_beside-requires-clause-flat g c = c.loop-k.invariant.flat

pub append_beside-requires-clause-order : goal.append_beside-requires-clause-order
append_beside-requires-clause-order g c =
    let b = c.self.inside in
    joined_order b.rows b.cols b.parts.items c.loop-k.k c.index.result.now c.loop-k.lists c.self.invariant.are c.loop-k.invariant (within g (search rules)) c.index.ensures

pub loop-k-preserved : goal.loop-k-preserved
loop-k-preserved g c =
    let put = c.in_ok-append_beside.ensures in
    joined_more c.self.inside.parts.items c.loop-k.k c.index.result.now c.loop-k.lists c.append_beside.new.lists c.loop-k.invariant (within g (search rules)) c.index.ensures put.flat put.entries

end : (g : Over) (c : After-loop-k g) → length c.self.inside.parts.items ≤ c.loop-k.k
end g c = let ok = c.self.inside.parts.ok in let test = c.loop-k-test.false in let long = c.len-k-end.ensures in omega arith

pub invariant_of-result : goal.invariant_of-result
invariant_of-result g c =
    let b = c.self.inside in
    joined_held b.rows b.cols b.parts.items c.loop-k.k c.loop-k.lists c.self.invariant.are c.loop-k.invariant (end g (search rules))

pub returns : goal.returns
returns g c =
    let b = c.self.inside in
    rw (← c.self.view_is) (joined_is b.rows b.cols b.parts.items c.loop-k.k c.loop-k.lists c.self.invariant.are c.loop-k.invariant (end g (search rules)))
