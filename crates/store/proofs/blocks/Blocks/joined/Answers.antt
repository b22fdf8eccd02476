use Rattle.std.proofs.Common.{◌<◌, ◌≤◌, arith, length, rules}
use Rattle.store.proofs.BlockLaws.{joined_held, joined_is, joined_more, joined_order, joined_start}
use Rattle.store.proofs.blocks.Blocks.joined.Goals as goal
use Rattle.store.proofs.blocks.Blocks.joined.Goals.{After-lists-in-loop-k-1, After-loop-k}

pub loop-k-init : goal.loop-k-init
loop-k-init c = let made = c.in_ok-lists.ensures in joined_start c.self.inside.parts.items c.in_ok-lists.lists made.ends made.inner made.words

within : (c : After-lists-in-loop-k-1) → c.loop-k.k < length c.self.inside.parts.items
within c = let ok = c.self.inside.parts.ok in let test = c.loop-k-test.true in let long = c.len-k-end.ensures in omega arith

pub append_to-requires-clause-flat : goal.append_to-requires-clause-flat
append_to-requires-clause-flat c = c.loop-k.invariant.flat

pub append_to-requires-clause-order : goal.append_to-requires-clause-order
append_to-requires-clause-order c =
    let b = c.self.inside in
    joined_order b.rows b.cols b.parts.items c.loop-k.k c.index.result.now c.loop-k.lists c.self.invariant.are c.loop-k.invariant (within (search rules)) c.index.ensures

pub loop-k-preserved : goal.loop-k-preserved
loop-k-preserved c =
    let put = c.in_ok-append_to.ensures in
    joined_more c.self.inside.parts.items c.loop-k.k c.index.result.now c.loop-k.lists c.append_to.new.lists c.loop-k.invariant (within (search rules)) c.index.ensures put.flat put.entries

end : (c : After-loop-k) → length c.self.inside.parts.items ≤ c.loop-k.k
end c = let ok = c.self.inside.parts.ok in let test = c.loop-k-test.false in let long = c.len-k-end.ensures in omega arith

pub invariant_of-result : goal.invariant_of-result
invariant_of-result c =
    let b = c.self.inside in
    joined_held b.rows b.cols b.parts.items c.loop-k.k c.loop-k.lists c.self.invariant.are c.loop-k.invariant (end (search rules))

pub returns : goal.returns
returns c =
    let b = c.self.inside in
    rw (← c.self.view_is) (joined_is b.rows b.cols b.parts.items c.loop-k.k c.loop-k.lists c.self.invariant.are c.loop-k.invariant (end (search rules)))
