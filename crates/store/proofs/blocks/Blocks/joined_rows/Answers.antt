use Rattle.std.proofs.Common.{◌<◌, ◌≤◌, arith, [], get_or, length, refl, rules, subst, sym}
use Rattle.store.specs.Blocks.{IsInSpan}
use Rattle.store.specs.Stored.{Stored}
use Rattle.store.proofs.ChosenLaws.{chosen_agrees, chosen_held, chosen_order, chosen_start, chosen_with, chosen_without}
use Rattle.store.proofs.SpanLaws.{none_missed}
use Rattle.store.proofs.blocks.Blocks.joined_rows.Goals as goal
use Rattle.store.proofs.blocks.Blocks.joined_rows.Goals.{After-loop-k, After-misses, else-not-misses, then-not-misses+in_ok-append_to}

pub loop-k-init : goal.loop-k-init
loop-k-init c =
    let b = c.self.inside in
    let made = c.in_ok-lists.ensures in
    chosen_start b.rows b.cols c.args.range.now.start c.args.range.now.end b.parts.items c.in_ok-lists.lists made.ends made.inner made.words

within : (c : After-misses) → c.loop-k.k < length c.self.inside.parts.items
within c = let ok = c.self.inside.parts.ok in let test = c.loop-k-test.true in let long = c.len-k-end.ensures in omega arith

pub append_to-requires-clause-order : goal.append_to-requires-clause-order
append_to-requires-clause-order c =
    let b = c.self.inside in
    chosen_order b.rows b.cols c.args.range.now.start c.args.range.now.end b.parts.items c.loop-k.k c.index-then-not-misses.result.now c.loop-k.lists
    c.self.invariant.are c.loop-k.invariant (within (search rules)) c.index-then-not-misses.ensures

-- where no part is read
abbrev nothing : Stored
nothing = record { rows = 0; cols = 0; entries = [] }

pub loop-k-preserved : goal.loop-k-preserved
loop-k-preserved c =
    let b = c.self.inside in
    let low = c.args.range.now.start in
    let high = c.args.range.now.end in
    let parts = b.parts.items in
    let k = c.loop-k.k in
    let inside = within (search rules) in
    let span = c.index.result.now in
    elim c.if-not-misses.branch [
      | then-not-misses+in_ok-append_to w ↦
          let put = w.in_ok-append_to.ensures in
          rw (w.lists-is) (chosen_with b.rows b.cols low high parts k w.index-then-not-misses.result.now c.loop-k.lists w.append_to.new.lists
          c.self.invariant.are c.loop-k.invariant inside w.index-then-not-misses.ensures put.flat put.entries)
      | else-not-misses w ↦
          rw (w.lists-is) (chosen_without b.rows b.cols low high parts k nothing c.loop-k.lists c.loop-k.invariant inside
          (λ i j first past. none_missed low high i j span (get_or parts k nothing) (subst (λ s. IsInSpan s (get_or parts k nothing)) (sym c.index.ensures) (c.self.invariant.within k span nothing inside)) (w.if-not-misses.ensures refl) first past))
    ]

end : (c : After-loop-k) → length c.self.inside.parts.items ≤ c.loop-k.k
end c = let ok = c.self.inside.parts.ok in let test = c.loop-k-test.false in let long = c.len-k-end.ensures in omega arith

pub invariant_of-result : goal.invariant_of-result
invariant_of-result c =
    let b = c.self.inside in
    chosen_held b.rows b.cols c.args.range.now.start c.args.range.now.end b.parts.items c.loop-k.k c.loop-k.lists c.self.invariant.are.many c.loop-k.invariant

pub returns : goal.returns
returns c =
    let b = c.self.inside in
    rw (← c.self.view_is) (chosen_agrees b.rows b.cols c.args.range.now.start c.args.range.now.end b.parts.items c.loop-k.k c.loop-k.lists
    c.self.invariant.are.many c.loop-k.invariant (end (search rules)))
