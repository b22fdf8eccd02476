use Rattle.std.proofs.Common.{None, rules, set}
use Rattle.std.proofs.lemmas.List.{length-set}
use Rattle.store.specs.Blocks.{entries_in_parts}
use Rattle.store.proofs.BlockLaws.{AreChanged, never_there, none_in_parts, part_changed}
use Rattle.store.proofs.SpanLaws.{spans_changed}
use Rattle.store.proofs.blocks.Blocks.remove.Goals as goal
use Rattle.store.proofs.blocks.Blocks.remove.Goals.{After-self-1}

changed : (c : After-self-1)
    → AreChanged c.args.i c.args.j None c.self.inside.rows c.self.inside.cols c.self.inside.parts.items (set c.self.inside.parts.items c.in-Some.at c.remove.new.self)
changed c =
    let b = c.self.inside in
    let parts = b.parts.items in
    let found = rw c.deref.ensures.value at c.in-Some.ensures in
    let old = c.index_mut.result.now in
    let gone = c.remove.ensures in
    part_changed c.args.i c.args.j None b.rows b.cols parts c.in-Some.at old c.remove.new.self c.self.invariant.are found.0 found.1 c.index_mut.ensures.value gone.rows gone.cols gone.stored gone.content

pub invariant_of-self : goal.invariant_of-self
invariant_of-self c =
    let b = c.self.inside in
    let parts = b.parts.items in
    spans_changed c.args.i c.args.j None b.rows b.cols b.spans.items parts (set parts c.in-Some.at c.remove.new.self) c.self.invariant (changed (search rules)) (length-set parts c.in-Some.at c.remove.new.self)

pub returns-in-Some-clause-content : goal.returns-in-Some-clause-content
returns-in-Some-clause-content c = λ p q. rw (← c.self.view_is) ((changed (search rules)).words p q)

pub returns-in_default-clause-content : goal.returns-in_default-clause-content
returns-in_default-clause-content c = λ p q.
    let parts = c.self.inside.parts.items in
    let none = none_in_parts c.args.i c.args.j parts (rw c.deref.ensures.value at c.in_default.ensures) in
    rw (← c.self.view_is) (never_there c.args.i c.args.j p q (entries_in_parts parts) none)
