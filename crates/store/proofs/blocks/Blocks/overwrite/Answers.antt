use Rattle.std.proofs.Common.{◌≡◌, ◌≢◌, ◌∙◌, ap, None, Some, get_or, rules, set, sym}
use Rattle.std.proofs.lemmas.List.{length-set}
use Rattle.std.specs.Option.{is_some}
use Rattle.store.specs.Stored.{content_of}
use Rattle.store.proofs.BlockLaws.{AreChanged, is_there, none_in_parts, part_changed, sure, word_in_part}
use Rattle.store.proofs.SpanLaws.{spans_changed}
use Rattle.store.proofs.blocks.Blocks.overwrite.Goals as goal
use Rattle.store.proofs.blocks.Blocks.overwrite.Goals.{After-self-1}

pub returns-in_default-clause-there : goal.returns-in_default-clause-there
returns-in_default-clause-there c =
    let parts = c.self.inside.parts.items in
    let none = none_in_parts c.args.i c.args.j parts (rw c.deref.ensures.value at c.in_default.ensures) in
    rw (← c.self.view_is) (sym (ap is_some none))

changed : (c : After-self-1)
    → AreChanged c.args.i c.args.j (Some c.args.word) c.self.inside.rows c.self.inside.cols c.self.inside.parts.items (set c.self.inside.parts.items c.in-Some.at c.set.new.self)
changed c =
    let b = c.self.inside in
    let parts = b.parts.items in
    let found = rw c.deref.ensures.value at c.in-Some.ensures in
    let old = c.index_mut.result.now in
    let put = c.set.ensures in
    let there : content_of old c.args.i c.args.j ≢ None = λ none. found.1 old (ap (λ s. content_of s c.args.i c.args.j) (sym c.index_mut.ensures.value) ∙ none) in
    part_changed c.args.i c.args.j (Some c.args.word) b.rows b.cols parts c.in-Some.at old c.set.new.self c.self.invariant.are found.0 found.1 c.index_mut.ensures.value put.rows put.cols put.stored
    (sure c.set.result (content_of old c.args.i c.args.j ≡ None) _ put.absent there put.content)

pub invariant_of-self : goal.invariant_of-self
invariant_of-self c =
    let b = c.self.inside in
    let parts = b.parts.items in
    spans_changed c.args.i c.args.j (Some c.args.word) b.rows b.cols b.spans.items parts (set parts c.in-Some.at c.set.new.self) c.self.invariant (changed (search rules)) (length-set parts c.in-Some.at c.set.new.self)

pub returns-clause-there : goal.returns-clause-there
returns-clause-there c =
    let parts = c.self.inside.parts.items in
    let found = rw c.deref.ensures.value at c.in-Some.ensures in
    let old = c.index_mut.result.now in
    let word = word_in_part c.args.i c.args.j parts c.in-Some.at old c.self.invariant.are.apart found.0 found.1 in
    rw (← c.self.view_is) (sym (ap is_some word ∙ is_there (content_of (get_or parts c.in-Some.at old) c.args.i c.args.j) (found.1 old)))

pub returns-clause-content : goal.returns-clause-content
returns-clause-content c = λ p q. rw (← c.self.view_is) ((changed (search rules)).words p q)
