use Rattle.std.proofs.Common.{◌≡◌, ◌∙◌, ◌++◌, [], ap, append_assoc, arith, inl, inr, length, length-append, refl, sym}
use Rattle.std.proofs.lemmas.Bool.{cases_eq}
use Rattle.std.proofs.lemmas.List.{append-nil, nil_from_length}
use Rattle.store.specs.Fibers.{entries_along}
use Rattle.store.proofs.tuples.list_fibers.Goals as goal

pub loop-rest-init : goal.loop-rest-init
loop-rest-init c = refl

pub loop-rest-smaller : goal.loop-rest-smaller
loop-rest-smaller c =
    let row = entries_along c.outer-outer.result c.split-others.result.0.now c.split-others.result.1.now in
    let others = c.split-others.result.2.entries in
    let whole = c.split-others.ensures.whole in
    let long = ap length whole in
    let count = c.len-in-loop-rest.ensures.count in
    let some = c.loop-rest-test.true in
    let both = length-append row others in
    elim (cases_eq (length row) 0) [
      | inl none ↦
          let same : c.loop-rest.rest.entries ≡ others = whole ∙ rw (nil_from_length row none) refl in
          let gone = c.outer-outer.ensures.there (rw same c.split-others.ensures.behind) in
          absurd (omega arith)
      | inr more ↦ omega arith
    ]

pub loop-rest-preserved : goal.loop-rest-preserved
loop-rest-preserved c =
    let row = entries_along c.outer-outer.result c.split-others.result.0.now c.split-others.result.1.now in
    let others = c.split-others.result.2.entries in
    rw c.in_ok-list_fiber.ensures (append_assoc c.loop-rest.list.items row others ∙ ap (λ es. c.loop-rest.list.items ++ es) (sym c.split-others.ensures.whole) ∙ c.loop-rest.invariant)

pub returns : goal.returns
returns c =
    let count = c.len-in-loop-rest.ensures.count in
    let past = c.loop-rest-test.false in
    let none : c.loop-rest.rest.entries ≡ [] = nil_from_length c.loop-rest.rest.entries (omega arith) in
    let all : c.loop-rest.list.items ++ [] ≡ c.reserve.new.self.items ++ c.args.fibers.entries = rw none at c.loop-rest.invariant in
    sym (append-nil c.loop-rest.list.items) ∙ all ∙ ap (λ es. es ++ c.args.fibers.entries) c.in_ok-reserve.ensures.items
