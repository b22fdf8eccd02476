use Rattle.std.proofs.Common.{◌≡◌, ◌∙◌, ◌++◌, ◌∷◌, ◌<◌, [], ap, append_assoc, arith, get_or, length, sym, take}
use Rattle.std.proofs.lemmas.List.{append-nil, take_all, take_more}
use Rattle.model.specs.Entries.{entry_at}
use Rattle.store.specs.Fibers.{entries_along}
use Rattle.store.proofs.Places.{length_row, row_at}
use Rattle.store.proofs.tuples.list_fiber.Goals as goal

pub loop-k-init : goal.loop-k-init
loop-k-init c = sym (append-nil c.args.list.now.items)

pub loop-k-preserved : goal.loop-k-preserved
loop-k-preserved c =
    let row = entries_along c.args.row c.args.cols.now c.args.words.now in
    let long = length_row c.args.row c.args.cols.now c.args.words.now c.requires in
    let within : c.loop-k.k < length row = omega (arith, c.loop-k-test.true) in
    let at = row_at c.args.row c.args.cols.now c.args.words.now c.loop-k.k (entry_at 0 0 0) c.requires c.loop-k-test.true in
    let more = take_more row c.loop-k.k (entry_at 0 0 0) within in
    let d = get_or row c.loop-k.k (entry_at 0 0 0) in
    let put : c.push.new.self.items ≡ c.loop-k.list.items ++ d ∷ [] = rw at c.in_ok-push.ensures.items in
    put ∙ ap (λ es. es ++ d ∷ []) c.loop-k.invariant ∙ append_assoc c.args.list.now.items (take c.loop-k.k row) (d ∷ []) ∙ ap (λ es. c.args.list.now.items ++ es) (sym more)

pub returns : goal.returns
returns c =
    let row = entries_along c.args.row c.args.cols.now c.args.words.now in
    let long = length_row c.args.row c.args.cols.now c.args.words.now c.requires in
    c.loop-k.invariant ∙ ap (λ es. c.args.list.now.items ++ es) (take_all c.loop-k.k row (omega (arith, c.loop-k-test.false)))
