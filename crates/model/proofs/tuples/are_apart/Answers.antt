use Rattle.std.proofs.Common.{◌≡◌, ◌+◌, ◌∙◌, ◌∷◌, drop, get_or, ap, sym, rules}
use Rattle.std.specs.List.{AllPairs}
use Rattle.std.proofs.lemmas.List.{drop_more}
use Rattle.model.specs.Builds.{are_apart}
use Rattle.model.specs.Entries.{IsNotBehind, entry_at}
use Rattle.model.proofs.TupleLaws.{apart_next, pairs_tail}
use Rattle.model.proofs.tuples.are_apart.Goals as goal

pub loop-entry-init : goal.loop-entry-init
loop-entry-init c =
    let whole : c.args.sorted.now ≡ c.in-Some.first.now ∷ c.in-Some.rest.now = search rules in
    record {
      order = rw whole at c.requires;
      same = sym (ap are_apart whole);
    }

pub loop-entry-preserved : goal.loop-entry-preserved
loop-entry-preserved c =
    let here = c.loop-entry.invariant in
    let last = c.loop-entry.last in
    let k = c.loop-entry.entry-index in
    let d = entry_at 0 0 0 in
    let e = get_or c.in-Some.rest.now k d in
    let left = drop (k + 1) c.in-Some.rest.now in
    let more = drop_more c.in-Some.rest.now k d c.loop-entry-test.true in
    let order : AllPairs IsNotBehind (last ∷ e ∷ left) = rw more at here.order in
    let same : are_apart (last ∷ e ∷ left) ≡ are_apart c.args.sorted.now = rw more at here.same in
    record {
      order = pairs_tail IsNotBehind last (e ∷ left) order;
      same = sym (apart_next last e left order (sym c.shares_position.ensures ∙ c.if-shares_position.false)) ∙ same;
    }
