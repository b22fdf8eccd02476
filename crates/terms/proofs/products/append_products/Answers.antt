use Rattle.std.proofs.Common.{◌≡◌, ◌++◌, ap, rules, sym, take}
use Rattle.std.proofs.lemmas.List.{with_items_is}
use Rattle.store.specs.Fibers.{entries_along}
use Rattle.terms.specs.Marked.{lets_marked}
use Rattle.terms.specs.Terms.{kept_terms, times_row}
use Rattle.terms.proofs.Kept.{kept_all}
use Rattle.terms.proofs.products.append_products.Goals as goal

pub returns-in-None-clause-terms : goal.returns-in-None-clause-terms
returns-in-None-clause-terms c =
    let products = times_row c.args.multiply c.args.word (entries_along 0 c.args.cols.now c.args.words.now) in
    let all : products ≡ kept_terms (lets_marked c.args.mask) products = rw c.in-None.is (sym (kept_all products)) in
    let was : c.deref_mut-in-None.result.now ≡ c.make_room.new.terms.items = c.deref_mut-in-None.ensures.value in
    rw (with_items_is c.make_room.new.terms c.write_all.new.terms (search rules), c.write_all.ensures.terms, was, c.in_ok-make_room.ensures.before) (ap (λ ts. take c.args.end c.args.terms.now.items ++ ts) all)
