-- Lists without a fiber hold no entry.
use Rattle.std.proofs.Common.{◌≡◌, ◌∙◌, ◌∷◌, ap, length, sym, arith}
use Rattle.std.specs.List.{filter}
use Rattle.std.proofs.lemmas.Bool.Decides.{nat_tests}
use Rattle.store.proofs.Contents.{no_entries}
use Rattle.store.proofs.FlatLaws.{flat_none}
use Rattle.store.proofs.Walks.{no_lines}
use Rattle.elementwise.specs.Kept.{passes_as_it_lies}
use Rattle.elementwise.proofs.passing.pass_fibers.Goals as goal

pub returns-then-is_empty-clause-flat : goal.returns-then-is_empty-clause-flat
returns-then-is_empty-clause-flat c = rw (c.new.ensures.ends, c.new.ensures.inner, c.new.ensures.words) flat_none

pub returns-then-is_empty-clause-entries : goal.returns-then-is_empty-clause-entries
returns-then-is_empty-clause-entries c =
    let f = c.flat-flat.result in
    let none : length f.inner.now ≡ 0 = grind (arith, nat_tests) in
    no_entries 0 c.new.result.ends.items c.new.result.inner.items c.new.result.words.items c.new.ensures.ends
    ∙ ap (filter (passes_as_it_lies c.args.test)) (sym (c.flat-flat.ensures.entries ∙ no_lines f.from (f.head ∷ f.others.now) f.inner.now f.words.now none))
