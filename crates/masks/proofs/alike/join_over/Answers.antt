-- The words of both sides at the places of the right one.
use Rattle.std.proofs.Common.{◌≡◌, ◌∙◌, ap, eqb, length, map, refl, rules, sym}
use Rattle.std.proofs.lemmas.List.{with_items_is}
use Rattle.lanes.specs.Lists.{zip_with}
use Rattle.model.specs.Entries.{word_at}
use Rattle.store.specs.Fibers.{entries_in}
use Rattle.store.specs.Stored.{AreIn, along}
use Rattle.store.proofs.PartLaws.{LiesIn, are_in, lies_in}
use Rattle.masks.specs.Joins.{HaveSamePlaces, alone_of, beside, both_of}
use Rattle.masks.proofs.Joins.{join_along}
use Rattle.masks.proofs.SamePlaces.{along_twice, beside_either, beside_places, count_over, flat_over, places_all}
use Rattle.masks.proofs.alike.join_over.Goals as goal
use Rattle.masks.proofs.alike.join_over.Goals.{After-join_both, After-into_lists-ends}

-- the entries of the block as they lie stand at the positions of those of the left side
same : (c : After-into_lists-ends) → HaveSamePlaces c.args.left.now.entries (entries_in c.into_lists-ends.result)
same c =
    let cols = c.args.right.cols in
    let b = entries_in c.into_lists-ends.result in
    let is : b ≡ along cols c.args.right.entries = sym (along_twice cols b) ∙ ap (along cols) c.into_lists-ends.ensures.entries in
    rw is c.requires

-- the words that are made
made : (c : After-join_both) → c.join_both.new.words ≡ zip_with (both_of c.args.by) (map (λ e. e.word) c.args.left.now.entries) c.into_lists-ends.result.words.items
made c = c.join_both.ensures.words ∙ rw (c.words-lefts.ensures, c.deref.ensures.value) refl

pub join_both-requires-clause-rights : goal.join_both-requires-clause-rights
join_both-requires-clause-rights c =
    let lists = c.into_lists-ends.result in
    let count = count_over c.args.left.now.entries lists.ends.items lists.inner.items lists.words.items c.into_lists-ends.ensures.flat (same (search rules)) in
    let lefts = ap length c.words-lefts.ensures in
    let rights = ap length c.deref.ensures.value in
    let words = ap length c.deref_mut.ensures.value in
    search rules

pub of_fibers-requires-clause-flat : goal.of_fibers-requires-clause-flat
of_fibers-requires-clause-flat c =
    let lists = c.into_lists-ends.result in
    rw (with_items_is c.resize.new.self c.join_both.new.words (search rules), made (search rules))
    (flat_over (both_of c.args.by) c.args.left.now.entries lists.ends.items lists.inner.items lists.words.items c.into_lists-ends.ensures.flat (same (search rules))).0

pub of_fibers-requires-clause-inside : goal.of_fibers-requires-clause-inside
of_fibers-requires-clause-inside c =
    let lists = c.into_lists-ends.result in
    let first = c.args.right.first in
    let past = c.args.right.past in
    let cols = c.args.right.cols in
    let f = both_of c.args.by in
    let a = c.args.left.now.entries in
    let b = entries_in lists in
    let in_b : AreIn first past cols (along cols b) = rw c.into_lists-ends.ensures.entries c.into_lists-ends.ensures.inside in
    rw (
      c.first-first.ensures,
      c.past-past.ensures,
      c.cols-cols.ensures,
      with_items_is c.resize.new.self c.join_both.new.words (search rules),
      made (search rules),
      (flat_over f a lists.ends.items lists.inner.items lists.words.items c.into_lists-ends.ensures.flat (same (search rules))).1,
    )
    (are_in first past cols (beside f a b) (places_all (LiesIn (eqb cols 1) first past cols) (beside f a b) b (beside_places f a b (same (search rules)) ∙ same (search rules)) (lies_in first past cols b in_b)))

pub returns-clause-words : goal.returns-clause-words
returns-clause-words c i j =
    let lists = c.into_lists-ends.result in
    let cols = c.args.right.cols in
    let by = c.args.by in
    let f = both_of by in
    let a = c.args.left.now.entries in
    let b = entries_in lists in
    let is : c.of_fibers.result.entries ≡ along cols (beside f a b) =
    c.of_fibers.ensures.entries
    ∙ rw (
      c.cols-cols.ensures,
      with_items_is c.resize.new.self c.join_both.new.words (search rules),
      made (search rules),
      (flat_over f a lists.ends.items lists.inner.items lists.words.items c.into_lists-ends.ensures.flat (same (search rules))).1,
    ) refl in
    ap (λ es. word_at es i j) is
    ∙ join_along (alone_of by) f cols a b (beside f a b) (λ i j. beside_either (alone_of by) f a b i j (same (search rules))) i j
    ∙ rw c.into_lists-ends.ensures.entries refl
