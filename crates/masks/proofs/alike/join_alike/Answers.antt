use Rattle.std.proofs.Common.{◌≡◌, ◌∙◌, length, map, refl, rules}
use Rattle.std.proofs.lemmas.List.{with_items_is}
use Rattle.lanes.specs.Lists.{zip_with}
use Rattle.store.specs.Fibers.{outers}
use Rattle.masks.specs.Joins.{both_of}
use Rattle.masks.proofs.SamePlaces.{flat_beside, placed_beside}
use Rattle.masks.proofs.alike.join_alike.Goals as goal

pub returns-clause-flat : goal.returns-clause-flat
returns-clause-flat c =
    let a = c.args.left.now.entries in
    let b = c.args.right.now.entries in
    let f = both_of c.args.by in
    let ends = c.in_ok-ends.ends.items in
    let inner = c.in_ok-ends.inner.items in
    let lefts = map (λ e. e.word) a in
    let made : c.join_both.new.words ≡ zip_with f lefts (map (λ e. e.word) b) = c.join_both.ensures.words ∙ rw (c.words-lefts.ensures, c.words-rights.ensures) refl in
    let long : length c.join_both.new.words ≡ length lefts = c.join_both.ensures.length ∙ search rules in
    let is = with_items_is c.resize.new.self c.join_both.new.words (search rules) in
    rw is (flat_beside f ends inner lefts c.join_both.new.words a b c.in_ok-ends.ensures.flat long c.in_ok-ends.ensures.entries
    (rw made (placed_beside f (outers 0 ends) inner a b c.in_ok-ends.ensures.entries c.requires)) c.requires)

pub returns-clause-entries : goal.returns-clause-entries
returns-clause-entries c =
    let a = c.args.left.now.entries in
    let b = c.args.right.now.entries in
    let f = both_of c.args.by in
    let made : c.join_both.new.words ≡ zip_with f (map (λ e. e.word) a) (map (λ e. e.word) b) = c.join_both.ensures.words ∙ rw (c.words-lefts.ensures, c.words-rights.ensures) refl in
    let is = with_items_is c.resize.new.self c.join_both.new.words (search rules) in
    rw (is, made) (placed_beside f (outers 0 c.in_ok-ends.ends.items) c.in_ok-ends.inner.items a b c.in_ok-ends.ensures.entries c.requires)
