-- The indices from a place on are searched.
use Rattle.std.proofs.Common.{◌≡◌, ◌∙◌, ◌+◌, ◌-◌, ◌<◌, ap, get_or, length, arith, drop, take, inl, inr}
use Rattle.std.proofs.lemmas.Bool.{cases_lt}
use Rattle.std.proofs.lemmas.List.{get_or-drop, get_or-take, length-drop, length-take, length-take-le, take_rest}
use Rattle.store.proofs.Order.{all_take}
use Rattle.masks.proofs.keep.place_from.Goals as goal

pub returns-clause-passed : goal.returns-clause-passed
returns-clause-passed c = λ before.
    let xs = c.args.inner.now in
    let start = c.args.from in
    let n = c.place_in.result in
    let found = rw (take_rest xs start) at c.place_in.ensures.before in
    let few = rw (take_rest xs start) at c.place_in.ensures.bound in
    all_take (λ y. y < c.args.index) (start + n) xs
    (λ k d low high.
    elim (cases_lt k start) [
      | inl less ↦ let is = get_or-take start xs k d less in let small : get_or (take start xs) k d < c.args.index = before k d (omega (arith, length-take start xs, c.requires.bound)) in rw is at small
      | inr more ↦
          let at : start + (k - start) ≡ k = omega arith in
          let inside : k - start < n = omega arith in
          let small : get_or (take n (drop start xs)) (k - start) d < c.args.index = found (k - start) d (omega (arith, inside, length-take-le n (drop start xs) few)) in
          let is = get_or-take n (drop start xs) (k - start) d inside ∙ (get_or-drop start xs (k - start) d ∙ ap (λ k. get_or xs k d) at) in
          rw is at small
    ])

pub returns-clause-left : goal.returns-clause-left
returns-clause-left c = λ k d within.
    let xs = c.args.inner.now in
    let start = c.args.from in
    let n = c.place_in.result in
    let rest = rw (take_rest xs start) at c.place_in.ensures.left in
    let few = rw (take_rest xs start) at c.place_in.ensures.bound in
    let there : k < length (drop n (drop start xs)) = omega (arith, within, length-drop (start + n) xs, length-drop n (drop start xs), length-drop start xs) in
    let big = rest k d there in
    let is = get_or-drop n (drop start xs) k d ∙ (get_or-drop start xs (n + k) d ∙ ap (λ k. get_or xs k d) (omega arith)) in
    rw (get_or-drop (start + n) xs k d) (rw is at big)
