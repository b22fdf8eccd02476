use Rattle.std.proofs.Common.{◌≡◌, ◌<◌, length, arith}
use Rattle.std.proofs.lemmas.Bool.Decides.{nat_tests}
use Rattle.store.proofs.Walks.{count_lines}
use Rattle.masks.proofs.PairLaws.{not_one, one_fiber, one_rises}
use Rattle.masks.proofs.pair.only_fiber.Goals as goal
use Rattle.masks.proofs.pair.only_fiber.Goals.{then-is_empty-via-then-is_empty, then-is_empty-via-else-is_empty+then-not-is_empty}

pub returns-then-is_empty-clause-none : goal.returns-then-is_empty-clause-none
returns-then-is_empty-clause-none c = λ outer some same.
    let w = c.flat.result in
    let count = count_lines w.from w.head w.others.now w.inner.now w.words.now c.flat.ensures.left in
    let whole = rw c.flat.ensures.entries at some in
    let has : 0 < length w.inner.now = omega arith in
    elim c.then-is_empty.branch [
      | then-is_empty-via-then-is_empty v ↦ let none : length w.inner.now ≡ 0 = grind (arith, nat_tests) in absurd (omega arith)
      | then-is_empty-via-else-is_empty+then-not-is_empty v ↦
          let more : 0 < length w.others.now = grind (arith, nat_tests) in
          not_one w.from w.head w.others.now w.inner.now w.words.now outer c.flat.ensures.left has more (rw c.flat.ensures.entries at same)
    ]

pub returns-clause-some : goal.returns-clause-some
returns-clause-some c =
    let w = c.flat.result in
    let count = count_lines w.from w.head w.others.now w.inner.now w.words.now c.flat.ensures.left in
    let has : 0 < length w.inner.now = grind (arith, nat_tests) in
    rw c.flat.ensures.entries (omega arith)

pub returns-clause-entries : goal.returns-clause-entries
returns-clause-entries c =
    let w = c.flat.result in
    rw c.flat.ensures.entries (one_fiber w.from w.head w.others.now w.inner.now w.words.now c.flat.ensures.left (grind (arith, nat_tests)) (grind (arith, nat_tests)))

pub returns-clause-rises : goal.returns-clause-rises
returns-clause-rises c =
    let w = c.flat.result in
    one_rises w.from w.head w.others.now w.inner.now w.words.now c.flat.ensures.left (grind (arith, nat_tests)) (grind (arith, nat_tests))
