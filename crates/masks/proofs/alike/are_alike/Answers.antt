use Rattle.std.proofs.Common.{◌≡◌, ◌<◌, ◌∷◌, arith, length, refl, rules}
use Rattle.std.proofs.lemmas.Bool.Decides.{nat_tests}
use Rattle.store.proofs.CopyLaws.{ends_behind}
use Rattle.masks.proofs.SameEnds.{counts_told, ends_told, same_counts, none_told, places_told}
use Rattle.masks.proofs.alike.are_alike.Goals as goal

pub returns-then-a-b : goal.returns-then-a-b
returns-then-a-b c =
    let a = c.flat-a.result in
    let b = c.flat-b.result in (
      λ no. absurd cc,
      λ same. absurd (
          let count = counts_told a.from a.head a.others.now a.inner.now a.words.now c.args.left.now.entries c.flat-a.ensures.left c.flat-a.ensures.entries in
          let count' = counts_told b.from b.head b.others.now b.inner.now b.words.now c.args.right.now.entries c.flat-b.ensures.left c.flat-b.ensures.entries in
          let all = same_counts c.args.left.now.entries c.args.right.now.entries same in
          c.if-a-b.true (omega arith)
          ),
    )

pub returns-then-is_empty : goal.returns-then-is_empty
returns-then-is_empty c =
    let a = c.flat-a.result in
    let b = c.flat-b.result in
    let none : length a.inner.now ≡ 0 = grind (arith, nat_tests) in
    (λ yes. none_told a.from a.head a.others.now a.inner.now a.words.now b.from b.head b.others.now b.inner.now b.words.now c.args.left.now.entries c.args.right.now.entries c.flat-a.ensures.entries c.flat-b.ensures.entries none (omega (arith, c.if-a-b.false)), λ same. refl)

pub have_same_ends-requires-clause-a : goal.have_same_ends-requires-clause-a
have_same_ends-requires-clause-a c =
    let a = c.flat-a.result in
    let some : 0 < length a.inner.now = grind (arith, nat_tests) in
    ends_behind a.from (a.head ∷ a.others.now) a.from (omega arith) (c.flat-a.ensures.left.rises some)

pub have_same_ends-requires-clause-b : goal.have_same_ends-requires-clause-b
have_same_ends-requires-clause-b c =
    let a = c.flat-a.result in
    let b = c.flat-b.result in
    let some : 0 < length a.inner.now = grind (arith, nat_tests) in
    ends_behind b.from (b.head ∷ b.others.now) b.from (omega arith) (c.flat-b.ensures.left.rises (omega (arith, c.if-a-b.false)))

pub returns-then-have_same_inner : goal.returns-then-have_same_inner
returns-then-have_same_inner c =
    let a = c.flat-a.result in
    let b = c.flat-b.result in
    let some : 0 < length a.inner.now = grind (arith, nat_tests) in (
      λ yes. places_told a.from a.head a.others.now a.inner.now a.words.now b.from b.head b.others.now b.inner.now b.words.now c.args.left.now.entries c.args.right.now.entries
          c.flat-a.ensures.left c.flat-b.ensures.left c.flat-a.ensures.entries c.flat-b.ensures.entries some (c.have_same_ends.ensures.0 yes) (search rules),
      λ same.
          let told = ends_told a.from a.head a.others.now a.inner.now a.words.now b.from b.head b.others.now b.inner.now b.words.now c.args.left.now.entries c.args.right.now.entries
          c.flat-a.ensures.left c.flat-b.ensures.left c.flat-a.ensures.entries c.flat-b.ensures.entries some (omega (arith, c.if-a-b.false)) same in
          c.have_same_ends.ensures.1 told.0,
    )

pub returns-else-have_same_inner : goal.returns-else-have_same_inner
returns-else-have_same_inner c =
    let a = c.flat-a.result in
    let b = c.flat-b.result in
    let some : 0 < length a.inner.now = grind (arith, nat_tests) in (
      λ yes. absurd (cc),
      λ same.
          let told = ends_told a.from a.head a.others.now a.inner.now a.words.now b.from b.head b.others.now b.inner.now b.words.now c.args.left.now.entries c.args.right.now.entries
          c.flat-a.ensures.left c.flat-b.ensures.left c.flat-a.ensures.entries c.flat-b.ensures.entries some (omega (arith, c.if-a-b.false)) same in
          search rules,
    )
