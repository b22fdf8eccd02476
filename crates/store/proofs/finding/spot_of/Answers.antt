use Rattle.std.proofs.Common.{◌≡◌, ◌≢◌, ◌+◌, ◌<◌, ◌≤◌, ℕ, List, length, get_or, drop, inl, inr, arith, length-drop, refl}
use Rattle.std.specs.List.{All, AllPairs}
use Rattle.std.proofs.lemmas.Bool.{cases_eq}
use Rattle.std.proofs.lemmas.List.{get_or-drop, get_or_default}
use Rattle.store.specs.declared.lists.FiberEnd.{FiberEnd}
use Rattle.store.specs.Fibers.{end_at}
use Rattle.store.proofs.Places.{at_fiber, at_no_fiber, fiber_more}
use Rattle.store.proofs.finding.spot_of.Goals as goal
use Rattle.store.proofs.finding.spot_of.Goals.{else-fiber-ends-via-then-fiber-ends+else-ends-fiber, else-fiber-ends-via-else-fiber-ends}

above : (ends : List FiberEnd) (k outer : ℕ) → AllPairs (λ r s. r.outer < s.outer) ends
    → All (λ r. outer ≤ r.outer) (drop k ends) → (k < length ends → (get_or ends k (end_at 0 0)).outer ≢ outer)
    → All (λ (r : FiberEnd). outer < r.outer) (drop k ends)
above ends k outer apart behind other n d within =
    let room : k + n < length ends = omega (arith, length-drop k ends) in
    let low : outer ≤ (get_or (drop k ends) n d).outer = behind n d within in
    elim (cases_eq n 0) [
      | inl none ↦
          let same : k + n ≡ k = omega arith in
          let is : (get_or (drop k ends) n d).outer ≡ (get_or ends k (end_at 0 0)).outer = rw (get_or-drop k ends n d, same, get_or_default ends k d (end_at 0 0) (omega arith)) refl in
          let no = other (omega arith) in
          omega arith
      | inr some ↦
          let first : outer ≤ (get_or ends k d).outer = let b = behind 0 d (omega (arith, length-drop k ends)) in let z : k + 0 ≡ k = omega arith in rw z at (rw (get_or-drop k ends 0 d) at b) in
          let less = apart k (k + n) d (omega arith) room in
          rw (get_or-drop k ends n d) (omega arith)
    ]

pub returns-then-ends-fiber-clause-at : goal.returns-then-ends-fiber-clause-at
returns-then-ends-fiber-clause-at c =
    rw c.end_of-start.ensures (at_fiber c.args.outer c.args.fiber c.args.ends.now (end_at 0 0) c.requires.rises c.requires.apart c.if-fiber-ends.true c.requires.before c.if-ends-fiber.true)

pub returns-then-ends-fiber-clause-absent : goal.returns-then-ends-fiber-clause-absent
returns-then-ends-fiber-clause-absent c none =
    let some = fiber_more c.args.fiber c.args.ends.now (end_at 0 0) c.requires.rises c.if-fiber-ends.true in
    let start = c.end_of-start.ensures in
    absurd (omega arith)

pub returns-clause-absent : goal.returns-clause-absent
returns-clause-absent c _ =
    above c.args.ends.now c.args.fiber c.args.outer c.requires.apart c.requires.behind (λ within. elim c.else-fiber-ends.branch [
      | else-fiber-ends-via-then-fiber-ends+else-ends-fiber w ↦ w.if-ends-fiber.false
      | else-fiber-ends-via-else-fiber-ends w ↦ absurd (let e = w.if-fiber-ends.false in omega arith)
    ])

pub returns-clause-at : goal.returns-clause-at
returns-clause-at c =
    rw c.end_of-start.ensures (at_no_fiber c.args.outer c.args.fiber c.args.ends.now c.requires.rises c.requires.before (returns-clause-absent c (omega arith)))
