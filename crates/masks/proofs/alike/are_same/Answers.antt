use Rattle.std.proofs.Common.{◌∙◌, arith, ap, map, refl, sym, take}
use Rattle.std.proofs.lemmas.List.{map-append, take_all, take_more}
use Rattle.store.specs.declared.lists.FiberEnd.{FiberEnd}
use Rattle.store.specs.Fibers.{end_back}
use Rattle.masks.proofs.SameEnds.{fiber_back, long_back}
use Rattle.masks.proofs.alike.are_same.Goals as goal

pub returns-then-a-b : goal.returns-then-a-b
returns-then-a-b c = (λ no. absurd cc, λ same. absurd (let long = long_back c.args.a_from c.args.b_from c.args.a.now c.args.b.now same in c.if-a-b.true long))

pub returns-then-not-is_same : goal.returns-then-not-is_same
returns-then-not-is_same c = (
  λ no. absurd cc,
  λ same. let is = c.is_same.ensures.1 (fiber_back c.args.a_from c.args.b_from c.args.a.now c.args.b.now c.loop-k.k same c.loop-k-test.true c.if-a-b.false) in cc,
)

pub loop-k-preserved : goal.loop-k-preserved
loop-k-preserved c =
    let s = c.loop-k in
    let d : FiberEnd = record { outer = 0; end = 0 } in
    let a = c.args.a.now in
    let b = c.args.b.now in
    let f = end_back c.args.a_from in
    let g = end_back c.args.b_from in
    let here = c.is_same.ensures.0 c.if-not-is_same.false in
    record {
      long = s.invariant.long;
      same =
          ap (map f) (take_more a s.k d c.loop-k-test.true) ∙ map-append f (take s.k a) _
          ∙ rw (s.invariant.same, here) (sym (ap (map g) (take_more b s.k d (omega (arith, c.loop-k-test.true, s.invariant.long))) ∙ map-append g (take s.k b) _));
    }

pub returns : goal.returns
returns c =
    let s = c.loop-k in
    let done = c.loop-k-test.false in
    let long = s.invariant.long in
    let all = take_all s.k c.args.a.now (omega arith) in
    let all' = take_all s.k c.args.b.now (omega arith) in
    (λ yes. rw (all, all') at s.invariant.same, λ same. refl)
