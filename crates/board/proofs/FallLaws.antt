-- Slots that fail with others.
use Rattle.std.proofs.Common.{inl, inr, ◌≡◌, ◌≢◌, ◌∙◌, ℕ, zero, suc, ◌<◌, ◌≤◌, ◌&&◌, ◌||◌, Bool, true, false, cond, ltb, List, length, not, Option, Some, None, slice_get, slice_set, refl, sym, ap, arith, subst}
use Rattle.std.specs.Prelude.{nat_le}
use Rattle.std.proofs.lemmas.Bool.{and_parts, cases_Bool, cases_eq, cases_lt, le-leb, lt-leb, ltb-true}
use Rattle.std.proofs.lemmas.Option.{slice_get_within}
use Rattle.calls.specs.declared.role.Role.{Role}
use Rattle.calls.specs.Roles.{role_of}
use Rattle.std.specs.Option.{option_map_or}
use Rattle.board.specs.Falls.{KeepsReady, fall_at, fallen, fallen_below, falls}
use Rattle.stages.specs.Flows.{Flows, FlowsBelow, IsWaked}
use Rattle.stages.specs.Places.{each}
use Rattle.stages.specs.Progress.{Progress, Untaken, Running, Joining, Made, Moved, Failed, allows, is_failed, is_made, is_unfinished, is_untaken}
use Rattle.stages.specs.Tasks.{Task}
use Rattle.stages.specs.Numbers.{has_in}
use Rattle.stages.specs.Views.{is_fed, is_ready, offered}
use Rattle.stages.proofs.FlowLaws.{below}
use Rattle.stages.proofs.NumberLaws.{numbers_same}
use Rattle.stages.proofs.ReadyLaws.{fed_at, made_same, ready_not, ready_other, untaken_some}
use Rattle.stages.proofs.ListLaws.{get_set, get_set_other, get_set_same, length_set}
use Rattle.stages.proofs.PlaceLaws.{each-at, each-from, each-then}

or_true : (x y : Bool) → x ≡ true → (x || y) ≡ true
or_true true y h = refl
or_true false y h = absurd cc

-- slots that rest on others as they must do so below any number
pub flows_weaken : (n : ℕ) (ts : List Task) (ps : List Progress) → Flows ts ps → FlowsBelow n ts ps
flows_weaken n ts ps flows = record {
  sized = flows.sized;
  lower = flows.lower;
  allowed = λ k t p is at. each-then (λ i. allows p (slice_get ps i)) (λ i. allows p (slice_get ps i) || (nat_le n k && (is_unfinished p && is_failed (slice_get ps i)))) t.inputs (flows.allowed k t p is at)
      (λ role i takes h. or_true (allows p (slice_get ps i)) (nat_le n k && (is_unfinished p && is_failed (slice_get ps i))) h);
}

-- below all of them
pub flows_all : (ts : List Task) (ps : List Progress) → FlowsBelow (length ts) ts ps → Flows ts ps
flows_all ts ps flows = record {
  sized = flows.sized;
  lower = flows.lower;
  allowed = λ k t p is at. each-then (λ i. allows p (slice_get ps i) || (nat_le (length ts) k && (is_unfinished p && is_failed (slice_get ps i)))) (λ i. allows p (slice_get ps i)) t.inputs (flows.allowed k t p is at)
      (λ role i takes h.
      let low : k < length ts = slice_get_within ts k t is in
      only (allows p (slice_get ps i)) (nat_le (length ts) k) (is_unfinished p && is_failed (slice_get ps i)) (lt-leb (length ts) k low) h);
}
  where
    only : (x y z : Bool) → y ≡ false → (x || (y && z)) ≡ true → x ≡ true
    only true y z e h = refl
    only false true z e h = absurd cc
    only false false z e h = absurd cc

-- a slot that isn't to fail
pub flows_skip : (n : ℕ) (ts : List Task) (ps : List Progress) (t : Task) (p : Progress) → FlowsBelow n ts ps → slice_get ts n ≡ Some t → slice_get ps n ≡ Some p
    → (is_unfinished p && not (each (λ i. not (is_failed (slice_get ps i))) t.inputs)) ≡ false → FlowsBelow (suc n) ts ps
flows_skip n ts ps t p flows is at stays = record {
  sized = flows.sized;
  lower = flows.lower;
  allowed = λ k u q there has. elim (cases_eq k n) [
    | inl e ↦
        let task : t ≡ u = let x : Some t ≡ Some u = sym is ∙ (ap (slice_get ts) (sym e) ∙ there) in cc (x) in
        let same : p ≡ q = let x : Some p ≡ Some q = sym at ∙ (ap (slice_get ps) (sym e) ∙ has) in cc (x) in
        each-then (λ i. allows q (slice_get ps i) || (nat_le n k && (is_unfinished q && is_failed (slice_get ps i)))) (λ i. allows q (slice_get ps i) || (nat_le (suc n) k && (is_unfinished q && is_failed (slice_get ps i)))) u.inputs (flows.allowed k u q there has)
        (λ role i takes h. or_true (allows q (slice_get ps i)) (nat_le (suc n) k && (is_unfinished q && is_failed (slice_get ps i)))
        (strong (allows q (slice_get ps i)) (nat_le n k) (is_unfinished q) (is_failed (slice_get ps i)) h
        (unfailed q (subst (λ w. (is_unfinished w && not (each (λ i. not (is_failed (slice_get ps i))) t.inputs)) ≡ false) same stays) role i (ap (λ (w : Task). role_of w.inputs role) task ∙ takes))))
    | inr far ↦
        each-then (λ i. allows q (slice_get ps i) || (nat_le n k && (is_unfinished q && is_failed (slice_get ps i)))) (λ i. allows q (slice_get ps i) || (nat_le (suc n) k && (is_unfinished q && is_failed (slice_get ps i)))) u.inputs (flows.allowed k u q there has)
        (λ role i takes h. ap (λ b. allows q (slice_get ps i) || (b && (is_unfinished q && is_failed (slice_get ps i)))) (above k far) ∙ h)
  ];
}
  where
    above : (k : ℕ) → k ≢ n → nat_le (suc n) k ≡ nat_le n k
    above k far = elim (cases_lt k n) [
      | inl low ↦ lt-leb (suc n) k (omega (arith, low)) ∙ sym (lt-leb n k low)
      | inr high ↦ le-leb (suc n) k (omega (arith, high, far)) ∙ sym (le-leb n k high)
    ]

    strong : (x y u f : Bool) → (x || (y && (u && f))) ≡ true → (u ≡ true → f ≡ false) → x ≡ true
    strong true y u f h g = refl
    strong false true true true h g = absurd (let e = g refl in cc (e))
    strong false true true false h g = absurd cc
    strong false true false f h g = absurd cc
    strong false false u f h g = absurd cc

    unfailed : (q : Progress) → (is_unfinished q && not (each (λ i. not (is_failed (slice_get ps i))) t.inputs)) ≡ false → (role : Role) (i : ℕ) → role_of t.inputs role ≡ Some i
        → is_unfinished q ≡ true → is_failed (slice_get ps i) ≡ false
    unfailed q h role i takes un =
        let all : each (λ i. not (is_failed (slice_get ps i))) t.inputs ≡ true = from (is_unfinished q) (each (λ i. not (is_failed (slice_get ps i))) t.inputs) un h in
        not_true (is_failed (slice_get ps i)) (each-at (λ i. not (is_failed (slice_get ps i))) t.inputs all role i takes)
      where
        from : (a b : Bool) → a ≡ true → (a && not b) ≡ false → b ≡ true
        from true true e h = refl
        from true false e h = absurd cc
        from false b e h = absurd cc

        not_true : (b : Bool) → not b ≡ true → b ≡ false
        not_true true h = absurd cc
        not_true false h = refl

-- a slot that fails
pub flows_fall : (n : ℕ) (ts : List Task) (ps : List Progress) (t : Task) (p : Progress) → FlowsBelow n ts ps → slice_get ts n ≡ Some t → slice_get ps n ≡ Some p
    → is_unfinished p ≡ true → FlowsBelow (suc n) ts (slice_set ps n Failed)
flows_fall n ts ps t p flows is at un = record {
  sized = length_set ps n Failed ∙ flows.sized;
  lower = flows.lower;
  allowed = λ k u q there has. get_set ps n k Failed q has
      (λ e same. each-from (λ i. allows q (slice_get (slice_set ps n Failed) i) || (nat_le (suc n) k && (is_unfinished q && is_failed (slice_get (slice_set ps n Failed) i)))) u.inputs
      (λ role i takes. ap (λ r. allows r (slice_get (slice_set ps n Failed) i) || (nat_le (suc n) k && (is_unfinished r && is_failed (slice_get (slice_set ps n Failed) i)))) (sym same)))
      (λ far before. each-then (λ i. allows q (slice_get ps i) || (nat_le n k && (is_unfinished q && is_failed (slice_get ps i)))) (λ i. allows q (slice_get (slice_set ps n Failed) i) || (nat_le (suc n) k && (is_unfinished q && is_failed (slice_get (slice_set ps n Failed) i)))) u.inputs (flows.allowed k u q there before)
      (λ role i takes h.
      let low : i < k = ltb-true i k (each-at (λ j. ltb j k) u.inputs (flows.lower k u there) role i takes) in
      elim (cases_eq i n) [
        | inl e ↦
            let high : nat_le (suc n) k ≡ true = le-leb (suc n) k (omega (arith, low, e)) in
            let now : slice_get (slice_set ps n Failed) i ≡ Some Failed = ap (slice_get (slice_set ps n Failed)) e ∙ get_set_same ps n Failed p at in
            let was : slice_get ps i ≡ Some p = ap (slice_get ps) e ∙ at in
            ap (λ o. allows q o || (nat_le (suc n) k && (is_unfinished q && is_failed o))) now
            ∙ (ap (λ b. allows q (Some Failed) || (b && (is_unfinished q && true))) high ∙ still q p (nat_le n k) un (ap (λ o. allows q o || (nat_le n k && (is_unfinished q && is_failed o))) (sym was) ∙ h))
        | inr apart ↦ ap (λ o. allows q o || (nat_le (suc n) k && (is_unfinished q && is_failed o))) (get_set_other ps n i Failed apart)
            ∙ (ap (λ b. allows q (slice_get ps i) || (b && (is_unfinished q && is_failed (slice_get ps i)))) (above k far) ∙ h)
      ]));
}
  where
    above : (k : ℕ) → k ≢ n → nat_le (suc n) k ≡ nat_le n k
    above k far = elim (cases_lt k n) [
      | inl low ↦ lt-leb (suc n) k (omega (arith, low)) ∙ sym (lt-leb n k low)
      | inr high ↦ le-leb (suc n) k (omega (arith, high, far)) ∙ sym (le-leb n k high)
    ]

    unmade : (p : Progress) → is_unfinished p ≡ true → is_made (Some p) ≡ false
    unmade Untaken h = refl
    unmade Running h = refl
    unmade Joining h = refl
    unmade Made h = absurd cc
    unmade Moved h = absurd cc
    unmade Failed h = absurd cc

    and_false : (b : Bool) → (b && false) ≡ false
    and_false true = refl
    and_false false = refl

    still : (q p : Progress) (b : Bool) → is_unfinished p ≡ true → (allows q (Some p) || (b && (is_unfinished q && is_failed (Some p)))) ≡ true
        → (allows q (Some Failed) || (true && (is_unfinished q && true))) ≡ true
    still Untaken p b un h = refl
    still Running p b un h = refl
    still Joining p b un h = refl
    still Made p b un h = absurd (let e : (is_made (Some p) || (b && false)) ≡ false = ap (λ x. x || (b && false)) (unmade p un) ∙ and_false b in cc (e, h))
    still Moved p b un h = absurd (let e : (is_made (Some p) || (b && false)) ≡ false = ap (λ x. x || (b && false)) (unmade p un) ∙ and_false b in cc (e, h))
    still Failed p b un h = refl

-- ---- readiness

pub unmade_now : (p : Progress) → is_unfinished p ≡ true → is_made (Some Failed) ≡ is_made (Some p)
unmade_now Untaken h = refl
unmade_now Running h = refl
unmade_now Joining h = refl
unmade_now Made h = absurd cc
unmade_now Moved h = absurd cc
unmade_now Failed h = absurd cc

-- a slot fails that couldn't be taken
pub keeps_fall : (ts : List Task) (ps : List Progress) (n : ℕ) (p : Progress) → slice_get ps n ≡ Some p → is_unfinished p ≡ true
    → is_ready ts ps n ≡ false → KeepsReady ts ps (slice_set ps n Failed)
keeps_fall ts ps n p at un unready = record {
  made = λ k. made_same ps n k p Failed at (unmade_now p un);
  untaken = λ k h. elim (cases_eq k n) [
    | inl e ↦ absurd (let x : is_untaken (slice_get (slice_set ps n Failed) k) ≡ false = ap (λ j. is_untaken (slice_get (slice_set ps n Failed) j)) e ∙ ap is_untaken (get_set_same ps n Failed p at) in cc (x, h))
    | inr far ↦ sym (ap is_untaken (get_set_other ps n k Failed far)) ∙ h
  ];
  ready = λ k. elim (cases_eq k n) [
    | inl e ↦ ap (is_ready ts (slice_set ps n Failed)) e ∙ (ready_not ts (slice_set ps n Failed) n (ap is_untaken (get_set_same ps n Failed p at)) ∙ (sym unready ∙ ap (is_ready ts ps) (sym e)))
    | inr far ↦ ready_other ts ps n k p Failed at (unmade_now p un) far
  ];
}

pub keeps_self : (ts : List Task) (ps : List Progress) → KeepsReady ts ps ps
keeps_self ts ps = record { made = λ k. refl; untaken = λ k h. h; ready = λ k. refl }

pub keeps_then : (ts : List Task) (a b c : List Progress) → KeepsReady ts a b → KeepsReady ts b c → KeepsReady ts a c
keeps_then ts a b c f g = record { made = λ k. g.made k ∙ f.made k; untaken = λ k h. f.untaken k (g.untaken k h); ready = λ k. g.ready k ∙ f.ready k }

pub offered_keeps : (ts : List Task) (ps qs : List Progress) → KeepsReady ts ps qs → offered ts qs ≡ offered ts ps
unfolding offered
offered_keeps ts ps qs keeps = numbers_same (is_ready ts qs) (is_ready ts ps) (length ts) (λ k low. keeps.ready k)

pub waked_keeps : (ts : List Task) (ps qs : List Progress) (readers : List (List ℕ)) → IsWaked ts ps readers → KeepsReady ts ps qs → IsWaked ts qs readers
waked_keeps ts ps qs readers waked keeps = record {
  sized = waked.sized;
  waits = λ k t is at. each-then (λ i. is_made (slice_get ps i) || has_in k (slice_get readers i)) (λ i. is_made (slice_get qs i) || has_in k (slice_get readers i)) t.inputs
      (waked.waits k t is (untaken_some (slice_get ps k) (keeps.untaken k (ap is_untaken at))))
      (λ role i takes h. ap (λ b. b || has_in k (slice_get readers i)) (keeps.made i) ∙ h);
}

-- a slot that falls couldn't be taken
pub falls_parts : (ts : List Task) (ps : List Progress) (k : ℕ) (t : Task) (p : Progress) → slice_get ts k ≡ Some t → slice_get ps k ≡ Some p
    → falls ts ps k ≡ (is_unfinished p && not (each (λ i. not (is_failed (slice_get ps i))) t.inputs))
falls_parts ts ps k t p is at = ap (λ o. option_map_or is_unfinished o false && option_map_or (λ (t : Task). not (each (λ i. not (is_failed (slice_get ps i))) t.inputs)) (slice_get ts k) false) at
    ∙ ap (λ o. is_unfinished p && option_map_or (λ (t : Task). not (each (λ i. not (is_failed (slice_get ps i))) t.inputs)) o false) is

pub falls_unready : (ts : List Task) (ps : List Progress) (k : ℕ) (t : Task) → slice_get ts k ≡ Some t
    → not (each (λ i. not (is_failed (slice_get ps i))) t.inputs) ≡ true → is_ready ts ps k ≡ false
falls_unready ts ps k t is fails = elim (cases_Bool (is_ready ts ps k)) [
  | inl h ↦
      let fed : each (λ i. is_made (slice_get ps i)) t.inputs ≡ true = sym (fed_at ts ps k t is) ∙ (and_parts (is_untaken (slice_get ps k)) (is_fed ts ps k) h).1 in
      let all : each (λ i. not (is_failed (slice_get ps i))) t.inputs ≡ true = each-then (λ i. is_made (slice_get ps i)) (λ i. not (is_failed (slice_get ps i))) t.inputs fed (λ role i takes m. made_unfailed (slice_get ps i) m) in
      absurd (let x : not (each (λ i. not (is_failed (slice_get ps i))) t.inputs) ≡ false = ap not all in cc (x, fails))
  | inr h ↦ h
]
  where
    made_unfailed : (o : Option Progress) → is_made o ≡ true → not (is_failed o) ≡ true
    made_unfailed None h = absurd cc
    made_unfailed (Some Untaken) h = absurd cc
    made_unfailed (Some Running) h = absurd cc
    made_unfailed (Some Joining) h = absurd cc
    made_unfailed (Some Made) h = refl
    made_unfailed (Some Moved) h = refl
    made_unfailed (Some Failed) h = absurd cc

-- ---- slots up to the one that fails stay

pub fallen_stays : (ts : List Task) (ps : List Progress) (k : ℕ) (t : Task) (p : Progress) → Flows ts ps → slice_get ts k ≡ Some t → slice_get ps k ≡ Some p
    → (n : ℕ) → n ≤ suc k → fallen_below ts n (slice_set ps k Failed) ≡ slice_set ps k Failed
fallen_stays ts ps k t p flows is at zero low = refl
fallen_stays ts ps k t p flows is at (suc n) low =
    let rest = fallen_stays ts ps k t p flows is at n (omega (arith, low)) in
    ap (fall_at ts n) rest ∙ ap (λ b. cond b (slice_set (slice_set ps k Failed) n Failed) (slice_set ps k Failed)) (stays (slice_get ts n) refl (slice_get (slice_set ps k Failed) n) refl)
  where
    unfailed_input : (q : Progress) (o : Option Progress) → is_unfinished q ≡ true → allows q o ≡ true → not (is_failed o) ≡ true
    unfailed_input q None un h = refl
    unfailed_input q (Some Untaken) un h = refl
    unfailed_input q (Some Running) un h = refl
    unfailed_input q (Some Joining) un h = refl
    unfailed_input q (Some Made) un h = refl
    unfailed_input q (Some Moved) un h = refl
    unfailed_input Untaken (Some Failed) un h = absurd cc
    unfailed_input Running (Some Failed) un h = absurd cc
    unfailed_input Joining (Some Failed) un h = absurd cc
    unfailed_input Made (Some Failed) un h = absurd cc
    unfailed_input Moved (Some Failed) un h = absurd cc
    unfailed_input Failed (Some Failed) un h = absurd cc

    and_zero : (b : Bool) → (b && false) ≡ false
    and_zero true = refl
    and_zero false = refl

    stays : (o : Option Task) → slice_get ts n ≡ o → (q : Option Progress) → slice_get (slice_set ps k Failed) n ≡ q → falls ts (slice_set ps k Failed) n ≡ false
    stays None here q there = ap (λ o. option_map_or is_unfinished (slice_get (slice_set ps k Failed) n) false && option_map_or (λ (t : Task). not (each (λ i. not (is_failed (slice_get (slice_set ps k Failed) i))) t.inputs)) o false) here ∙ and_zero (option_map_or is_unfinished (slice_get (slice_set ps k Failed) n) false)
    stays (Some u) here None there = ap (λ o. option_map_or is_unfinished o false && option_map_or (λ (t : Task). not (each (λ i. not (is_failed (slice_get (slice_set ps k Failed) i))) t.inputs)) (slice_get ts n) false) there
    stays (Some u) here (Some q) there = falls_parts ts (slice_set ps k Failed) n u q here there ∙ get_set ps k n Failed q there
        (λ e same. ap (λ r. is_unfinished r && not (each (λ i. not (is_failed (slice_get (slice_set ps k Failed) i))) u.inputs)) (sym same))
        (λ far before. elim (cases_Bool (is_unfinished q)) [
          | inl un ↦
              let all : each (λ i. not (is_failed (slice_get (slice_set ps k Failed) i))) u.inputs ≡ true = each-then (λ i. allows q (slice_get ps i)) (λ i. not (is_failed (slice_get (slice_set ps k Failed) i))) u.inputs (flows.allowed n u q here before)
              (λ role i takes h.
              let b : i < n = below ts ps n u role i flows here takes in
              ap (λ o. not (is_failed o)) (get_set_other ps k i Failed (omega (arith, b, low, far))) ∙ unfailed_input q (slice_get ps i) un h) in
              ap (λ b. is_unfinished q && not b) all ∙ and_zero (is_unfinished q)
          | inr fin ↦ ap (λ b. b && not (each (λ i. not (is_failed (slice_get (slice_set ps k Failed) i))) u.inputs)) fin
        ])

pub fallen_unfolds : (ts : List Task) (ps : List Progress) → fallen_below ts (length ts) ps ≡ fallen ts ps
unfolding fallen
fallen_unfolds ts ps = refl
