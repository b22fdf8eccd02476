-- The reads left of slots.
use Rattle.std.proofs.Common.{◌≡◌, ◌≢◌, ◌∙◌, ℕ, zero, suc, ◌+◌, ◌<◌, ◌≤◌, Bool, true, false, cond, List, [], ◌∷◌, ◌++◌, length, Some, slice_get, slice_set, refl, ap, arith}
use Rattle.stages.specs.Places.{places_of}
use Rattle.stages.specs.Progress.{Progress, Failed, is_unfinished}
use Rattle.stages.specs.Tasks.{Task}
use Rattle.stages.specs.Views.{reads_in}
use Rattle.stages.proofs.ListLaws.{get_set_other}

-- the reads that a slot adds
abbrev pub reads_by : Task → Progress → ℕ → ℕ
reads_by t p j = cond (is_unfinished p) (places_of t.inputs j) 0

pub reads_set : (ts : List Task) (ps : List Progress) (k j : ℕ) (t : Task) (p q : Progress) → slice_get ts k ≡ Some t
    → slice_get ps k ≡ Some p → reads_in ts (slice_set ps k q) j + reads_by t p j ≡ reads_in ts ps j + reads_by t q j
reads_set [] ps k j t p q is was = absurd cc
reads_set (u ∷ ts) [] k j t p q is was = absurd cc
reads_set (u ∷ ts) (r ∷ ps) zero j t p q is was =
    let task : u ≡ t = cc (is) in
    let had : r ≡ p = cc (was) in
    let a : reads_by u q j ≡ reads_by t q j = ap (λ w. reads_by w q j) task in
    let b : reads_by u r j ≡ reads_by t p j = ap (λ w. reads_by w r j) task ∙ ap (λ w. reads_by t w j) had in
    omega (arith, a, b)
reads_set (u ∷ ts) (r ∷ ps) (suc k) j t p q is was =
    let rest = reads_set ts ps k j t p q is was in omega (arith, rest)

-- where a slot stays unfinished, or finished
pub reads_same : (ts : List Task) (ps : List Progress) (k j : ℕ) (t : Task) (p q : Progress) → slice_get ts k ≡ Some t
    → slice_get ps k ≡ Some p → is_unfinished q ≡ is_unfinished p → reads_in ts (slice_set ps k q) j ≡ reads_in ts ps j
reads_same ts ps k j t p q is was same =
    let r = reads_set ts ps k j t p q is was in
    let e : reads_by t q j ≡ reads_by t p j = ap (λ b. cond b (places_of t.inputs j) 0) same in
    omega (arith, r, e)

-- where it is finished now, its places are read no longer
pub reads_less : (ts : List Task) (ps : List Progress) (k j : ℕ) (t : Task) (p q : Progress) → slice_get ts k ≡ Some t
    → slice_get ps k ≡ Some p → is_unfinished p ≡ true → is_unfinished q ≡ false
    → reads_in ts (slice_set ps k q) j + places_of t.inputs j ≡ reads_in ts ps j
reads_less ts ps k j t p q is was before after =
    let r = reads_set ts ps k j t p q is was in
    let e : reads_by t q j ≡ 0 = ap (λ b. cond b (places_of t.inputs j) 0) after in
    let d : reads_by t p j ≡ places_of t.inputs j = ap (λ b. cond b (places_of t.inputs j) 0) before in
    omega (arith, r, e, d)

-- the places of an unfinished slot are among them
pub reads_above : (ts : List Task) (ps : List Progress) (k j : ℕ) (t : Task) (p : Progress) → slice_get ts k ≡ Some t
    → slice_get ps k ≡ Some p → is_unfinished p ≡ true → places_of t.inputs j ≤ reads_in ts ps j
reads_above [] ps k j t p is was un = absurd cc
reads_above (u ∷ ts) [] k j t p is was un = absurd cc
reads_above (u ∷ ts) (r ∷ ps) zero j t p is was un =
    let task : u ≡ t = cc (is) in
    let had : r ≡ p = cc (was) in
    let e : reads_by u r j ≡ places_of t.inputs j = ap (λ w. reads_by w r j) task ∙ (ap (λ w. reads_by t w j) had ∙ ap (λ b. cond b (places_of t.inputs j) 0) un) in
    omega (arith, e)
reads_above (u ∷ ts) (r ∷ ps) (suc k) j t p is was un = omega (arith, reads_above ts ps k j t p is was un)

-- where one unfinished slot alone reads another, no other unfinished slot names it
pub reads_sole : (ts : List Task) (ps : List Progress) (k l j : ℕ) (t u : Task) (p r : Progress) → slice_get ts k ≡ Some t
    → slice_get ps k ≡ Some p → is_unfinished p ≡ true → reads_in ts ps j ≡ 1 → 0 < places_of t.inputs j
    → slice_get ts l ≡ Some u → slice_get ps l ≡ Some r → is_unfinished r ≡ true → l ≢ k → places_of u.inputs j ≡ 0
reads_sole ts ps k l j t u p r is was un one names there at un_too far =
    let less = reads_less ts ps k j t p Failed is was un refl in
    let more = reads_above ts (slice_set ps k Failed) l j u r there (get_set_other ps k l Failed far ∙ at) un_too in
    omega (arith, less, more, one, names)

pub reads_push : (ts : List Task) (ps : List Progress) (j : ℕ) (t : Task) (p : Progress) → length ps ≡ length ts
    → reads_in (ts ++ t ∷ []) (ps ++ p ∷ []) j ≡ reads_in ts ps j + reads_by t p j
reads_push [] [] j t p sized = omega arith
reads_push [] (r ∷ ps) j t p sized = absurd (omega (arith, sized))
reads_push (u ∷ ts) [] j t p sized = absurd (omega (arith, sized))
reads_push (u ∷ ts) (r ∷ ps) j t p sized =
    let rest = reads_push ts ps j t p (omega (arith, sized)) in omega (arith, rest)

-- a slot that isn't there isn't read
pub reads_none : (ts : List Task) (ps : List Progress) (j : ℕ)
    → ((k : ℕ) (t : Task) → slice_get ts k ≡ Some t → places_of t.inputs j ≡ 0) → reads_in ts ps j ≡ 0
reads_none [] ps j h = refl
reads_none (u ∷ ts) [] j h = refl
reads_none (u ∷ ts) (r ∷ ps) j h =
    let here = h 0 u refl in
    let rest = reads_none ts ps j (λ k t is. h (suc k) t is) in
    let e : reads_by u r j ≡ 0 = zero_by (is_unfinished r) (places_of u.inputs j) here in
    omega (arith, rest, e)
  where
    zero_by : (b : Bool) (n : ℕ) → n ≡ 0 → cond b n 0 ≡ 0
    zero_by true n e = e
    zero_by false n e = refl
