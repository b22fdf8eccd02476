-- Stages that are let go.
use Rattle.std.proofs.Common.{inl, inr, ◌≡◌, ◌∙◌, ℕ, ◌<◌, ◌||◌, Bool, true, false, cond, eqb, List, Option, Some, None, slice_get, slice_set, refl, sym, ap, arith, subst, ◌⊎◌}
use Rattle.std.specs.Option.{option_map}
use Rattle.std.proofs.lemmas.Bool.{cases_Bool, cases_eq, eq-eqb, ne_eqb}
use Rattle.stages.specs.Stages.{has_store, released, released_if}
use Rattle.stages.specs.declared.stage.Stage.{Stage}
use Rattle.stages.specs.declared.stage.Stage.TheVariants.{Untaken, Running, Joining, Done, Gone, Moved, Failed}
use Rattle.stages.proofs.ListLaws.{get_set_other, get_set_same}

used_stays : (u : ℕ) (o : Option Stage) → (0 < u) ⊎ (has_store o ≡ false) → option_map (released u) o ≡ o
used_stays u None h = refl
used_stays u (Some (Untaken r)) h = refl
used_stays u (Some Running) h = refl
used_stays u (Some Joining) h = refl
used_stays u (Some Gone) h = refl
used_stays u (Some Moved) h = refl
used_stays u (Some Failed) h = refl
used_stays u (Some (Done s)) (inl h) = ap (λ b. Some (cond b Gone (Done s))) (ne_eqb u 0 (λ e. absurd (omega (arith, h, e))))
used_stays u (Some (Done s)) (inr h) = absurd cc

pub release_none : (xs : List Stage) (i : ℕ) (uses : ℕ → ℕ) → (0 < uses i) ⊎ (has_store (slice_get xs i) ≡ false) → (k : ℕ)
    → slice_get xs k ≡ option_map (released_if (eqb i k) (uses k)) (slice_get xs k)
release_none xs i uses h k = elim (cases_eq i k) [
  | inl e ↦
      let stays : option_map (released (uses i)) (slice_get xs i) ≡ slice_get xs i = used_stays (uses i) (slice_get xs i) h in
      let here : option_map (released_if true (uses i)) (slice_get xs i) ≡ slice_get xs i = stays in
      let there : option_map (released_if true (uses k)) (slice_get xs k) ≡ slice_get xs k = subst (λ n. option_map (released_if true (uses n)) (slice_get xs n) ≡ slice_get xs n) e here in
      sym (ap (λ b. option_map (released_if b (uses k)) (slice_get xs k)) (eq-eqb i k e) ∙ there)
  | inr far ↦ sym (ap (λ b. option_map (released_if b (uses k)) (slice_get xs k)) (ne_eqb i k far) ∙ same (slice_get xs k))
]
  where
    same : (o : Option Stage) → option_map (released_if false (uses k)) o ≡ o
    same None = refl
    same (Some s) = refl

gone_now : (u : ℕ) (o : Option Stage) → u ≡ 0 → has_store o ≡ true → option_map (released u) o ≡ Some Gone
gone_now u None e h = absurd cc
gone_now u (Some (Untaken r)) e h = absurd cc
gone_now u (Some Running) e h = absurd cc
gone_now u (Some Joining) e h = absurd cc
gone_now u (Some Gone) e h = absurd cc
gone_now u (Some Moved) e h = absurd cc
gone_now u (Some Failed) e h = absurd cc
gone_now u (Some (Done s)) e h = ap (λ b. Some (cond b Gone (Done s))) (eq-eqb u 0 e)

pub release_one : (xs : List Stage) (i : ℕ) (uses : ℕ → ℕ) → uses i ≡ 0 → has_store (slice_get xs i) ≡ true → (k : ℕ)
    → slice_get (slice_set xs i Gone) k ≡ option_map (released_if (eqb i k) (uses k)) (slice_get xs k)
release_one xs i uses none there k = elim (cases_eq i k) [
  | inl e ↦
      let here : slice_get (slice_set xs i Gone) i ≡ option_map (released_if true (uses i)) (slice_get xs i) = put_there (slice_get xs i) refl there ∙ sym (gone_now (uses i) (slice_get xs i) none there) in
      let moved : slice_get (slice_set xs i Gone) k ≡ option_map (released_if true (uses k)) (slice_get xs k) = subst (λ n. slice_get (slice_set xs i Gone) n ≡ option_map (released_if true (uses n)) (slice_get xs n)) e here in
      moved ∙ sym (ap (λ b. option_map (released_if b (uses k)) (slice_get xs k)) (eq-eqb i k e))
  | inr far ↦ get_set_other xs i k Gone (λ e. far (sym e)) ∙ (sym (same (slice_get xs k)) ∙ sym (ap (λ b. option_map (released_if b (uses k)) (slice_get xs k)) (ne_eqb i k far)))
]
  where
    same : (o : Option Stage) → option_map (released_if false (uses k)) o ≡ o
    same None = refl
    same (Some s) = refl

    put_there : (o : Option Stage) → slice_get xs i ≡ o → has_store o ≡ true → slice_get (slice_set xs i Gone) i ≡ Some Gone
    put_there None is h = absurd cc
    put_there (Some s) is h = get_set_same xs i Gone s is

pub released_twice : (a b : Bool) (u : ℕ) (o : Option Stage)
    → option_map (released_if a u) (option_map (released_if b u) o) ≡ option_map (released_if (b || a) u) o
released_twice a b u None = refl
released_twice true true u (Some s) = ap Some (twice s)
  where
    twice_done : (t : Bool) (s : Stage) → t ≡ eqb u 0 → released u (cond t Gone s) ≡ cond t Gone (released u s)
    twice_done true s e = refl
    twice_done false s e = refl

    twice : (s : Stage) → released u (released u s) ≡ released u s
    twice (Untaken r) = refl
    twice Running = refl
    twice Joining = refl
    twice Gone = refl
    twice Moved = refl
    twice Failed = refl
    twice (Done s) = elim (cases_Bool (eqb u 0)) [
      | inl h ↦ ap (λ b. released u (cond b Gone (Done s))) h ∙ sym (ap (λ b. cond b Gone (Done s)) h)
      | inr h ↦ ap (λ b. released u (cond b Gone (Done s))) h
    ]
released_twice true false u (Some s) = refl
released_twice false true u (Some s) = refl
released_twice false false u (Some s) = refl
