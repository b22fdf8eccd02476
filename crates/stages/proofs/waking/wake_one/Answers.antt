use Rattle.std.proofs.Common.{◌≡◌, ◌∙◌, ℕ, ◌<◌, ◌&&◌, ◌||◌, Bool, true, eqb, ap, sym, map, length, inl, inr}
use Rattle.std.proofs.lemmas.Bool.{cases_eq, eq-eqb, ne_eqb}
use Rattle.stages.specs.Slots.{task_of}
use Rattle.stages.specs.Stages.{progress_of}
use Rattle.stages.specs.Views.{is_ready}
use Rattle.stages.proofs.NumberLaws.{numbers_same}
use Rattle.stages.proofs.ReadyLaws.{ready_within}
use Rattle.stages.proofs.waking.wake_one.Goals as goal

-- a number that passes is put among those that may
one_passes : (p r : ℕ → Bool) (y n : ℕ) → r y ≡ true → (k : ℕ) → k < n → p k || eqb k y ≡ p k || (eqb y k && r k)
one_passes p r y n passes k low = elim (cases_eq k y) [
  | inl e ↦ ap (λ b. p k || b) (eq-eqb k y e ∙ sym (ap (λ b. b && r k) (eq-eqb y k (sym e)) ∙ (ap r e ∙ passes)))
  | inr far ↦ ap (λ b. p k || b) (ne_eqb k y far ∙ sym (ap (λ b. b && r k) (ne_eqb y k (λ e. far (sym e)))))
]

pub returns-then-is_ready-clause-numbers : goal.returns-then-is_ready-clause-numbers
returns-then-is_ready-clause-numbers g c p is room =
    let ts = map (task_of {N = _}) c.args.slots.now in
    let r : ℕ → Bool = λ k. is_ready ts (map progress_of c.args.stages.now) k in
    let passes : r c.args.reader ≡ true = sym c.is_ready.ensures ∙ c.if-is_ready.true in
    let low : c.args.reader < length ts = ready_within ts (map progress_of c.args.stages.now) c.args.reader passes in
    c.insert.ensures.numbers p (length ts) is low room
    ∙ numbers_same (λ k. p k || eqb k c.args.reader) (λ k. p k || (eqb c.args.reader k && r k)) (length ts)
    (one_passes p r c.args.reader (length ts) passes)
