use Rattle.std.proofs.Common.{◌≡◌, ◌∙◌, ◌&&◌, ◌||◌, Bool, eqb, not, refl, sym, true, false}
use Rattle.stages.proofs.NumberLaws.{numbers_same}
use Rattle.board.proofs.cuts.withdraw_if_taken.Goals as goal

and_or : (a b : Bool) → b ≡ true → (c : Bool) → a ≡ (a && (b || c))
and_or true true h c = refl
and_or false true h c = refl
and_or a false h c = absurd cc

or_none : (a b : Bool) → b ≡ false → (c : Bool) → (a && c) ≡ (a && (b || c))
or_none a false h c = refl
or_none a true h c = absurd cc

pub returns-then-not-is_open : goal.returns-then-not-is_open
returns-then-not-is_open c p n is low =
    c.withdraw.ensures.numbers p n is low ∙ numbers_same _ _ n (λ k under. or_none (p k) _ (sym c.is_open.ensures ∙ c.if-not-is_open.true) (not (eqb k c.args.number)))

pub returns-else-not-is_open : goal.returns-else-not-is_open
returns-else-not-is_open c p n is low =
    is ∙ numbers_same p _ n (λ k under. and_or (p k) _ (sym c.is_open.ensures ∙ c.if-not-is_open.false) (not (eqb k c.args.number)))
