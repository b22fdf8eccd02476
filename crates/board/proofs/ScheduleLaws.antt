-- Lists of events, done one after the other.
use Rattle.std.proofs.Common.{◌≡◌, Bool, true, false, cond, List, [], ◌∷◌, ◌++◌, length, refl, sym, ap, arith, subst}
use Rattle.std.specs.Prelude.{MatchResult, OnErr, OnOk, Result, Ok, Err}
use Rattle.board.specs.Schedules.{AreAnswered, AreRight, IsAnswered, IsDone}
use Rattle.board.specs.Boards.{Shown}
use Rattle.stages.specs.Views.{View}
use Rattle.board.specs.declared.look.Refusal.{Refusal}
use Rattle.board.specs.declared.look.Refusal.TheVariants.{Stranger}
use Rattle.board.specs.declared.schedule.Answer.{Answer}
use Rattle.board.specs.declared.schedule.Answer.TheVariants as answer
use Rattle.board.specs.declared.schedule.Event.{Event}

-- an event with nothing else to answer
pub is-done : {N : Type 0} (may : Bool) (s t : Shown N) (done : Type 0) (outcome : Result (Unit {0}) Refusal) (a : Answer)
    → outcome ≡ cond may (Ok tt) (Err Stranger) → OnOk outcome done → OnErr outcome (t ≡ s)
    → MatchResult outcome (λ _. a ≡ answer.Done) (λ why. a ≡ answer.Refused why) → IsDone may s done a t
is-done true s t done (Ok x) a is ok err said = subst (λ b. IsDone true s done b t) (sym said) (refl, ok)
is-done false s t done (Ok x) a is ok err said = absurd (cc (is))
is-done true s t done (Err why) a is ok err said = absurd (cc (is))
is-done false s t done (Err why) a is ok err said = subst (λ b. IsDone false s done b t) (sym said) (refl, cc (is), err)

-- what a board shows is what its slots and its tasks that are cut do
pub ok_both : {T E : Type 0} (A B : Type 0) (r : Result T E) → OnOk r A → OnOk r B → OnOk r (A × B)
ok_both A B (Ok x) a b = (a, b)
ok_both A B (Err x) a b = tt

pub ok_shown : {N T E : Type 0} (r : Result T E) (s t : Shown N) (v : View N) → OnOk r (t.slots ≡ v) → t.cuts ≡ s.cuts → OnOk r (t ≡ record s { slots = v })
ok_shown (Ok x) s t v slots cuts = λ i. record { slots = slots i; cuts = cuts i }
ok_shown (Err x) s t v slots cuts = tt

pub err_shown : {N T E : Type 0} (r : Result T E) (s t : Shown N) → OnErr r (t.slots ≡ s.slots) → OnErr r (t.cuts ≡ s.cuts) → OnErr r (t ≡ s)
err_shown (Ok x) s t slots cuts = tt
err_shown (Err x) s t slots cuts = λ i. record { slots = slots i; cuts = cuts i }

pub err_kept : {N T E : Type 0} (r : Result T E) (s t : Shown N) → OnErr r (t.slots ≡ s.slots) → t.cuts ≡ s.cuts → OnErr r (t ≡ s)
err_kept (Ok x) s t slots cuts = tt
err_kept (Err x) s t slots cuts = λ i. record { slots = slots i; cuts = cuts i }

-- some events were done, and the others are left
pub record IsDuring {N : Type 0} (v : Shown N) (events : List (Event N)) (done : List Answer) (u : Shown N) (rest : List (Event N)) : Type 0 where
  pub right : AreRight u rest
  pub leads : (more : List Answer) (w : Shown N) → AreAnswered u rest more w → AreAnswered v events (done ++ more) w

pub during-start : {N : Type 0} (v : Shown N) (events rest : List (Event N)) (done : List Answer) → AreRight v events → rest ≡ events → done ≡ []
    → IsDuring v events done v rest
during-start v events rest done right all none =
    subst (λ ds. IsDuring v events ds v rest) (sym none) (subst (λ es. IsDuring v events [] v es) (sym all)
    (record { right = right; leads = λ more w h. h }))

behind : {A : Type 0} (xs : List A) (x : A) (ys : List A) → xs ++ x ∷ ys ≡ (xs ++ x ∷ []) ++ ys
behind [] x ys = refl
behind (z ∷ xs) x ys = ap (λ l. z ∷ l) (behind xs x ys)

pub during-step : {N : Type 0} (v : Shown N) (events : List (Event N)) (done next : List Answer) (u x : Shown N) (e : Event N) (rest left : List (Event N)) (a : Answer)
    → IsDuring v events done u rest → rest ≡ e ∷ left → IsAnswered u e a x → next ≡ done ++ a ∷ [] → IsDuring v events next x left
during-step v events done next u x e rest left a during is answered longer =
    let d = subst (λ es. IsDuring v events done u es) is during in
    subst (λ ds. IsDuring v events ds x left) (sym longer)
    (record { right = d.right.1 a x answered; leads = λ more w h. subst (λ l. AreAnswered v events l w) (behind done a more) (d.leads (a ∷ more) w (x, answered, h)) })

pub during-right : {N : Type 0} (v : Shown N) (events : List (Event N)) (done : List Answer) (u : Shown N) (rest left : List (Event N)) (e : Event N)
    → IsDuring v events done u rest → rest ≡ e ∷ left → AreRight u (e ∷ left)
during-right v events done u rest left e during is = subst (AreRight u) is during.right

to_end : {A : Type 0} (xs : List A) → xs ++ [] ≡ xs
to_end [] = refl
to_end (z ∷ xs) = ap (λ l. z ∷ l) (to_end xs)

none_of : {A : Type 0} (xs : List A) → length xs ≡ 0 → xs ≡ []
none_of [] h = refl
none_of (x ∷ xs) h = absurd (omega (arith, h))

pub during-end : {N : Type 0} (v : Shown N) (events : List (Event N)) (done : List Answer) (u : Shown N) (rest : List (Event N))
    → IsDuring v events done u rest → length rest ≡ 0 → AreAnswered v events done u
during-end v events done u rest during none =
    let d = subst (λ es. IsDuring v events done u es) (none_of rest none) during in
    subst (λ l. AreAnswered v events l u) (to_end done) (d.leads [] u refl)
