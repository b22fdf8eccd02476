-- Objects whose values come to be there, one after the other, and runs of lines that begin from them.
use Rattle.std.proofs.Common.{◌≡◌, ◌∙◌, ℕ, Bool, true, false, cond, List, [], ◌∷◌, refl, sym, subst, ap, inl, inr}
use Rattle.std.proofs.lemmas.Bool.{cases_Bool}
use Rattle.model.specs.Grammar.{Name, Reading}
use Rattle.model.specs.Marks.{Mark, MayBecome, Open, Settles, State, Told, Unmarked, is_told, told, with_mark}
use Rattle.model.specs.MatrixMarket.{File}
use Rattle.model.specs.Poisoned.{IsPoisonedRun}
use Rattle.model.specs.Text.{Answer}

pub settles-self : {K : Type 0} (s : State K) → Settles s s
settles-self s = record { environment = refl; marks = λ name. inl refl }

pub settles-same : {K : Type 0} (before after : State K) → after ≡ before → Settles before after
settles-same before after is = subst (Settles before) (sym is) (settles-self before)

pub becomes-then : (a b c : Mark) → MayBecome a b → MayBecome b c → MayBecome a c
becomes-then a b c (inl same) (inl still) = inl (still ∙ same)
becomes-then a b c (inl same) (inr there) = inr (sym same ∙ there.0, there.1)
becomes-then a b c (inr there) (inl still) = inr (there.0, still ∙ there.1)
becomes-then a b c (inr there) (inr more) = absurd (cc)

pub settles-then : {K : Type 0} (a b c : State K) → Settles a b → Settles b c → Settles a c
settles-then a b c first second = record {
  environment = second.environment ∙ first.environment;
  marks = λ name. becomes-then (a.marks name) (b.marks name) (c.marks name) (first.marks name) (second.marks name);
}

-- the value of an object that wasn't told to have failed may come to be there
pub settles-marked : {K : Type 0} (same : K → K → Bool) (s : State K) (name : K) → ((other : K) → same name other ≡ true → name ≡ other)
    → told s name ≡ false → Settles s (with_mark same s s.environment name Unmarked)
settles-marked {K = K} same s name is untold = record { environment = refl; marks = point }
  where
    untold-becomes : (mark : Mark) → is_told mark ≡ false → MayBecome mark Unmarked
    untold-becomes Unmarked h = inl refl
    untold-becomes Open h = inr (refl, refl)
    untold-becomes Told h = absurd (cc)

    point : (other : K) → MayBecome (s.marks other) (cond (same name other) Unmarked (s.marks other))
    point other = elim (cases_Bool (same name other)) [
      | inl here ↦ rw here (untold-becomes (s.marks other) (ap (told s) (sym (is other here)) ∙ untold))
      | inr apart ↦ rw apart (inl refl)
    ]

-- what runs from where values came to be there runs from before
pub run-settled : (number : ℕ) (before after : State Name) (readings : List (Reading File)) (answers : List Answer)
    → Settles before after → IsPoisonedRun number after readings answers → IsPoisonedRun number before readings answers
unfolding IsPoisonedRun
run-settled number before after [] answers settles run = run
run-settled number before after (reading ∷ readings) answers settles (ready, said, left, later, more, line, rest, split) =
    (ready, said, left, later, settles-then before after ready settles more, line, rest, split)
