-- What becomes of a board by a block that is given.
use Rattle.std.proofs.Common.{◌≡◌, ◌∙◌, ℕ, Bool, true, false, cond, eqb, ap, List, Option, Some, None, Result, Ok, refl, subst, sym}
use Rattle.std.proofs.lemmas.Bool.{eq-eqb, eqb-true}
use Rattle.std.specs.Prelude.{if◌then◌else◌}
use Rattle.board.specs.Cuts.{Cutting, IsLeftBy, IsPut, at_slot, left_view}
use Rattle.stages.specs.Views.{View}
use Rattle.board.specs.declared.look.Refusal.{Refusal}
use Rattle.kernel.specs.declared.block.Block.{Block}
use Rattle.calls.specs.declared.recipe.Recipe.{Recipe}
use Rattle.model.specs.Object.{Object}
use Rattle.desk.specs.Ends.{felled, felled_cut}
use Rattle.tasks.specs.Boards.{are_kept, cut_by, given_cut, given_view, left_after}
use Rattle.tasks.specs.Outcomes.{HasRecipe, IsFrom}
use Rattle.tasks.specs.declared.work.Outcome.{Outcome}
use Rattle.tasks.specs.declared.work.Outcome.TheVariants.{Joined, Made, Part, Refused}

-- ---- how far tasks have come

put_cases : (a b c : Option Cutting) (t : Bool) → (t ≡ true → a ≡ b) → (t ≡ false → a ≡ c) → a ≡ cond t b c
put_cases a b c true same other = same refl
put_cases a b c false same other = other refl

put_true : (a b c : Option Cutting) (t : Bool) → a ≡ cond t b c → t ≡ true → a ≡ b
put_true a b c true is h = is
put_true a b c false is h = absurd (cc)

put_false : (a b c : Option Cutting) (t : Bool) → a ≡ cond t b c → t ≡ false → a ≡ c
put_false a b c true is h = absurd (cc)
put_false a b c false is h = is

-- a task has come so far at last
pub put_put : (cs ds es : List (Option Cutting)) (k : ℕ) (c d : Option Cutting) → IsPut cs k c ds → IsPut ds k d es → IsPut cs k d es
put_put cs ds es k c d first second j = put_cases (at_slot es j) d (at_slot cs j) (eqb j k)
    (λ h. put_true (at_slot es j) d (at_slot ds j) (eqb j k) (second j) h)
    (λ h. put_false (at_slot es j) d (at_slot ds j) (eqb j k) (second j) h
    ∙ put_false (at_slot ds j) c (at_slot cs j) (eqb j k) (first j) h)

self_eq : (k : ℕ) → eqb k k ≡ true
self_eq k = eq-eqb k k refl

pub put_here : (cs ds : List (Option Cutting)) (k : ℕ) (c : Option Cutting) → IsPut cs k c ds → at_slot ds k ≡ c
put_here cs ds k c put = put_true (at_slot ds k) c (at_slot cs k) (eqb k k) (put k) (self_eq k)

-- ---- a block that is accepted

pub left_is : {N : Type 0} (v w : View N) (cs ds : List (Option Cutting)) (k piece : ℕ) (block : Block) (c : Option Cutting)
    (told : Option (List Block)) → IsLeftBy v cs k piece block c told w ds → w ≡ left_view v k told
left_is v w cs ds k piece block None told left = left.0
left_is v w cs ds k piece block (Some c) told left = left.0

left_put : {N : Type 0} (v w : View N) (cs ds : List (Option Cutting)) (k piece : ℕ) (block : Block) (c : Option Cutting)
    (told : Option (List Block)) → at_slot cs k ≡ c → IsLeftBy v cs k piece block c told w ds
    → IsPut cs k (given_cut c piece block told) ds
left_put v w cs ds k piece block None told at left = λ j. put_cases (at_slot ds j) None (at_slot cs j) (eqb j k)
    (λ h. left.1 j ∙ (ap (at_slot cs) (eqb-true j k h) ∙ at)) (λ h. left.1 j)
left_put v w cs ds k piece block (Some c) told at left = left.1

-- ---- what becomes of it then: it is kept, or the task fails

pub after_view : {N : Type 0} (v w x : View N) (k : ℕ) (r : Result (Option (List Block)) Refusal) (told : Option (List Block))
    → r ≡ Ok told → w ≡ left_view v k told → x ≡ (if are_kept told then w else felled w k) → x ≡ given_view v k r
after_view v w x k r told is left kept =
    kept ∙ (ap (λ u. if are_kept told then u else felled u k) left ∙ ap (given_view v k) (sym is))

pub after_cuts : {N : Type 0} (v w : View N) (cs ds es : List (Option Cutting)) (k piece : ℕ) (block : Block)
    (r : Result (Option (List Block)) Refusal) (told : Option (List Block))
    → r ≡ Ok told → IsLeftBy v cs k piece block (at_slot cs k) told w ds
    → IsPut ds k (if are_kept told then at_slot ds k else felled_cut w (at_slot ds k) k) es
    → IsPut cs k (cut_by v (at_slot cs k) k piece block r) es
after_cuts v w cs ds es k piece block r told is left kept =
    let put = left_put v w cs ds k piece block (at_slot cs k) told refl left in
    let here = put_here cs ds k (given_cut (at_slot cs k) piece block told) put in
    let shown = left_is v w cs ds k piece block (at_slot cs k) told left in
    let first : (if are_kept told then at_slot ds k else felled_cut w (at_slot ds k) k)
    ≡ (if are_kept told then given_cut (at_slot cs k) piece block told else felled_cut w (given_cut (at_slot cs k) piece block told) k) =
    ap (λ (c : Option Cutting). if are_kept told then c else felled_cut w c k) here in
    let second : (if are_kept told then given_cut (at_slot cs k) piece block told else felled_cut w (given_cut (at_slot cs k) piece block told) k)
    ≡ cut_by v (at_slot cs k) k piece block (Ok told) =
    ap (λ u. if are_kept told then given_cut (at_slot cs k) piece block told else felled_cut u (given_cut (at_slot cs k) piece block told) k) shown in
    let all = first ∙ (second ∙ ap (cut_by v (at_slot cs k) k piece block) (sym is)) in
    put_put cs ds es k (given_cut (at_slot cs k) piece block told) (cut_by v (at_slot cs k) k piece block r) put
    (subst (λ (c : Option Cutting). IsPut ds k c es) all kept)

-- ---- blocks that are left

-- they are of a task that was cut, whose recipe is there
pub left_recipe : {N : Type 0} (v : View N) (c : Option Cutting) (k piece : ℕ) (outcome : Outcome) (blocks : List Block) (o : Object) (recipe : Recipe)
    → Some blocks ≡ left_after v c k piece outcome → HasRecipe o recipe outcome → IsFrom o recipe
left_recipe v c k piece (Made store) blocks o recipe left has = absurd (cc)
left_recipe v c k piece (Joined store) blocks o recipe left has = absurd (cc)
left_recipe v c k piece (Part block) blocks o recipe left has = has
left_recipe v c k piece Refused blocks o recipe left has = absurd (cc)
