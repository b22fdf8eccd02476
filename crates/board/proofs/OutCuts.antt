-- Pieces that go out of a board.
use Rattle.std.proofs.Common.{inl, inr, ◌≡◌, ◌≢◌, ◌∙◌, ℕ, ◌≤◌, ◌&&◌, ◌||◌, Bool, true, false, cond, eqb, ltb, List, length, map, not, Option, Some, None, slice_get, slice_set, refl, sym, ap, arith, subst}
use Rattle.std.specs.Arc.{arc_value}
use Rattle.std.specs.Global.{Box}
use Rattle.std.specs.Prelude.{IfSome, OnErr, OnOk, Result, Ok, Err}
use Rattle.std.specs.Option.{option_and_then, option_map, option_map_or}
use Rattle.std.proofs.lemmas.Bool.{cases_eq, eq-eqb, ne_eqb}
use Rattle.calls.specs.declared.recipe.Recipe.{Recipe}
use Rattle.calls.specs.Recipes.{known_of}
use Rattle.model.specs.Object.{rows_of}
use Rattle.board.specs.Cuts.{AreCuts, Cutting, GoesOn, GoesOut, IsCutFor, IsOf, IsPut, IsShared, IsTakenBy, IsTakenFrom, Parted, at_slot, cutting_of, has_more, is_open, one_more, one_taken, task_at, task_of_cut}
use Rattle.board.specs.Events.{moved_by, taken, with_moved}
use Rattle.stages.specs.Numbers.{numbers}
use Rattle.board.specs.Pieces.{IsPieceFor, recipe_of, rows_for}
use Rattle.stages.specs.Progress.{Progress, Running, Untaken, is_made, is_underway}
use Rattle.stages.specs.Tasks.{Task}
use Rattle.stages.specs.Views.{View, is_ready}
use Rattle.board.specs.declared.cut.Cut.{Cut}
use Rattle.board.specs.declared.cut.Cut.TheVariants as cut
use Rattle.board.specs.declared.cut.CutTask.{CutTask}
use Rattle.board.specs.declared.piece.Piece.{Piece}
use Rattle.board.proofs.CutLaws.{at_map, cut_underway, cuts_kept, moved_made, open_same, taken_stays, untaken}
use Rattle.stages.proofs.ListLaws.{get_set_other, get_set_same}
use Rattle.stages.proofs.NumberLaws.{numbers_same}
use Rattle.board.proofs.PartedLaws.{opens}
use Rattle.board.proofs.SharedLaws.{for_same}

-- ---- a task that nobody took

-- it runs then
pub taken_runs : {N : Type 0} (v : View N) (k : ℕ) → is_ready v.tasks v.progress k ≡ true → slice_get (taken v k).progress k ≡ Some Running
taken_runs v k ready = go (moved_by v k) refl
  where
    first : slice_get (slice_set v.progress k Running) k ≡ Some Running
    first = get_set_same v.progress k Running Untaken (untaken v k ready)

    go : (o : Option ℕ) → moved_by v k ≡ o → slice_get (with_moved (slice_set v.progress k Running) (moved_by v k)) k ≡ Some Running
    go None is = ap (λ o. slice_get (with_moved (slice_set v.progress k Running) o) k) is ∙ first
    go (Some i) is =
        let far : k ≢ i = λ e. let made : is_made (slice_get v.progress k) ≡ true = ap (λ n. is_made (slice_get v.progress n)) e ∙ moved_made v k ready i is in
        let un : is_made (slice_get v.progress k) ≡ false = ap is_made (untaken v k ready) in cc (made, un) in
        ap (λ o. slice_get (with_moved (slice_set v.progress k Running) o) k) is ∙ (get_set_other (slice_set v.progress k Running) i k _ far ∙ first)

-- it isn't cut before
pub ready_uncut : (ts : List Task) (ps : List Progress) (cuts : List (Option Cut)) (k : ℕ) → AreCuts ts ps cuts → slice_get ps k ≡ Some Untaken
    → at_slot (map (option_map cutting_of) cuts) k ≡ None
ready_uncut ts ps cuts k are un = at_map cutting_of cuts k ∙ ap (option_map cutting_of) (none (at_slot cuts k) refl)
  where
    none : (o : Option Cut) → at_slot cuts k ≡ o → at_slot cuts k ≡ None
    none None at = at
    none (Some c) at = absurd (let a = cut_underway ts (slice_get ps k) k c (are.each_is k c at) in let b : is_underway (slice_get ps k) ≡ false = ap is_underway un in cc (a, b))

-- what a board keeps of others, once it was taken, or a share was refused
pub kept_taken : {N A E : Type 0} (v w : View N) (cuts : List (Option Cut)) (parted : List ℕ) (k : ℕ) (r : Result A E)
    → is_ready v.tasks v.progress k ≡ true → AreCuts v.tasks v.progress cuts → parted ≡ numbers (opens cuts) (length v.tasks)
    → OnOk r (w ≡ taken v k) → OnErr r (w ≡ v) → AreCuts w.tasks w.progress cuts × (parted ≡ numbers (opens cuts) (length w.tasks))
kept_taken {N = N} v w cuts parted k (Ok x) ready are is new same = (
  subst (λ (u : View N). AreCuts u.tasks u.progress cuts) (sym new)
      (cuts_kept v.tasks v.progress (taken v k).progress cuts are (taken_stays v k ready)),
  is ∙ ap (λ (u : View N). numbers (opens cuts) (length u.tasks)) (sym new),
)
kept_taken {N = N} v w cuts parted k (Err x) ready are is new same = (
  subst (λ (u : View N). AreCuts u.tasks u.progress cuts) (sym same) are,
  is ∙ ap (λ (u : View N). numbers (opens cuts) (length u.tasks)) (sym same),
)

pub taken_out : {N : Type 0} (v w : View N) (cs ds : List (Option Cutting)) (cuts : List ℕ) (piece : Piece) (k : ℕ) → at_slot cs k ≡ None
    → piece.number ≡ k → w ≡ taken v k → GoesOut cs cuts piece ds → IsTakenFrom v cs cuts piece w ds
taken_out v w cs ds cuts piece k none number new out =
    subst (λ b. IsTakenBy b v cs cuts piece w ds) (sym closed) (new ∙ ap (taken v) (sym number), out)
  where
    closed : is_open cs piece.number ≡ false
    closed = ap (is_open cs) number ∙ ap (λ (o : Option Cutting). option_map_or has_more o false) none

-- ---- the next piece of a task that is cut

-- what there is of a slot of whose task a piece wasn't taken
pub open_task : (cuts : List (Option Cut)) (k : ℕ) → is_open (map (option_map cutting_of) cuts) k ≡ true
    → (task : Box CutTask) × (at_slot cuts k ≡ Some (cut.Underway task)) × (ltb task.value.pieces.taken (length task.value.pieces.ends) ≡ true)
open_task cuts k more = go (at_slot cuts k) refl
  where
    seen : (o : Option Cut) → at_slot cuts k ≡ o → option_map_or has_more (option_map cutting_of o) false ≡ true
    seen o at = sym (ap (λ (o : Option Cutting). option_map_or has_more o false) (at_map cutting_of cuts k ∙ ap (option_map cutting_of) at)) ∙ more

    go : (o : Option Cut) → at_slot cuts k ≡ o → (task : Box CutTask) × (at_slot cuts k ≡ Some (cut.Underway task)) × (ltb task.value.pieces.taken (length task.value.pieces.ends) ≡ true)
    go None at = absurd (let e = seen None at in cc (e))
    go (Some (cut.Joined n)) at = absurd (let e = seen (Some (cut.Joined n)) at in cc (e))
    go (Some (cut.Underway task)) at = (task, at, seen (Some (cut.Underway task)) at)

-- a task of which pieces are taken and given
pub task_some : (cuts : List (Option Cut)) (k : ℕ) (t : CutTask) → task_at cuts k ≡ Some t
    → (task : Box CutTask) × (at_slot cuts k ≡ Some (cut.Underway task)) × (task.value ≡ t)
task_some cuts k t is = go (at_slot cuts k) refl
  where
    go : (o : Option Cut) → at_slot cuts k ≡ o → (task : Box CutTask) × (at_slot cuts k ≡ Some (cut.Underway task)) × (task.value ≡ t)
    go None at = absurd (let e : None ≡ Some t = sym (ap (option_and_then task_of_cut) at) ∙ is in cc (e))
    go (Some (cut.Joined n)) at = absurd (let e : None ≡ Some t = sym (ap (option_and_then task_of_cut) at) ∙ is in cc (e))
    go (Some (cut.Underway task)) at = let e : Some task.value ≡ Some t = sym (ap (option_and_then task_of_cut) at) ∙ is in (task, at, cc (e))

module _ (ts : List Task) (ps : List Progress) (cuts after : List (Option Cut)) (k : ℕ) (are : AreCuts ts ps cuts)
    (more : is_open (map (option_map cutting_of) cuts) k ≡ true)
    (next : task_at after k ≡ option_map one_more (task_at cuts k))
    (others : (j : ℕ) → j ≢ k → at_slot after j ≡ at_slot cuts j) where
  was : (task : Box CutTask) × (at_slot cuts k ≡ Some (cut.Underway task)) × (ltb task.value.pieces.taken (length task.value.pieces.ends) ≡ true)
  was = open_task cuts k more

  is_now : (task : Box CutTask) × (at_slot after k ≡ Some (cut.Underway task)) × (task.value ≡ one_more was.0.value)
  is_now = task_some after k (one_more was.0.value) (next ∙ ap (option_map one_more) (ap (option_and_then task_of_cut) was.1))

  shared_now : (t u : CutTask) → u ≡ one_more t → IsShared ts k t → IsShared ts k u
  shared_now t u e is = subst (IsShared ts k) (sym e) (record { needs = is.needs; rows = is.rows; right = is.right })

  pub cuts_next : length after ≤ length ts → AreCuts ts ps after
  cuts_next within = record {
    sized = within;
    each_is = λ j c at. elim (cases_eq j k) [
      | inl e ↦
          let both : Some (cut.Underway is_now.0) ≡ Some c = sym (ap (at_slot after) e ∙ is_now.1) ∙ at in
          let same : cut.Underway is_now.0 ≡ c = cc (both) in
          let before = are.each_is k (cut.Underway was.0) was.1 in
          subst (λ n. IsCutFor ts (slice_get ps n) n c) (sym e) (subst (λ (x : Cut). IsCutFor ts (slice_get ps k) k x) same (before.0, shared_now was.0.value is_now.0.value is_now.2 before.1))
      | inr far ↦ are.each_is j c (sym (others j far) ∙ at)
    ];
  }

  seen_was : at_slot (map (option_map cutting_of) cuts) k ≡ Some (Parted was.0.value.pieces)
  seen_was = at_map cutting_of cuts k ∙ ap (option_map cutting_of) was.1

  seen_now : at_slot (map (option_map cutting_of) after) k ≡ Some (Parted (one_taken was.0.value.pieces))
  seen_now = at_map cutting_of after k ∙ (ap (option_map cutting_of) is_now.1 ∙ ap (λ (t : CutTask). Some (Parted t.pieces)) is_now.2)

  seen_others : (j : ℕ) → j ≢ k → at_slot (map (option_map cutting_of) after) j ≡ at_slot (map (option_map cutting_of) cuts) j
  seen_others j far = at_map cutting_of after j ∙ (ap (option_map cutting_of) (others j far) ∙ sym (at_map cutting_of cuts j))

  put_now : IsPut (map (option_map cutting_of) cuts) k (Some (Parted (one_taken was.0.value.pieces))) (map (option_map cutting_of) after)
  put_now j = elim (cases_eq j k) [
    | inl e ↦ ap (at_slot (map (option_map cutting_of) after)) e ∙ (seen_now
        ∙ sym (ap (λ b. cond b (Some (Parted (one_taken was.0.value.pieces))) (at_slot (map (option_map cutting_of) cuts) j)) (eq-eqb j k e)))
    | inr far ↦ seen_others j far
        ∙ sym (ap (λ b. cond b (Some (Parted (one_taken was.0.value.pieces))) (at_slot (map (option_map cutting_of) cuts) j)) (ne_eqb j k far))
  ]

  pub next_out : {N : Type 0} (v w : View N) (args : List ℕ) (piece : Piece) → w ≡ v → IfSome (task_at cuts k) (λ t. IsOf k t piece)
      → IsTakenFrom v (map (option_map cutting_of) cuts) args piece w (map (option_map cutting_of) after)
  next_out {N = N} v w args piece same of = go
    where
      is_of : IsOf k was.0.value piece
      is_of = subst (λ (o : Option CutTask). IfSome o (λ t. IsOf k t piece)) (ap (option_and_then task_of_cut) was.1) of

      open_is : is_open (map (option_map cutting_of) cuts) piece.number ≡ true
      open_is = ap (is_open (map (option_map cutting_of) cuts)) is_of.number_is ∙ more

      at_is : at_slot (map (option_map cutting_of) cuts) piece.number ≡ Some (Parted was.0.value.pieces)
      at_is = ap (at_slot (map (option_map cutting_of) cuts)) is_of.number_is ∙ seen_was

      go : IsTakenFrom v (map (option_map cutting_of) cuts) args piece w (map (option_map cutting_of) after)
      go = subst (λ b. IsTakenBy b v (map (option_map cutting_of) cuts) args piece w (map (option_map cutting_of) after)) (sym open_is) (
        same,
        subst (λ (o : Option Cutting). GoesOn (map (option_map cutting_of) cuts) piece (map (option_map cutting_of) after) o) (sym at_is) (
          is_of.next,
          subst (λ n. IsPut (map (option_map cutting_of) cuts) n (Some (Parted (one_taken was.0.value.pieces))) (map (option_map cutting_of) after)) (sym is_of.number_is) put_now,
        ),
      )

  pub next_number : (piece : Piece) → IfSome (task_at cuts k) (λ t. IsOf k t piece) → piece.number ≡ k
  next_number piece of =
      let is_of : IsOf k was.0.value piece = subst (λ (o : Option CutTask). IfSome o (λ t. IsOf k t piece)) (ap (option_and_then task_of_cut) was.1) of in
      is_of.number_is

  pub next_for : (piece : Piece) → IfSome (task_at cuts k) (λ t. IsOf k t piece) → IsPieceFor ts piece
  next_for piece of =
      let is_of : IsOf k was.0.value piece = subst (λ (o : Option CutTask). IfSome o (λ t. IsOf k t piece)) (ap (option_and_then task_of_cut) was.1) of in
      let shared = (are.each_is k (cut.Underway was.0) was.1).1 in
      let rows : rows_for piece ≡ was.0.value.pieces.rows = ap (λ (r : Recipe). rows_of (known_of r).shape) is_of.recipe_is ∙ sym shared.rows in
      let rises = is_of.rises in
      let inside = is_of.inside in
      record {
        needs = for_same ts k piece.number (arc_value was.0.value.recipe) (recipe_of piece.recipe) was.0.value.inputs piece.inputs shared.needs is_of.number_is is_of.recipe_is is_of.inputs_are;
        rises = omega (arith, rises);
        inside = omega (arith, inside, rows);
      }

  -- slots of whose tasks a piece wasn't taken
  pub parted_next : (next_list : List ℕ) (n : ℕ)
      → next_list ≡ numbers (λ j. opens cuts j && (opens after k || not (eqb j k))) n → next_list ≡ numbers (opens after) n
  parted_next next_list n is = is ∙ numbers_same (λ j. opens cuts j && (opens after k || not (eqb j k))) (opens after) n (λ j low. elim (cases_eq j k) [
    | inl e ↦ ap (λ b. opens cuts j && (opens after k || not b)) (eq-eqb j k e) ∙ (here (opens cuts j) (opens after k) (ap (opens cuts) e ∙ more) ∙ ap (opens after) (sym e))
    | inr far ↦ ap (λ b. opens cuts j && (opens after k || not b)) (ne_eqb j k far) ∙ (there (opens cuts j) (opens after k)
        ∙ sym (open_same (map (option_map cutting_of) cuts) (map (option_map cutting_of) after) j (seen_others j far)))
  ])
    where
      here : (a b : Bool) → a ≡ true → (a && (b || not true)) ≡ b
      here true true h = refl
      here true false h = refl
      here false b h = absurd cc

      there : (a b : Bool) → (a && (b || not false)) ≡ a
      there true true = refl
      there true false = refl
      there false b = refl
