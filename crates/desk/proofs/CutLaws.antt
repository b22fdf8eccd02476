-- Slots that are taken on boards whose tasks may be cut.
use Rattle.std.proofs.Common.{◌≡◌, ◌≢◌, ◌∙◌, inl, inr, ℕ, ◌<◌, ◌≤◌, ◌%◌, ◌||◌, Bool, true, false, cond, eqb, List, [], ◌∷◌, length, map, Option, Some, None, slice_get, refl, sym, ap, subst, arith, le_of_eq, mod-lt}
use Rattle.std.proofs.Math.Logic.{∥∥₁_elim}
use denote.Struct.Props.{props}
use Rattle.std.proofs.lemmas.Option.{slice_get-get_or}
use Rattle.std.specs.Prelude.{Result, Ok, Err, OnErr, OnOk}
use Rattle.std.specs.Option.{IfSome, option_map, option_map_or}
use Rattle.board.specs.Boards.{cuts_of, view_of}
use Rattle.board.specs.Cuts.{AreCuts, Cutting, GoesOut, IsPut, IsTakenBy, IsTakenFrom, at_slot, cutting_of, has_more, is_open, offered_on, picked_on}
use Rattle.board.specs.Events.{failed, may_fail, taken}
use Rattle.board.specs.Pieces.{is_whole}
use Rattle.stages.specs.Progress.{Progress, is_joining, is_running}
use Rattle.stages.specs.Tasks.{Task}
use Rattle.stages.specs.Views.{View, is_ready, offered}
use Rattle.board.specs.declared.board.Board.{Board}
use Rattle.board.specs.declared.cut.Cut.{Cut}
use Rattle.board.specs.declared.cut.Cut.TheVariants as cut
use Rattle.board.specs.declared.look.Refusal.{Refusal}
use Rattle.board.specs.declared.look.Refusal.TheVariants.{Stranger}
use Rattle.board.specs.declared.piece.Piece.{Piece}
use Rattle.board.proofs.CutLaws.{at_map}
use Rattle.stages.proofs.NumberLaws.{numbers_below, numbers_same}
use Rattle.desk.specs.Ends.{unfinished}
use Rattle.desk.specs.Works.{AreUncut}
use Rattle.desk.proofs.EndLaws.{at_most_taken, fewer_left, or_left, or_right, running_taken}

-- ---- slots of whose tasks a piece wasn't taken

-- somebody works on them
open_runs : (ts : List Task) (ps : List Progress) (cuts : List (Option Cut)) → AreCuts ts ps cuts → (k : ℕ)
    → is_open (map (option_map cutting_of) cuts) k ≡ true → is_running (slice_get ps k) ≡ true
open_runs ts ps cuts are k more = go (at_slot cuts k) refl
  where
    is : (o : Option Cut) → at_slot cuts k ≡ o
        → option_map_or has_more (option_map cutting_of o) false ≡ true
    is o at = sym (ap (λ (c : Option Cutting). option_map_or has_more c false)
        (at_map cutting_of cuts k ∙ ap (option_map cutting_of) at)) ∙ more

    go : (o : Option Cut) → at_slot cuts k ≡ o → is_running (slice_get ps k) ≡ true
    go None at = let e = is None at in absurd (cc (e))
    go (Some (cut.Underway task)) at = ap is_running (are.each_is k (cut.Underway task) at).0
    go (Some (cut.Joined count)) at = let e = is (Some (cut.Joined count)) at in absurd (cc (e))

-- each slot of which a piece wasn't taken runs
abbrev pub OpenRun : {N : Type 0} → View N → List (Option Cutting) → Type 0
OpenRun v cs = (k : ℕ) → is_open cs k ≡ true → is_running (slice_get v.progress k) ≡ true

pub open_run : {N : Type 0} (board : Board N) → OpenRun (view_of board) (cuts_of board)
open_run board k more = ∥∥₁_elim board.cut_are (Prim.hlevel props)
    (λ are. open_runs (view_of board).tasks (view_of board).progress board.cuts.items are k more)

-- ---- the slot that is picked

can_at : {N : Type 0} (v : View N) (cs : List (Option Cutting)) (i k : ℕ) → slice_get (offered_on v cs) i ≡ Some k
    → (is_ready v.tasks v.progress k || is_open cs k) ≡ true
unfolding offered_on
can_at v cs i k is = (numbers_below (λ j. is_ready v.tasks v.progress j || is_open cs j) (length v.tasks) i k is).1

-- it can be taken
can_pick : {N : Type 0} (v : View N) (cs : List (Option Cutting)) (pick : ℕ) → offered_on v cs ≢ []
    → (is_ready v.tasks v.progress (picked_on v cs pick) || is_open cs (picked_on v cs pick)) ≡ true
can_pick v cs pick some =
    let numbers = offered_on v cs in
    can_at v cs (pick % length numbers) (picked_on v cs pick)
    (slice_get-get_or numbers (pick % length numbers) 0 (mod-lt pick (positive numbers some)))
  where
    positive : (ns : List ℕ) → ns ≢ [] → 0 < length ns
    positive [] h = absurd (h refl)
    positive (n ∷ ns) h = omega arith

or_none : (a b : Bool) → (a || b) ≡ true → b ≡ false → a ≡ true
or_none true b h none = refl
or_none false b h none = absurd (cc (h, none))

module _ {N : Type 0} (v : View N) (cs : List (Option Cutting)) (opens : OpenRun v cs) (pick number : ℕ)
    (some : offered_on v cs ≢ []) (is : number ≡ picked_on v cs pick) where
  can : (is_ready v.tasks v.progress number || is_open cs number) ≡ true
  can = ap (λ k. is_ready v.tasks v.progress k || is_open cs k) is ∙ can_pick v cs pick some

  may : may_fail v number ≡ true
  may = by_ready (is_ready v.tasks v.progress number) refl
    where
      by_ready : (b : Bool) → is_ready v.tasks v.progress number ≡ b → may_fail v number ≡ true
      by_ready true ready =
          or_left (is_ready v.tasks v.progress number) (is_running (slice_get v.progress number) || is_joining (slice_get v.progress number)) ready
      by_ready false unready =
          let runs = opens number (or_other (is_ready v.tasks v.progress number) (is_open cs number) can unready) in
          or_right (is_ready v.tasks v.progress number) (is_running (slice_get v.progress number)) (is_joining (slice_get v.progress number))
          (or_left (is_running (slice_get v.progress number)) (is_joining (slice_get v.progress number)) runs)
        where
          or_other : (a b : Bool) → (a || b) ≡ true → a ≡ false → b ≡ true
          or_other true b h none = absurd cc
          or_other false b h none = h

  -- fewer slots are to come where it fails
  pub fewer_refused : (w after : View N) (r : Result (Unit {0}) Refusal) → w ≡ v
      → r ≡ cond (may_fail w number) (Ok tt) (Err Stranger) → OnOk r (after ≡ failed w number)
      → unfinished after.progress < unfinished v.progress
  fewer_refused w after r same answer failing =
      let less = fewer_left w after number r answer failing (ap (λ (u : View N). may_fail u number) same ∙ may) in
      let as_much = ap (λ (u : View N). unfinished u.progress) same in
      omega (arith, less, as_much)

  -- a piece of it was taken
  module _ (w : View N) (ds : List (Option Cutting)) (cuts : List ℕ) (piece : Piece) (its : number ≡ piece.number)
      (out : IsTakenFrom v cs cuts piece w ds) where
    abbrev pub Left : Type 0
    Left = (is_running (slice_get w.progress piece.number) ≡ true) × (unfinished w.progress ≤ unfinished v.progress)

    by_open : (b : Bool) → is_open cs piece.number ≡ b → IsTakenBy b v cs cuts piece w ds → Left
    by_open true more taken = (
      ap (λ (u : View N). is_running (slice_get u.progress piece.number)) taken.0 ∙ opens piece.number more,
      le_of_eq (ap (λ (u : View N). unfinished u.progress) taken.0),
    )
    by_open false closed taken =
        let ready = or_none (is_ready v.tasks v.progress piece.number) (is_open cs piece.number)
        (ap (λ k. is_ready v.tasks v.progress k || is_open cs k) (sym its) ∙ can) closed in
        let same = ap (λ (u : View N). unfinished u.progress) taken.0 in
        let most = at_most_taken v piece.number ready in (
          ap (λ (u : View N). is_running (slice_get u.progress piece.number)) taken.0 ∙ running_taken v piece.number ready,
          omega (arith, same, most),
        )

    -- its slot runs, and no more is to come than before
    pub left_taken : Left
    left_taken = by_open (is_open cs piece.number) refl out

-- ---- a piece that was asked for

module _ {N : Type 0} (v w : View N) (cs ds : List (Option Cutting)) (opens : OpenRun v cs) (pick : ℕ) (cuts : List ℕ) where
  some_of : (piece : Piece) → (offered_on v cs ≡ [] → Some piece ≡ None) → offered_on v cs ≢ []
  some_of piece none empty = let e = none empty in absurd (cc (e))

  -- its slot runs
  pub runs_taken : (o : Option Piece) → (offered_on v cs ≡ [] → o ≡ None)
      → IfSome o (λ piece. piece.number ≡ picked_on v cs pick)
      → IfSome o (λ piece. IsTakenFrom v cs cuts piece w ds)
      → IfSome o (λ piece. is_running (slice_get w.progress piece.number) ≡ true)
  runs_taken None none is out = tt
  runs_taken (Some piece) none is out =
      (left_taken v cs opens pick piece.number (some_of piece none) is w ds cuts piece refl out).0

  -- no more is to come than before
  pub more_taken : (o : Option Piece) → (offered_on v cs ≡ [] → o ≡ None)
      → IfSome o (λ piece. piece.number ≡ picked_on v cs pick)
      → IfSome o (λ piece. IsTakenFrom v cs cuts piece w ds) → (o ≡ None → w ≡ v)
      → unfinished w.progress ≤ unfinished v.progress
  more_taken None none is out same = le_of_eq (ap (λ (u : View N). unfinished u.progress) (same refl))
  more_taken (Some piece) none is out same =
      (left_taken v cs opens pick piece.number (some_of piece none) is w ds cuts piece refl out).1

-- ---- boards on which no task is cut

-- one task has nothing more to take
pub uncut_put : (cs ds : List (Option Cutting)) (k : ℕ) → AreUncut cs → IsPut cs k None ds → AreUncut ds
uncut_put cs ds k uncut put j = put j ∙ by_test (eqb j k)
  where
    by_test : (b : Bool) → cond b None (at_slot cs j) ≡ None
    by_test true = refl
    by_test false = uncut j

-- a slot that fails, or doesn't
pub uncut_failed : {A E : Type 0} (cs bs ds : List (Option Cutting)) (k : ℕ) (r : Result A E) → AreUncut cs → bs ≡ cs
    → OnOk r (IsPut bs k None ds) → OnErr r (ds ≡ bs) → AreUncut ds
uncut_failed cs bs ds k (Ok x) uncut same put kept =
    uncut_put bs ds k (subst AreUncut (sym same) uncut) put
uncut_failed cs bs ds k (Err why) uncut same put kept = subst AreUncut (sym (kept ∙ same)) uncut

module _ {N : Type 0} (v w : View N) (cs ds : List (Option Cutting)) (uncut : AreUncut cs) where
  pub closed : (k : ℕ) → is_open cs k ≡ false
  closed k = ap (λ (c : Option Cutting). option_map_or has_more c false) (uncut k)

  -- what can be taken is what is ready
  offered_uncut : offered_on v cs ≡ offered v.tasks v.progress
  unfolding offered_on offered
  offered_uncut =
      numbers_same (λ k. is_ready v.tasks v.progress k || is_open cs k) (is_ready v.tasks v.progress) (length v.tasks)
      (λ k low. ap (λ b. is_ready v.tasks v.progress k || b) (closed k) ∙ or_false (is_ready v.tasks v.progress k))
    where
      or_false : (b : Bool) → (b || false) ≡ b
      or_false true = refl
      or_false false = refl

  -- where nothing can be taken, nothing is ready, and the board is as it was
  pub none_offered : offered_on v cs ≡ [] → w ≡ v → offered w.tasks w.progress ≡ []
  none_offered none same = ap (λ (u : View N). offered u.tasks u.progress) same ∙ (sym offered_uncut ∙ none)

  -- a task goes out whole where no cuts are given
  whole_out : (piece : Piece) → GoesOut cs [] piece ds → (is_whole piece ≡ true) × AreUncut ds
  whole_out piece out = elim out [
    | inl whole ↦ (whole.1, λ k. whole.2 k ∙ uncut k)
    | inr parts ↦ let no : 1 < 1 = parts.1 in absurd (omega (arith, no))
  ]

  pub whole_taken : (piece : Piece) → IsTakenFrom v cs [] piece w ds → (is_whole piece ≡ true) × AreUncut ds
  whole_taken piece out =
      whole_out piece (subst (λ b. IsTakenBy b v cs [] piece w ds) (closed piece.number) out).1

  -- ..of a piece that was asked for
  pub all_whole : (o : Option Piece) → IfSome o (λ piece. IsTakenFrom v cs [] piece w ds)
      → IfSome o (λ piece. is_whole piece ≡ true)
  all_whole None out = tt
  all_whole (Some piece) out = (whole_taken piece out).0

  pub all_uncut : (o : Option Piece) → IfSome o (λ piece. IsTakenFrom v cs [] piece w ds) → (o ≡ None → ds ≡ cs)
      → AreUncut ds
  all_uncut None out same = subst AreUncut (sym (same refl)) uncut
  all_uncut (Some piece) out same = (whole_taken piece out).1
