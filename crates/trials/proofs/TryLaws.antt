-- Events that issue nothing change no task, so that a row of them is right where each is.
use Rattle.std.proofs.Common.{◌≡◌, ◌∙◌, ℕ, Bool, true, false, List, [], ◌∷◌, Option, Some, None, ap}
use Rattle.std.specs.List.{All}
use Rattle.std.proofs.lemmas.List.Elements.{All-head, All-tail}
use Rattle.board.specs.Boards.{Shown}
use Rattle.board.specs.Cuts.{Cutting, IsLeftBy, IsTakenBy, at_slot, is_open, told_blocks}
use Rattle.board.specs.Schedules.{AreRight, IsAnswered, IsDone}
use Rattle.stages.specs.Tasks.{Task, object_at}
use Rattle.stages.specs.Views.{View}
use Rattle.board.specs.declared.piece.Piece.{Piece}
use Rattle.board.specs.declared.schedule.Answer.{Answer}
use Rattle.board.specs.declared.schedule.Answer.TheVariants as answer
use Rattle.board.specs.declared.schedule.Event.{Event}
use Rattle.board.specs.declared.schedule.Event.TheVariants.{Issue, Take, Give, Whole, Fail, Hold, LetGo, Look}
use Rattle.trials.specs.Tries.{IsTry, issues, matrix}
use Rattle.kernel.specs.declared.block.Block.{Block}

-- ---- tasks stay

taken_tasks : {N : Type 0} (more : Bool) (v w : View N) (cs ds : List (Option Cutting)) (cuts : List ℕ) (piece : Piece)
    → IsTakenBy more v cs cuts piece w ds → w.tasks ≡ v.tasks
taken_tasks true v w cs ds cuts piece is = ap (λ (u : View _). u.tasks) is.0
taken_tasks false v w cs ds cuts piece is = ap (λ (u : View _). u.tasks) is.0

left_tasks : {N : Type 0} (v w : View N) (cs ds : List (Option Cutting)) (k piece : ℕ) (block : Block) (c : Option Cutting)
    (told : Option (List Block)) → IsLeftBy v cs k piece block c told w ds → w.tasks ≡ v.tasks
left_tasks v w cs ds k piece block None None is = ap (λ (u : View _). u.tasks) is.0
left_tasks v w cs ds k piece block None (Some blocks) is = ap (λ (u : View _). u.tasks) is.0
left_tasks v w cs ds k piece block (Some c) None is = ap (λ (u : View _). u.tasks) is.0
left_tasks v w cs ds k piece block (Some c) (Some blocks) is = ap (λ (u : View _). u.tasks) is.0

done_tasks : (may : Bool) (s t : Shown ℕ) (D : Type 0) (a : Answer) → (D → t.slots.tasks ≡ s.slots.tasks)
    → IsDone may s D a t → t.slots.tasks ≡ s.slots.tasks
done_tasks may s t D (answer.Issued n) same is = absurd is
done_tasks may s t D (answer.Taken piece) same is = absurd is
done_tasks may s t D (answer.Unshared n) same is = absurd is
done_tasks may s t D (answer.Given given) same is = absurd is
done_tasks may s t D answer.Done same is = same is.1
done_tasks may s t D (answer.Seen sight) same is = absurd is
done_tasks may s t D (answer.Refused why) same is = ap (λ (u : Shown ℕ). u.slots.tasks) is.2

tasks_stay : (s t : Shown ℕ) (e : Event ℕ) (a : Answer) → issues e ≡ false → IsAnswered s e a t
    → t.slots.tasks ≡ s.slots.tasks
tasks_stay s t (Issue note recipe inputs) a none is = absurd cc
tasks_stay s t (Take pick cuts) (answer.Issued n) none is = absurd is
tasks_stay s t (Take pick cuts) (answer.Taken None) none is = ap (λ (u : Shown ℕ). u.slots.tasks) is.1
tasks_stay s t (Take pick cuts) (answer.Taken (Some piece)) none is =
    taken_tasks (is_open s.cuts piece.number) s.slots t.slots s.cuts t.cuts cuts.items piece is.1
tasks_stay s t (Take pick cuts) (answer.Unshared n) none is = ap (λ (u : Shown ℕ). u.slots.tasks) is.2
tasks_stay s t (Take pick cuts) (answer.Given given) none is = absurd is
tasks_stay s t (Take pick cuts) answer.Done none is = absurd is
tasks_stay s t (Take pick cuts) (answer.Seen sight) none is = absurd is
tasks_stay s t (Take pick cuts) (answer.Refused why) none is = absurd is
tasks_stay s t (Give k piece block) (answer.Issued n) none is = absurd is
tasks_stay s t (Give k piece block) (answer.Taken taken) none is = absurd is
tasks_stay s t (Give k piece block) (answer.Unshared n) none is = absurd is
tasks_stay s t (Give k piece block) (answer.Given given) none is =
    left_tasks s.slots t.slots s.cuts t.cuts k piece block (at_slot s.cuts k) (told_blocks given) is.1
tasks_stay s t (Give k piece block) answer.Done none is = absurd is
tasks_stay s t (Give k piece block) (answer.Seen sight) none is = absurd is
tasks_stay s t (Give k piece block) (answer.Refused why) none is = ap (λ (u : Shown ℕ). u.slots.tasks) is.1
tasks_stay s t (Whole k store) a none is =
    done_tasks _ s t _ a (λ done. ap (λ (u : View ℕ). u.tasks) done.0) is
tasks_stay s t (Fail k) a none is = done_tasks _ s t _ a (λ done. ap (λ (u : View ℕ). u.tasks) done.0) is
tasks_stay s t (Hold k) a none is = done_tasks _ s t _ a (λ done. ap (λ (u : Shown ℕ). u.slots.tasks) done) is
tasks_stay s t (LetGo k) a none is = done_tasks _ s t _ a (λ done. ap (λ (u : Shown ℕ). u.slots.tasks) done) is
tasks_stay s t (Look k) (answer.Issued n) none is = absurd is
tasks_stay s t (Look k) (answer.Taken taken) none is = absurd is
tasks_stay s t (Look k) (answer.Unshared n) none is = absurd is
tasks_stay s t (Look k) (answer.Given given) none is = absurd is
tasks_stay s t (Look k) answer.Done none is = absurd is
tasks_stay s t (Look k) (answer.Seen sight) none is = ap (λ (u : Shown ℕ). u.slots.tasks) is.1
tasks_stay s t (Look k) (answer.Refused why) none is = absurd is

-- ---- rows of events

pub right_row : (s : Shown ℕ) (es : List (Event ℕ)) → All IsTry es → object_at s.slots.tasks 0 ≡ matrix → AreRight s es
right_row s [] tries is = tt
right_row s (e ∷ es) tries is =
    let first = All-head IsTry e es tries in (
      first.right s is,
      λ a u told. right_row u es (All-tail IsTry e es tries)
          (ap (λ (ts : List Task). object_at ts 0) (tasks_stay s u e a first.issues_none told) ∙ is),
    )
