-- Lists of events, and what they are answered.
use Rattle.std.specs.Prelude.{◌≡◌, ◌≢◌, ◌+◌, ◌-◌, Bool, true, false, List, [], ◌∷◌, Some, None, Ok, Err, length}
use Rattle.std.specs.Prelude.{slice_get, slice_index}
use Rattle.std.specs.Arc.{arc_value}
use Rattle.runner.specs.Tickets.{IsStoreFor}
use Rattle.board.specs.Boards.{Shown}
use Rattle.board.specs.Cuts.{IsLeftBy, IsPut, IsTakenFrom, at_slot, is_parted, offered_on, picked_on, told_blocks}
use Rattle.board.specs.Cuts.{told_on}
use Rattle.board.specs.Events.{Accepts, failed, issued, may_fail, may_hold, may_let_go}
use Rattle.board.specs.Events.{with_holds, with_progress}
use Rattle.board.specs.Looks.{Seen, SeenDone, SeenFailed, SeenGone, SeenUnfinished, seen_of}
use Rattle.board.specs.Pieces.{IsBlockFor, IsPieceFor}
use Rattle.stages.specs.Progress.{Made, is_joining}
use Rattle.stages.specs.Tasks.{object_at}
use Rattle.stages.specs.Views.{state_of}
use Rattle.board.specs.declared.look.Refusal.TheVariants.{Stranger, NoMemory}
use Rattle.board.specs.declared.schedule.Answer.{Answer}
use Rattle.board.specs.declared.schedule.Answer.TheVariants as answer
use Rattle.board.specs.declared.schedule.Event.{Event}
use Rattle.board.specs.declared.schedule.Event.TheVariants.{Issue, Take, Give, Whole, Fail, Hold, LetGo, Look}
use Rattle.board.specs.declared.schedule.Sight.{Sight}
use Rattle.board.specs.declared.schedule.Sight.TheVariants as sight

-- what there is of a slot, as an answer tells it
abbrev pub seen_as : Sight → Seen
seen_as sight.Unfinished = SeenUnfinished
seen_as sight.Done = SeenDone
seen_as sight.Failed = SeenFailed
seen_as sight.Gone = SeenGone

-- an event that is done where it may be, and has nothing else to answer; elsewhere it is of a stranger
abbrev pub IsDone : {N : Type 0} → Bool → Shown N → Type 0 → Answer → Shown N → Type 0
IsDone may s done answer.Done t = (may ≡ true) × done
IsDone may s done (answer.Refused why) t = (may ≡ false) × (why ≡ Stranger) × (t ≡ s)
IsDone may s done other t = ⊥

-- what an event is answered, and what it leaves
abbrev pub IsAnswered : {N : Type 0} → Shown N → Event N → Answer → Shown N → Type 0
IsAnswered s (Issue note recipe inputs) (answer.Issued number) t =
    Accepts s.slots recipe inputs × (number ≡ length s.slots.tasks)
    × (t ≡ record s { slots = issued s.slots note recipe inputs })
IsAnswered s (Issue note recipe inputs) (answer.Refused Stranger) t = (Accepts s.slots recipe inputs → ⊥) × (t ≡ s)
IsAnswered s (Issue note recipe inputs) (answer.Refused NoMemory) t =
    ((Accepts s.slots recipe inputs → ⊥) → ⊥) × (t ≡ s)
IsAnswered s (Issue note recipe inputs) other t = ⊥
IsAnswered s (Take pick cuts) (answer.Taken (Some piece)) t = (piece.number ≡ picked_on s.slots s.cuts pick)
    × IsTakenFrom s.slots s.cuts cuts.items piece t.slots t.cuts × IsPieceFor t.slots.tasks piece
IsAnswered s (Take pick cuts) (answer.Taken None) t = (offered_on s.slots s.cuts ≡ []) × (t ≡ s)
IsAnswered s (Take pick cuts) (answer.Unshared number) t =
    (offered_on s.slots s.cuts ≢ []) × (number ≡ picked_on s.slots s.cuts pick) × (t ≡ s)
IsAnswered s (Take pick cuts) other t = ⊥
IsAnswered s (Give number piece block) (answer.Given given) t =
    (told_on s.slots s.cuts number piece block ≡ Ok (told_blocks given))
    × IsLeftBy s.slots s.cuts number piece block (at_slot s.cuts number) (told_blocks given) t.slots t.cuts
IsAnswered s (Give number piece block) (answer.Refused why) t =
    (told_on s.slots s.cuts number piece block ≡ Err why) × (t ≡ s)
IsAnswered s (Give number piece block) other t = ⊥
IsAnswered s (Whole number store) answer t = IsDone (is_joining (slice_get s.slots.progress number)) s
    ((t.slots ≡ with_progress s.slots number Made) × IsPut s.cuts number None t.cuts) answer t
IsAnswered s (Fail number) answer t = IsDone (may_fail s.slots number) s
    ((t.slots ≡ failed s.slots number) × IsPut s.cuts number None t.cuts) answer t
IsAnswered s (Hold number) answer t = IsDone (may_hold s.slots number) s
    (t ≡ record s { slots = with_holds s.slots number (slice_index s.slots.holds number + 1) }) answer t
IsAnswered s (LetGo number) answer t = IsDone (may_let_go s.slots number) s
    (t ≡ record s { slots = with_holds s.slots number (slice_index s.slots.holds number - 1) }) answer t
IsAnswered s (Look number) (answer.Seen seen) t = (seen_as seen ≡ seen_of (state_of s.slots number)) × (t ≡ s)
IsAnswered s (Look number) other t = ⊥

-- one event after the other
abbrev pub AreAnswered : {N : Type 0} → Shown N → List (Event N) → List Answer → Shown N → Type 0
AreAnswered s [] [] t = t ≡ s
AreAnswered {N} s (e ∷ es) (a ∷ more) t = (u : Shown N) × IsAnswered s e a u × AreAnswered u es more t
AreAnswered s es other t = ⊥

-- a store that is handed in is that of its slot's object, and a block for a piece has what it makes in its rows
abbrev pub IsRight : {N : Type 0} → Shown N → Event N → Type 0
IsRight s (Whole number store) = is_joining (slice_get s.slots.progress number) ≡ true
    → IsStoreFor (object_at s.slots.tasks number) (arc_value store)
IsRight s (Give number piece block) = is_parted (at_slot s.cuts number) ≡ true → IsBlockFor s.slots.tasks number block
IsRight s event = Unit {0}

-- ..in a list of events, whatever those before it are answered
abbrev pub AreRight : {N : Type 0} → Shown N → List (Event N) → Type 0
AreRight s [] = Unit {0}
AreRight {N} s (e ∷ es) = IsRight s e × ((a : Answer) (u : Shown N) → IsAnswered s e a u → AreRight u es)
