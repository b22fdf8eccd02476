-- How calls on named objects end, and what they answer and leave.
use Rattle.std.specs.Prelude.{ℕ, ◌+◌, ◌++◌, ◌≡◌, ◌≤◌, ◌⊎◌, IfOk, List, OnOk, None, Some, Result, Ok, Err, is_some}
use Rattle.std.specs.List.{flat_map}
use Rattle.std.specs.Str.{bytes_eq}
use Rattle.algebra.specs.declared.domain.Domain.{Domain}
use Rattle.model.specs.declared.call.Call.{Call}
use Rattle.model.specs.declared.status.Status.{Status}
use Rattle.model.specs.Grammar.{Name}
use Rattle.model.specs.Loads.{load_fault}
use Rattle.model.specs.Marks.{Settles, State, Unmarked, with_mark}
use Rattle.model.specs.MatrixMarket.{File}
use Rattle.model.specs.Run.{data_lines_of, loaded, on_objects, seen}
use Rattle.model.specs.Text.{ended}
use Rattle.runner.specs.declared.runner.Runner.{Ghosts}
use Rattle.script.specs.declared.environment.Environment.{Environment as Objects}
use Rattle.script.specs.Named.{HasLines, environment_in, reply_lines, state_in}
use Rattle.session.specs.declared.reply.Reply.{Reply}
use Rattle.session.specs.Ends.{Ends, IsRefused, Setting}
use Rattle.session.specs.Performed.{made_in}

-- a call on named objects, and what it finds and leaves
abbrev pub named_setting : State Name → Call Name Name → State Name → Setting Name
named_setting before call after = record {
  same = bytes_eq;
  count = before.environment.count;
  call = call;
  seen = seen before.environment call;
  before = before;
  after = after;
}

-- the call was done: how it ended, that what it answers are the call's data lines, and that one that answers lines
-- changed nothing
pub record IsReplied {R T : Type 0} {g : Ghosts R T} (old new : Objects R T g) (call : Call Name Name)
    (result : Result Reply Status) : Type 0 where
  pub ends : Ends (named_setting (state_in old) call (state_in new)) result
  pub made : made_in new.session ≤ made_in old.session + 1
  pub lines : IfOk result (λ reply. reply_lines reply ≡ data_lines_of (on_objects (environment_in old) call))
  pub reads : IfOk result (λ reply. HasLines reply → Settles (state_in old) (state_in new))

-- the same of a call whose data lines stand behind a text
pub record IsAnswered {R T X : Type 0} {g : Ghosts R T} (old new : Objects R T g) (call : Call Name Name)
    (before after : List ℕ) (result : Result X Status) : Type 0 where
  pub ends : Ends (named_setting (state_in old) call (state_in new)) result
  pub lines : OnOk result (after ≡ before ++ flat_map ended (data_lines_of (on_objects (environment_in old) call)))
  pub made : made_in new.session ≤ made_in old.session + 1

-- ..and of one that makes an object under a name, or frees it
pub record IsNamed {R T X : Type 0} {g : Ghosts R T} (old new : Objects R T g) (call : Call Name Name)
    (result : Result X Status) : Type 0 where
  pub ends : Ends (named_setting (state_in old) call (state_in new)) result
  pub made : made_in new.session ≤ made_in old.session + 1

-- how a load ends: it makes its matrix, whose value is there; or it has a fault, or is refused memory
abbrev pub EndsAsLoad : {X : Type 0} → State Name → Name → Domain → File → State Name → Result X Status → Type 0
EndsAsLoad before name domain file after (Ok x) =
    (load_fault before.environment.count (is_some (before.environment.find_object name)) file ≡ None)
    × Settles (with_mark bytes_eq before (loaded bytes_eq before.environment name domain file) name Unmarked) after
EndsAsLoad before name domain file after (Err s) =
    ((load_fault before.environment.count (is_some (before.environment.find_object name)) file ≡ Some s)
    × (after ≡ before))
    ⊎ IsRefused before after s
