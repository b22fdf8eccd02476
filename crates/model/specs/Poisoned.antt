-- Runs of lines in which work may be put off and memory refused (GrB_NONBLOCKING). Calls done at once are such a run,
-- and so is one in which any work, done in any order, failed.
use Rattle.std.specs.Prelude.{ℕ, ◌+◌, ◌≡◌, ◌⊎◌, ◌&&◌, not, Bool, false, true, is_some, List, [], ◌∷◌, ◌++◌, Option}
use Rattle.std.specs.Prelude.{None}
use Rattle.std.specs.List.{flat_map}
use Rattle.std.specs.Option.{option_map, option_map_or}
use Rattle.std.specs.Str.{bytes_eq}
use Rattle.model.specs.declared.call.Act.TheVariants.{Free, Clear}
use Rattle.model.specs.declared.call.Call.{Call}
use Rattle.model.specs.declared.call.Call.TheVariants.{Create, Dup, On, Operate}
use Rattle.model.specs.declared.status.Status.{Status}
use Rattle.model.specs.declared.status.Status.TheVariants as status
use Rattle.model.specs.Fault.{early_fault, fault_by_values}
use Rattle.model.specs.Grammar.{Name, Reading, Silent, Malformed, Called, Loads}
use Rattle.model.specs.Loads.{load_fault}
use Rattle.model.specs.Marks.{HasFailed, IsUntold, Settles, State, Unmarked, asked_by, first_state, left_by}
use Rattle.model.specs.Marks.{looked_at}
use Rattle.model.specs.Marks.{reads_told, told, with_mark}
use Rattle.model.specs.MatrixMarket.{File}
use Rattle.model.specs.Object.{no_content, signature_of}
use Rattle.model.specs.Renamed.{renamed}
use Rattle.model.specs.Run.{Environment, loaded, object_at, seen, turn}
use Rattle.model.specs.Runs.{IsAnswered, out_of_memory}
use Rattle.model.specs.Text.{Answer, answer_text}

-- ---- one line

-- the fault of a call that comes before any that tells of an object's value
abbrev pub fault_before : State Name → Call Name Name → Option Status
fault_before s call = early_fault s.environment.count
    (renamed (option_map signature_of) (λ taken. taken) (seen s.environment call))

-- the object for whose value a line asks, where no fault comes before
abbrev pub asked_in : State Name → Reading File → Option Name
asked_in s (Called call) = option_map_or (λ fault. None) (fault_before s call) (asked_by call)
asked_in s reading = None

-- what a line leaves that does what it does at once: a call..
abbrev pub after_call : State Name → Call Name Name → State Name
after_call s call = option_map_or (λ fault. s) (fault_before s call)
    (option_map_or (λ fault. looked_at bytes_eq s call) (fault_by_values (seen s.environment call))
    (left_by bytes_eq s call))

-- ..a load, which makes an object whose value is there..
abbrev pub after_load : State Name → Name → Environment Name → Option Status → State Name
after_load s name env fault = option_map_or (λ fault. s) fault (with_mark bytes_eq s env name Unmarked)

-- ..or any
abbrev pub after_line : State Name → Reading File → State Name
after_line s Silent = s
after_line s Malformed = s
after_line s (Called call) = after_call s call
after_line s (Loads name domain file) = after_load s name (loaded bytes_eq s.environment name domain file)
    (load_fault s.environment.count (is_some (s.environment.find_object name)) file)

-- a line does what it does at once, and asks for no value of an object that was told
pub record IsDone (number : ℕ) (before : State Name) (reading : Reading File) (said : List Answer)
    (after : State Name) : Type 0 where
  pub says : said ≡ (turn number before.environment reading).0
  pub untold : IsUntold before (asked_in before reading)
  pub leaves : after ≡ after_line before reading

abbrev pub invalid_object : ℕ → Answer
invalid_object number = record { number = number; status = status.InvalidObject; data_lines = [] }

-- ..or is told that an object failed, for whose value it asks..
abbrev pub IsTold : ℕ → State Name → Reading File → List Answer → State Name → Type 0
IsTold number before reading said after =
    (said ≡ invalid_object number ∷ []) × HasFailed bytes_eq before (asked_in before reading) after

-- ..or is refused memory, and changes nothing
abbrev pub IsRefused : ℕ → State Name → Reading File → List Answer → State Name → Type 0
IsRefused number before reading said after =
    IsAnswered reading × (said ≡ out_of_memory number ∷ []) × (after ≡ before)

-- what a line may say and leave
abbrev pub IsLine : ℕ → State Name → Reading File → List Answer → State Name → Type 0
IsLine number before reading said after = IsDone number before reading said after
    ⊎ (IsTold number before reading said after ⊎ IsRefused number before reading said after)

-- a line makes the content of an object anew, and reads nothing of what it has
abbrev pub makes_anew : State Name → Reading File → Name → Bool
makes_anew s (Called (Create taken domain shape)) name = bytes_eq taken name
makes_anew s (Called (Dup taken object)) name = bytes_eq taken name
makes_anew s (Called (On object Free)) name = bytes_eq object name
makes_anew s (Called (On object Clear)) name = bytes_eq object name
makes_anew s (Called (Operate out operation)) name = bytes_eq out.c name && not (reads_told s out operation)
makes_anew s (Loads taken domain file) name = bytes_eq taken name
makes_anew s reading name = false

-- objects that were told have no entries
abbrev pub IsAgreed : State Name → Type 0
IsAgreed s = (name : Name) → told s name ≡ true → (object_at s.environment name).content ≡ no_content

-- ---- all lines

-- answers of lines that are numbered from a number on: before any of them the values of objects may come to be there
unfoldable pub IsPoisonedRun : ℕ → State Name → List (Reading File) → List Answer → Type 0
IsPoisonedRun number before [] answers = answers ≡ []
IsPoisonedRun number before (reading ∷ readings) answers =
    (ready : State Name) × (said : List Answer) × (after : State Name) × (later : List Answer) × Settles before ready
    × IsLine number ready reading said after × IsPoisonedRun (number + 1) after readings later
    × (answers ≡ said ++ later)

-- bytes, and with them the answers of a run of lines
pub record Ran (readings : List (Reading File)) (old new : List ℕ) : Type 0 where
  pub answers : List Answer
  pub run : IsPoisonedRun 1 first_state readings answers
  pub written : new ≡ old ++ flat_map answer_text answers
