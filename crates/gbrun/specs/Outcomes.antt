-- How the program ends: on which words, and what output and standard error then hold.
use Rattle.std.specs.Prelude.{ℕ, ◌≡◌, ◌⊎◌, [], codes, List, Option, None, Some, is_some, true, All, Any, IsUtf8}
use Rattle.std.specs.Prelude.{Result, Ok, Err}
use Rattle.std.specs.Option.{option_map_or}
use Rattle.std.specs.Io.KnownBytes.{Appends, Keeps}
use Rattle.clap.specs.Words.{Text, fault_of}
use Rattle.model.specs.Loads.{Sources}
use Rattle.model.specs.declared.memory.NoMemory.{NoMemory}
use Rattle.gbrun.specs.CommandLine.{ChoosesOf, IsMistake, IsRequest, command_line, order_in, text_of}
use Rattle.gbrun.specs.Faults.{line_of, status_of}
use Rattle.gbrun.specs.Known.{AreFiles, HasReadable, IsKnown}
use Rattle.gbrun.specs.Runs.{Made}
use Rattle.gbrun.specs.Writing.{Begins, Grows}
use Rattle.gbrun.specs.declared.fault.Fault.{Fault}
use Rattle.gbrun.specs.declared.options.Options.{Options}
use Rattle.gbrun.specs.declared.fault.Fault.TheVariants.{CommandLine, BadOrder, UnreadableScript, OutOfMemory}
use Rattle.gbrun.specs.declared.fault.Fault.TheVariants.{OutOfMemoryUndelivered, UnwritableOutput}

-- ---- what the words ask for

-- the words are text, and ask for the help or the version
abbrev pub AsksText : List Text → Type 0
AsksText words = All IsUtf8 words × IsRequest (fault_of command_line words)

-- they ask for a run, in an order that there is
abbrev pub AsksRun : List Text → Type 0
AsksRun words = All IsUtf8 words × (fault_of command_line words ≡ []) × (is_some (order_in words) ≡ true)

-- they ask for a run, in an order that there isn't
abbrev pub AsksBadOrder : List Text → Type 0
AsksBadOrder words = All IsUtf8 words × (fault_of command_line words ≡ []) × (order_in words ≡ None)

-- some word isn't text, or they are no command line
abbrev pub AsksNothing : List Text → Type 0
AsksNothing words = Any (λ word. ¬ (IsUtf8 word)) words ⊎ (All IsUtf8 words × IsMistake (fault_of command_line words))

-- ---- the run of a script

-- the bytes of the script that the words name, where they are known: of a file, or what the input still has
abbrev pub script_in : (List ℕ → Option (List ℕ)) → Option (List ℕ) → List Text → Option (List ℕ)
script_in content input words = option_map_or content (text_of (codes "script") words) input

-- the words name the script, and don't leave it to the input
abbrev pub NamesScript : List Text → Type 0
NamesScript words = is_some (text_of (codes "script") words) ≡ true

-- what is known of files, by their names, and of the script
pub record Given : Type 1 where
  pub content : List ℕ → Option (List ℕ)
  pub readable : List ℕ → Type 0
  pub script : Option (List ℕ)

-- ..where the words name the script
abbrev pub given_in : (List ℕ → Option (List ℕ)) → (List ℕ → Type 0) → Option (List ℕ) → List Text → Given
given_in content readable input words =
    record { content = content; readable = readable; script = script_in content input words }

-- what a run may be, by files, script and options
abbrev pub Admits : Type 1
Admits = Sources → List ℕ → Options → Made → Type 0

-- The run that was made may be one of the script with the files, as far as those are known, and with options that
-- were chosen.
pub record IsRun (admits : Admits) (chosen : Options → Type 0) (given : Given) (run : Made) : Type 0 where
  pub script : List ℕ
  pub sources : Sources
  pub options : Options
  pub is_script : IsKnown given.script script
  pub are_files : AreFiles given.content sources
  pub has_readable : HasReadable given.readable script sources
  pub are_options : chosen options
  pub is_run : admits sources script options run

-- ---- how the program ends

-- What becomes of the answers that a run made, and what is told. All of them are delivered, also where memory ran out,
-- or else the fault says that output refused some.
abbrev pub Finishes : Result (Unit {0}) NoMemory → List ℕ → Option (List ℕ) → Option (List ℕ)
    → Result (Unit {0}) Fault → Type 0
Finishes (Ok _) answers old new (Ok _) = Appends old new answers
Finishes (Ok _) answers old new (Err UnwritableOutput) = Begins answers old new
Finishes (Err _) answers old new (Err OutOfMemory) = Appends old new answers
Finishes (Err _) answers old new (Err OutOfMemoryUndelivered) = Begins answers old new
Finishes _ _ _ _ _ = ⊥

-- How the program ends that is to run a script, and what output then holds: by the run that was made, or before one
-- was.
abbrev pub RunEnds : Admits → (Options → Type 0) → Given → Option Made → Option (List ℕ) → Option (List ℕ)
    → Result (Unit {0}) Fault → Type 0
RunEnds admits chosen given (Some run) old new end =
    IsRun admits chosen given run × Finishes run.ended run.appended old new end
RunEnds admits chosen given None old new (Err UnreadableScript) = Keeps old new
RunEnds admits chosen given None old new (Err OutOfMemory) = Keeps old new
RunEnds admits chosen given None old new _ = ⊥

-- how a text to print ends
abbrev pub TextEnds : Option (List ℕ) → Option (List ℕ) → Result (Unit {0}) Fault → Type 0
TextEnds old new (Ok _) = Grows old new
TextEnds old new (Err UnwritableOutput) = Grows old new
TextEnds old new (Err _) = ⊥

-- no run was made, and output is as it was
abbrev pub MakesNone : Option Made → Option (List ℕ) → Option (List ℕ) → Type 0
MakesNone made old new = (made ≡ None) × Keeps old new

-- How the program ends on words, where this is known of files and of the script, and this run was made, if one was.
-- Words that are wrong, or memory that runs out before the run, leave output as it was.
abbrev pub Ends : Admits → List Text → Given → Option Made → Option (List ℕ) → Option (List ℕ)
    → Result (Unit {0}) Fault → Type 0
Ends admits words given made old new (Err (CommandLine _)) = AsksNothing words × MakesNone made old new
Ends admits words given made old new (Err BadOrder) = AsksBadOrder words × MakesNone made old new
Ends admits words given made old new (Err OutOfMemory) =
    MakesNone made old new ⊎ (AsksRun words × RunEnds admits (ChoosesOf words) given made old new (Err OutOfMemory))
Ends admits words given made old new end =
    (AsksText words × (made ≡ None) × TextEnds old new end)
    ⊎ (AsksRun words × RunEnds admits (ChoosesOf words) given made old new end)

abbrev pub status_after : Result (Unit {0}) Fault → ℕ
status_after (Ok _) = 0
status_after (Err fault) = status_of fault

-- standard error gets the fault's line, or a beginning of it where it refuses bytes
abbrev pub Tells : Result (Unit {0}) Fault → Option (List ℕ) → Option (List ℕ) → Type 0
Tells (Ok _) old new = Keeps old new
Tells (Err fault) old new = Begins (line_of fault) old new
