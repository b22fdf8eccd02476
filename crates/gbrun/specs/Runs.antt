-- Runs of scripts, and what they may append.
use Rattle.std.specs.Prelude.{ℕ, ◌≡◌, [], List, take, Option, None, Some, Result, Ok, Err}
use Rattle.model.specs.Loads.{Sources, readings_in}
use Rattle.model.specs.Poisoned.{Ran}
use Rattle.model.specs.declared.memory.NoMemory.{NoMemory}
use Rattle.gbrun.specs.declared.options.Options.{Options}

-- a run that was made: what it appended, and how it ended
pub record Made : Type 0 where
  pub appended : List ℕ
  pub ended : Result (Unit {0}) NoMemory

-- a run was made, that ended so, and may be one of these
abbrev pub IsMade : (Made → Type 0) → Result (Unit {0}) NoMemory → Option Made → Type 0
IsMade may_be result (Some run) = (run.ended ≡ result) × may_be run
IsMade may_be result None = ⊥

-- what a run appends that ends so: the text of the script's answers, or of those to its first n lines, for some n
abbrev pub AreAnswers : Sources → List ℕ → List ℕ → Result (Unit {0}) NoMemory → Type 0
AreAnswers sources script text (Ok _) = Ran (readings_in sources script) [] text
AreAnswers sources script text (Err _) = (n : ℕ) × Ran (take n (readings_in sources script)) [] text

-- a run by `script::run`, over whatever runner the options choose: the answers show none of them
abbrev pub AnswersRun : Sources → List ℕ → Options → Made → Type 0
AnswersRun sources script options run = AreAnswers sources script run.appended run.ended
