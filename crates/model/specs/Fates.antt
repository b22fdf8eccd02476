-- Runs of lines of which it is said which were refused memory and which were told of a failure: what they answer, and
-- whether memory may have been wanting so.
use Rattle.std.specs.Prelude.{ℕ, ◌+◌, ◌&&◌, not, Bool, false, true, List, [], ◌∷◌, ◌++◌}
use Rattle.std.specs.Option.{option_map_or}
use Rattle.std.specs.Str.{bytes_eq}
use Rattle.model.specs.Grammar.{Name, Reading, Silent}
use Rattle.model.specs.Marks.{State, failed, is_unmarked, told}
use Rattle.model.specs.MatrixMarket.{File}
use Rattle.model.specs.Poisoned.{after_line, asked_in, invalid_object}
use Rattle.model.specs.Run.{turn}
use Rattle.model.specs.Runs.{out_of_memory}
use Rattle.model.specs.Text.{Answer}

-- a line does what it does at once, is told that an object failed, or is refused memory
pub data Fate : Type 0 where
  AtOnce : Fate
  Failing : Fate
  Refused : Fate

-- what a line answers
abbrev pub said_by : ℕ → State Name → Reading File → Fate → List Answer
said_by number s reading AtOnce = (turn number s.environment reading).0
said_by number s reading Failing = invalid_object number ∷ []
said_by number s reading Refused = out_of_memory number ∷ []

-- ..and leaves
abbrev pub after_fate : State Name → Reading File → Fate → State Name
after_fate s reading AtOnce = after_line s reading
after_fate s reading Failing = option_map_or (failed bytes_eq s s.environment) (asked_in s reading) s
after_fate s reading Refused = s

-- whether it may fare so: at once where it asks for the value of no object that was told, failing where it asks for one
-- that may not be there, and refused where it has an answer
abbrev pub may_fare : State Name → Reading File → Fate → Bool
may_fare s reading AtOnce = not (option_map_or (told s) (asked_in s reading) false)
may_fare s reading Failing = option_map_or (λ object. not (is_unmarked (s.marks object))) (asked_in s reading) false
may_fare s Silent Refused = false
may_fare s reading Refused = true

-- all lines, numbered from a number on
unfoldable pub said_from : ℕ → State Name → List (Reading File × Fate) → List Answer
said_from number s [] = []
said_from number s (line ∷ lines) =
    said_by number s line.0 line.1 ++ said_from (number + 1) (after_fate s line.0 line.1) lines

unfoldable pub may_all_fare : State Name → List (Reading File × Fate) → Bool
may_all_fare s [] = true
may_all_fare s (line ∷ lines) = may_fare s line.0 line.1 && may_all_fare (after_fate s line.0 line.1) lines
