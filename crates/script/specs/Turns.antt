-- What one line of a script is answered by, as text.
use Rattle.std.specs.Prelude.{ℕ, ◌≡◌, ◌++◌, List}
use Rattle.std.specs.List.{flat_map}
use Rattle.model.specs.Grammar.{Name, Reading}
use Rattle.model.specs.Marks.{Settles, State}
use Rattle.model.specs.MatrixMarket.{File}
use Rattle.model.specs.Poisoned.{IsLine}
use Rattle.model.specs.Text.{Answer, answer_text}

-- the text is that of the answers of a line, behind which values may come to be there
abbrev pub Says : ℕ → State Name → Reading File → List ℕ → State Name → Type 0
Says number before reading text after = (said : List Answer) × (left : State Name)
    × IsLine number before reading said left × Settles left after × (text ≡ flat_map answer_text said)

-- ..where it begins behind what was written before, and ends with a rest
abbrev pub SaysBehind : ℕ → State Name → Reading File → List ℕ → List ℕ → List ℕ → State Name → Type 0
SaysBehind number before reading old new rest after =
    (text : List ℕ) × (new ≡ old ++ text) × Says number before reading (text ++ rest) after
