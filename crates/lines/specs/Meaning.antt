-- What the code reads of a line.
use Rattle.std.specs.Prelude.{ℕ, ◌≡◌, List, [], ◌∷◌, Option, Some, None, Result, Ok, Err, codes}
use Rattle.lines.specs.declared.fault.LineFault.{LineFault}
use Rattle.lines.specs.declared.fault.LineFault.TheVariants.{Syntax, NoMemory}
use Rattle.lines.specs.declared.line.Line.{Line}
use Rattle.lines.specs.declared.line.Load.{Load as LoadLine}
use Rattle.lines.specs.declared.line.Line.TheVariants.{Silent, Call, Load}
use Rattle.model.specs.declared.call.Act.TheVariants.{Free, Clear, Nvals, Print}
use Rattle.model.specs.declared.call.Call.{Call as ACall}
use Rattle.model.specs.declared.call.Call.TheVariants.{On}
use Rattle.model.specs.declared.call.Region.{Region}
use Rattle.model.specs.declared.call.Region.TheVariants as region
use Rattle.model.specs.declared.shape.Place.{Place}
use Rattle.model.specs.declared.shape.Place.TheVariants as place
use Rattle.model.specs.declared.shape.Shape.{Shape}
use Rattle.model.specs.declared.shape.Shape.TheVariants as shape
use Rattle.model.specs.Grammar as grammar
use Rattle.model.specs.Renamed.{renamed}
use Rattle.model.specs.Runs.{IsAnswered}

-- the readings of a load, and of any line
abbrev pub load_in : LoadLine → grammar.Reading (List ℕ)
load_in load = grammar.Loads load.name.now load.domain load.file.now

abbrev pub reading_in : Line → grammar.Reading (List ℕ)
reading_in Silent = grammar.Silent
reading_in (Call call) = grammar.Called (renamed (λ name. name.now) (λ name. name.now) call)
reading_in (Load load) = load_in load

-- what was read of a line is this reading, unless memory was refused at a line that has an answer
abbrev pub Reads : Result Line LineFault → grammar.Reading (List ℕ) → Type 0
Reads (Ok line) reading = reading ≡ reading_in line
Reads (Err Syntax) reading = reading ≡ grammar.Malformed
Reads (Err NoMemory) reading = IsAnswered reading

-- what was read is what a word says, seen another way, unless memory was refused
abbrev pub IsRead : {A B : Type 0} → (A → B) → Option B → Result A LineFault → Type 0
IsRead view said (Ok x) = said ≡ Some (view x)
IsRead view said (Err Syntax) = said ≡ None
IsRead view said (Err NoMemory) = Unit {0}

-- what was read is what a word says; no memory is asked for
abbrev pub IsSaid : {A : Type 0} → Option A → Result A LineFault → Type 0
IsSaid said (Ok x) = said ≡ Some x
IsSaid said (Err Syntax) = said ≡ None
IsSaid said (Err NoMemory) = ⊥

-- ---- rows without a first word, of what is said of a vector or of a matrix

abbrev pub shapes : List (grammar.Row Shape)
shapes =
    grammar.row [] (grammar.ANumber ∷ []) shape.One
    ∷ grammar.row [] (grammar.ANumber ∷ grammar.ANumber ∷ []) shape.Two
    ∷ []

abbrev pub places : List (grammar.Row Place)
places =
    grammar.row [] (grammar.ANumber ∷ []) place.One
    ∷ grammar.row [] (grammar.ANumber ∷ grammar.ANumber ∷ []) place.Two
    ∷ []

abbrev pub regions : List (grammar.Row Region)
regions =
    grammar.row [] (grammar.AList ∷ []) region.One
    ∷ grammar.row [] (grammar.AList ∷ grammar.AList ∷ []) region.Two
    ∷ []

-- ---- parts of the grammar's tables

-- the calls of a name alone
abbrev pub bare_calls : List (grammar.Row (ACall grammar.Name grammar.Name))
bare_calls =
    grammar.row (codes "free") (grammar.AName ∷ []) (λ object. On object Free)
    ∷ grammar.row (codes "clear") (grammar.AName ∷ []) (λ object. On object Clear)
    ∷ grammar.row (codes "nvals") (grammar.AName ∷ []) (λ object. On object Nvals)
    ∷ grammar.row (codes "print") (grammar.AName ∷ []) (λ object. On object Print)
    ∷ []
