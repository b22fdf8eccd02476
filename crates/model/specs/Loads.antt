-- Lines that load matrices of files.
use Rattle.std.specs.Prelude.{ℕ, nat_le, Bool, false, is_none, List, map, Option, Some, None}
use Rattle.std.specs.Option.{option_map, option_map_or}
use Rattle.std.specs.Result.{is_err}
use Rattle.algebra.specs.declared.domain.Domain.{Domain}
use Rattle.model.specs.declared.limits.TheConstants.{MOST_OBJECTS}
use Rattle.model.specs.declared.status.Status.{Status}
use Rattle.model.specs.declared.status.Status.TheVariants as status
use Rattle.model.specs.Fault.{first_of}
use Rattle.model.specs.Grammar.{Reading, Silent, Malformed, Called, Loads, readings_of}
use Rattle.model.specs.MatrixMarket.{File, matrix_in}

-- the bytes of files, by their names
abbrev pub Sources : Type 0
Sources = List ℕ → Option (List ℕ)

-- what is read of a file
abbrev pub file_in : Sources → Domain → List ℕ → File
file_in sources domain name = option_map (matrix_in domain) (sources name)

-- a line with what is read of the file that it names
abbrev pub with_file : Sources → Reading (List ℕ) → Reading File
with_file sources Silent = Silent
with_file sources Malformed = Malformed
with_file sources (Called call) = Called call
with_file sources (Loads name domain file) = Loads name domain (file_in sources domain file)

-- what the lines of a script are, with these files
unfoldable pub readings_in : Sources → List ℕ → List (Reading File)
readings_in sources script = map (with_file sources) (readings_of script)

-- the file that a line names
abbrev pub file_named : Reading (List ℕ) → Option (List ℕ)
file_named (Loads name domain file) = Some file
file_named _ = None

-- whether a file is there and no matrix
abbrev pub is_bad : File → Bool
is_bad file = option_map_or is_err file false

-- which tests a load fails, with so many objects and whether its name is taken
abbrev pub load_fails : ℕ → Bool → File → Status → Bool
load_fails count taken file status.NameTaken = taken
load_fails count taken file status.NoFile = is_none file
load_fails count taken file status.BadFile = is_bad file
load_fails count taken file status.NotImplemented = nat_le MOST_OBJECTS count
load_fails count taken file _ = false

-- the fault of a load, if it has one
unfoldable pub load_fault : ℕ → Bool → File → Option Status
load_fault count taken file = first_of (load_fails count taken file)
