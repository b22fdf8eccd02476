-- What is known of files.
use Rattle.std.specs.Prelude.{ℕ, ◌≡◌, List, Option, Some, Any, IfSome, is_some, true}
use Rattle.model.specs.Grammar.{readings_of}
use Rattle.model.specs.Loads.{Sources, file_named}

-- these are the bytes of a file, as far as those are known
abbrev pub IsKnown : Option (List ℕ) → List ℕ → Type 0
IsKnown content bytes = IfSome content (λ known. bytes ≡ known)

-- what was read of a file, if it could be read, is what it holds
abbrev pub IsFile : Option (List ℕ) → Option (List ℕ) → Type 0
IsFile content read = IfSome read (IsKnown content)

-- ..of each file
abbrev pub AreFiles : (List ℕ → Option (List ℕ)) → Sources → Type 0
AreFiles content sources = (name : List ℕ) → IsFile (content name) (sources name)

-- some line of a script loads the file of this name
abbrev pub IsLoaded : List ℕ → List ℕ → Type 0
IsLoaded script name = Any (λ reading. file_named reading ≡ Some name) (readings_of script)

-- each file that a script loads is there, if it is known that it can be read
abbrev pub HasReadable : (List ℕ → Type 0) → List ℕ → Sources → Type 0
HasReadable readable script sources =
    (name : List ℕ) → IsLoaded script name → readable name → is_some (sources name) ≡ true
