-- Answers that tell of want of memory (GrB_OUT_OF_MEMORY and GrB_INVALID_OBJECT are execution errors, which a call may
-- give for the work of others; that the first leaves each object as it was is this project's).
use Rattle.std.specs.Prelude.{ℕ, ◌≡◌, ◌≢◌, List, [], ◌++◌, codes}
use Rattle.std.specs.List.{All}
use Rattle.model.specs.declared.status.Status.TheVariants as status
use Rattle.model.specs.Grammar.{Reading, Silent, Malformed, Called, Loads}
use Rattle.model.specs.Text.{Answer}

-- the answer that memory was refused
abbrev pub out_of_memory : ℕ → Answer
out_of_memory number = record { number = number; status = status.OutOfMemory; data_lines = [] }

-- a line has an answer, be it a command or malformed
abbrev pub IsAnswered : {F : Type 0} → Reading F → Type 0
IsAnswered Silent = ⊥
IsAnswered Malformed = Unit {0}
IsAnswered (Called call) = Unit {0}
IsAnswered (Loads name domain file) = Unit {0}

-- no answer tells of want of memory: neither that it was refused, nor that an object has no value for want of it
abbrev pub HadMemory : List Answer → Type 0
HadMemory answers = All (λ a. (a.status ≢ status.OutOfMemory) × (a.status ≢ status.InvalidObject)) answers

-- ---- in bytes

-- a word stands somewhere in a text
abbrev pub HasWord : List ℕ → List ℕ → Type 0
HasWord word text = (before : List ℕ) × (after : List ℕ) × (text ≡ before ++ (word ++ after))

-- no part of a text says that memory was wanting
pub record TellsOfNoWant (text : List ℕ) : Type 0 where
  pub no_refusal : ¬ (HasWord (codes "OUT_OF_MEMORY") text)
  pub no_failure : ¬ (HasWord (codes "INVALID_OBJECT") text)
