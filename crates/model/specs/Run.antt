-- What calls do when each is done at once, one at a time (blocking mode: GrB_BLOCKING).
use Rattle.std.specs.Prelude.{ℕ, ◌+◌, ◌-◌, Bool, if◌then◌else◌, is_some, List, [], ◌∷◌, ◌++◌, length, Option, Some}
use Rattle.std.specs.Prelude.{None, decimal}
use Rattle.std.specs.List.{flat_map}
use Rattle.std.specs.Option.{option_and_then, option_map_or, unwrap_or}
use Rattle.std.specs.Result.{result_ok}
use Rattle.std.specs.Str.{bytes_eq}
use Rattle.algebra.specs.Value.{word_of}
use Rattle.algebra.specs.declared.domain.Domain.{Domain}
use Rattle.algebra.specs.declared.domain.Domain.TheVariants as domains
use Rattle.model.specs.declared.call.Act.{Act}
use Rattle.model.specs.declared.call.Act.TheVariants.{Free, Clear, Resize, Build, Set, Remove, Get, Nvals, Print}
use Rattle.model.specs.declared.call.Act.TheVariants.{Reduce}
use Rattle.model.specs.declared.call.Call.{Call}
use Rattle.model.specs.declared.call.Call.TheVariants.{Create, Dup, On, Operate}
use Rattle.model.specs.declared.shape.Shape.{Shape}
use Rattle.model.specs.declared.shape.Shape.TheVariants.{One}
use Rattle.model.specs.declared.status.Status.{Status}
use Rattle.model.specs.declared.status.Status.TheVariants as status
use Rattle.model.specs.Builds.{built}
use Rattle.model.specs.Entries.{entries_of}
use Rattle.model.specs.Fault.{fault_of}
use Rattle.model.specs.Grammar.{Name, Reading, Silent, Malformed, Called, Loads}
use Rattle.model.specs.Loads.{Sources, load_fault, readings_in}
use Rattle.model.specs.MatrixMarket.{File, object_read}
use Rattle.model.specs.Object.{Content, Object, col_of, cols_of, empty_object, no_content, row_of, rows_of}
use Rattle.model.specs.Object.{with_entry, without_entry}
use Rattle.model.specs.Reductions.{sum_in}
use Rattle.model.specs.Regions.{cut_to}
use Rattle.model.specs.Renamed.{renamed, renamed_operation, renamed_out}
use Rattle.model.specs.Text.{Answer, answer_text, canonical_lines, value_text}
use Rattle.model.specs.WriteBack.{result_of}

-- ---- environments

-- the objects by their names, of whatever kind these are, and how many they are
pub record Environment (K : Type 0) : Type 0 where
  pub find_object : K → Option Object
  pub count : ℕ

abbrev pub no_objects : {K : Type 0} → Environment K
no_objects = record { find_object = λ name. None; count = 0 }

-- what stands for an object that isn't there, at which no accepted call looks
abbrev pub no_object : Object
no_object = empty_object domains.Bool (One 0)

abbrev pub object_at : {K : Type 0} → Environment K → K → Object
object_at env name = unwrap_or (env.find_object name) no_object

-- a call on what its names stand for; a new name stands for whether it is taken
abbrev pub seen : {K : Type 0} → Environment K → Call K K → Call (Option Object) Bool
seen env call = renamed env.find_object (λ name. is_some (env.find_object name)) call

-- a call on the objects that its names stand for
abbrev pub on_objects : {K N : Type 0} → Environment K → Call K N → Call Object N
on_objects env call = renamed (object_at env) (λ name. name) call

-- one name stands for an object, and the others for what they stood for
abbrev pub with_object : {K : Type 0} → (K → K → Bool) → Environment K → K → Object → ℕ → Environment K
with_object same env name o count = record {
  find_object = λ other. if same name other then Some o else env.find_object other;
  count = count;
}

-- a name stands for nothing, and there is one object less
abbrev pub without_object : {K : Type 0} → (K → K → Bool) → Environment K → K → Environment K
without_object same env name = record {
  find_object = λ other. if same name other then None else env.find_object other;
  count = env.count - 1;
}

-- the object of a name has another map
abbrev pub with_content : {K : Type 0} → (K → K → Bool) → Environment K → K → Content → Environment K
with_content same env name c = with_object same env name (record (object_at env name) { content = c }) env.count

-- an object in another shape, with the entries that fit it
abbrev pub resized : Object → Shape → Object
resized o shape = record o { shape = shape; content = cut_to (rows_of shape) (cols_of shape) o.content }

-- what an accepted act makes of its object, where it changes it
abbrev pub changed_by : Act → Object → Option Object
changed_by Clear o = Some (record o { content = no_content })
changed_by (Resize shape) o = Some (resized o shape)
changed_by (Build dup tuples) o = Some (record o { content = built dup o.domain tuples })
changed_by (Set place value) o =
    Some (record o { content = with_entry o.content (row_of place) (col_of place) (word_of o.domain value) })
changed_by (Remove place) o = Some (record o { content = without_entry o.content (row_of place) (col_of place) })
changed_by _ o = None

-- what an accepted call leaves: one more object, one less, or one that is changed; `same` tells whether two names are
-- the same
unfoldable pub effect : {K : Type 0} → (K → K → Bool) → Environment K → Call K K → Environment K
effect same env (Create name domain shape) = with_object same env name (empty_object domain shape) (env.count + 1)
effect same env (Dup name object) = with_object same env name (object_at env object) (env.count + 1)
effect same env (On name Free) = without_object same env name
effect same env (On name act) =
    option_map_or (λ o. with_object same env name o env.count) (changed_by act (object_at env name)) env
effect same env (Operate out operation) = with_content same env out.c
    (result_of (renamed_out (object_at env) out) (renamed_operation (object_at env) operation))

-- what an accepted load leaves: one more object, of what is read of the file
unfoldable pub loaded : {K : Type 0} → (K → K → Bool) → Environment K → K → Domain → File → Environment K
loaded same env name domain file = option_map_or
    (λ m. with_object same env name (object_read domain m) (env.count + 1))
    (option_and_then result_ok file) env

-- ---- answers

-- the data lines of an accepted act
abbrev pub lines_of : Act → Object → List (List ℕ)
lines_of (Get place) o =
    option_map_or (λ word. value_text o.domain word ∷ []) (o.content (row_of place) (col_of place)) []
lines_of Nvals o = decimal (length (entries_of (rows_of o.shape) (cols_of o.shape) o.content)) ∷ []
lines_of Print o = canonical_lines o
lines_of (Reduce monoid) o = value_text monoid.domain (sum_in monoid o) ∷ []
lines_of _ o = []

-- ..of a call
unfoldable pub data_lines_of : {N : Type 0} → Call Object N → List (List ℕ)
data_lines_of (On o act) = lines_of act o
data_lines_of _ = []

-- the answer to what a line asks for and what it leaves: with a fault that, and all as it was; else data lines, and
-- what is left then
abbrev pub answered : ℕ → Environment Name → Option Status → List (List ℕ) → Environment Name
    → Answer × Environment Name
answered number env fault lines left = option_map_or
    (λ fault. (record { number = number; status = fault; data_lines = [] }, env)) fault
    (record { number = number; status = status.Ok; data_lines = lines }, left)

-- ..of a call
unfoldable pub step : ℕ → Environment Name → Call Name Name → Answer × Environment Name
step number env call = answered number env (fault_of env.count (seen env call))
    (data_lines_of (on_objects env call)) (effect bytes_eq env call)

-- ..of a load
unfoldable pub load : ℕ → Environment Name → Name → Domain → File → Answer × Environment Name
load number env name domain file = answered number env
    (load_fault env.count (is_some (env.find_object name)) file) [] (loaded bytes_eq env name domain file)

-- the answers to one line, of which there is at most one, and what it leaves
unfoldable pub turn : ℕ → Environment Name → Reading File → List Answer × Environment Name
turn number env Silent = ([], env)
turn number env Malformed = (record { number = number; status = status.Syntax; data_lines = [] } ∷ [], env)
turn number env (Called call) = ((step number env call).0 ∷ [], (step number env call).1)
turn number env (Loads name domain file) =
    ((load number env name domain file).0 ∷ [], (load number env name domain file).1)

-- the answers to lines that are numbered from a number on
unfoldable pub answers_from : ℕ → Environment Name → List (Reading File) → List Answer
answers_from number env [] = []
answers_from number env (reading ∷ readings) =
    let now = turn number env reading in now.0 ++ answers_from (number + 1) now.1 readings

-- what lines write, that are numbered from 1
unfoldable pub out_of_readings : List (Reading File) → List ℕ
out_of_readings readings = flat_map answer_text (answers_from 1 no_objects readings)

-- what a script writes, with these files
unfoldable pub out_of : Sources → List ℕ → List ℕ
out_of sources script = out_of_readings (readings_in sources script)
