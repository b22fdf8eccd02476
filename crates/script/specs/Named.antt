-- The objects of a run by their names.
use Rattle.std.specs.Prelude.{ℕ, Bool, true, false, List, [], ◌∷◌, decimal, Option}
use Rattle.std.specs.HashMap.{get_by_text}
use Rattle.std.specs.Fmt.{signed_decimal}
use Rattle.std.specs.Option.{option_and_then, option_map_or}
use Rattle.calls.specs.declared.obj.Obj.{Obj}
use Rattle.model.specs.declared.call.Act.{Act}
use Rattle.model.specs.declared.call.Act.TheVariants.{Free, Print}
use Rattle.model.specs.declared.call.Call.{Call}
use Rattle.model.specs.declared.call.Call.TheVariants.{Create, Dup, On, Operate}
use Rattle.model.specs.Grammar.{Name}
use Rattle.model.specs.Marks.{State, Unmarked}
use Rattle.model.specs.Run.{Environment}
use Rattle.runner.specs.declared.runner.Runner.{Ghosts}
use Rattle.session.specs.declared.reply.Reply.{Reply}
use Rattle.session.specs.declared.reply.Reply.TheVariants as reply
use Rattle.session.specs.Performed.{state_of}
use Rattle.script.specs.declared.environment.Environment.{Environment as Objects}

-- the number of a name
abbrev pub number_in : {R T : Type 0} {g : Ghosts R T} → Objects R T g → Name → Option Obj
number_in names name = get_by_text names.numbers name

-- the objects by their names, of numbers and the objects by these
abbrev pub through : (Name → Option Obj) → Environment Obj → Environment Name
through number env = record { find_object = λ name. option_and_then env.find_object (number name); count = env.count }

-- ..with their marks
abbrev pub state_through : (Name → Option Obj) → State Obj → State Name
state_through number s = record {
  environment = through number s.environment;
  marks = λ name. option_map_or s.marks (number name) Unmarked;
}

abbrev pub state_in : {R T : Type 0} {g : Ghosts R T} → Objects R T g → State Name
state_in names = state_through (number_in names) (state_of names.session)

abbrev pub environment_in : {R T : Type 0} {g : Ghosts R T} → Objects R T g → Environment Name
environment_in names = (state_in names).environment

-- the call gives a name to a new object, or takes one away
abbrev pub is_free : Act → Bool
is_free Free = true
is_free _ = false

abbrev pub changes_names : {K N : Type 0} → Call K N → Bool
changes_names (Create name domain shape) = true
changes_names (Dup name object) = true
changes_names (On object act) = is_free act
changes_names (Operate out operation) = false

-- the call asks for the text of an object
abbrev pub is_print : Act → Bool
is_print Print = true
is_print _ = false

abbrev pub asks_text : {K N : Type 0} → Call K N → Bool
asks_text (On object act) = is_print act
asks_text _ = false

-- the data lines of a reply
abbrev pub reply_lines : Reply → List (List ℕ)
reply_lines reply.Done = []
reply_lines (reply.Made object) = []
reply_lines (reply.Value value) = signed_decimal value ∷ []
reply_lines (reply.Count number) = decimal number ∷ []

-- the reply has data lines, for which there may be no memory
abbrev pub HasLines : Reply → Type 0
HasLines reply.Done = ⊥
HasLines (reply.Made object) = ⊥
HasLines _ = Unit {0}
