-- The command line of gbrun, in clap's words: its options and what each takes.
use Rattle.std.specs.Prelude.{◌≡◌, ◌≢◌, ⊤, ◌⊎◌, ℕ, ◌-◌, ◌^◌, List, [], ◌∷◌, codes, Option, Some, None, option_map}
use Rattle.std.specs.Prelude.{option_and_then, true, Result, Ok, Err}
use Rattle.std.specs.Str.Parse.{digits_value, without_leading_plus}
use Rattle.clap.specs.Kinds.{IsAmong, Kinds}
use Rattle.clap.specs.Words.{App, IsUnsignedIn, Rule, Text, fault_of, first_of, matches_of, new_app, new_rule, one_of}
use Rattle.clap.specs.Words.{with_rule}
use Rattle.clap.specs.declared.builder.value_parser.ValueParser.TheVariants.{Unsigned}
use Rattle.clap.specs.declared.error.kind.ErrorKind.TheVariants.{DisplayHelp, DisplayVersion}
use Rattle.clap.specs.declared.error.kind.ErrorKind.TheVariants.{OutOfMemory as NoMemoryLeft}
use Rattle.clap.specs.declared.error.kind.ErrorKind.{ErrorKind}
use Rattle.gbrun.specs.Orders.{order_of}
use Rattle.desk.specs.declared.picker.Order.{Order}
use Rattle.gbrun.specs.declared.options.Options.{Options}
use Rattle.gbrun.specs.declared.options.Request.{Request}
use Rattle.gbrun.specs.declared.options.Request.TheVariants.{Print, Run}
use Rattle.gbrun.specs.declared.fault.Fault.{Fault}
use Rattle.gbrun.specs.declared.fault.Fault.TheVariants.{CommandLine, BadOrder, OutOfMemory}

-- an option `--name` that takes one value, and has a value where it is left out
abbrev pub option_named : Text → Text → Rule
option_named name default = record (new_rule name) {
  long = Some name;
  value_names = 1;
  defaults = default ∷ [];
}

abbrev pub workers_rule : Rule
workers_rule = record (option_named (codes "workers") (codes "4")) { parser = Some (Unsigned 0 64) }

abbrev pub rows_rule : Rule
rows_rule = record (option_named (codes "rows") (codes "256")) { parser = Some (Unsigned 1 4294967296) }

abbrev pub order_rule : Rule
order_rule = option_named (codes "order") (codes "first")

abbrev pub script_rule : Rule
script_rule = record (new_rule (codes "script")) { value_names = 1 }

abbrev pub without_program_name : App → App
without_program_name app = record app { top = record app.top { no_binary_name = true } }

-- `--version` asks for the version
abbrev pub with_version : App → App
with_version app = record app { top = record app.top { has_version = true } }

unfoldable pub command_line : App
command_line =
    let program = without_program_name (with_version (new_app (codes "gbrun"))) in
    with_rule (with_rule (with_rule (with_rule program workers_rule) rows_rule) order_rule) script_rule

-- the text that an argument of the command line has
abbrev pub text_of : Text → List Text → Option Text
text_of id words = first_of id (matches_of command_line words)

-- the order that the words name
abbrev pub order_in : List Text → Option Order
order_in words = option_and_then order_of (text_of (codes "order") words)

-- the text that an argument of the command line is read from as a number
abbrev pub number_text_of : Text → List Text → Option Text
number_text_of id words = one_of id (matches_of command_line words)

-- n is the number below 2 ^ 64 that the word writes, perhaps after `+`, if it writes one; where there is no word, n is
-- a given number
abbrev pub IsNumberOf : Option Text → ℕ → ℕ → Type 0
IsNumberOf None given n = n ≡ given
IsNumberOf (Some word) given n = IsUnsignedIn 0 (2 ^ 64 - 1) word → n ≡ digits_value 10 (without_leading_plus word)

-- these are the options of one text for each: for the workers, the rows, the order and the script
pub record Chooses (workers_text rows_text order_text script_text : Option Text) (options : Options) : Type 0 where
  pub workers : IsNumberOf workers_text 4 options.workers
  pub rows : IsNumberOf rows_text 256 options.rows
  pub order : Some options.order ≡ option_and_then order_of order_text
  pub script : option_map (λ name. name.now) options.script ≡ script_text

-- these are the options that the words choose
abbrev pub ChoosesOf : List Text → Options → Type 0
ChoosesOf words = Chooses (number_text_of (codes "workers") words) (number_text_of (codes "rows") words)
    (text_of (codes "order") words) (text_of (codes "script") words)

-- the wish for the help or the version
abbrev pub IsWish : ErrorKind → Type 0
IsWish kind = (kind ≡ DisplayHelp) ⊎ (kind ≡ DisplayVersion)

-- some of the kinds is such a wish
abbrev pub IsRequest : Kinds → Type 0
IsRequest kinds = (kind : ErrorKind) × IsAmong kind kinds × IsWish kind

-- some of the kinds is none
abbrev pub IsMistake : Kinds → Type 0
IsMistake kinds = (kind : ErrorKind) × IsAmong kind kinds × ¬ (IsWish kind)

-- what may come of an error of clap
abbrev pub LeadsTo : ErrorKind → Result Request Fault → Type 0
LeadsTo kind (Ok (Print text)) = IsWish kind
LeadsTo kind (Ok (Run options)) = ⊥
LeadsTo kind (Err (CommandLine text)) = ¬ (IsWish kind) × (kind ≢ NoMemoryLeft)
LeadsTo kind (Err OutOfMemory) = ⊤
LeadsTo kind (Err _) = ⊥

-- what may come of the words; memory may run out at any
abbrev pub ComesOf : List Text → Result Request Fault → Type 0
ComesOf words (Ok (Print text)) = IsRequest (fault_of command_line words)
ComesOf words (Ok (Run options)) = (fault_of command_line words ≡ []) × ChoosesOf words options
ComesOf words (Err (CommandLine text)) = IsMistake (fault_of command_line words)
ComesOf words (Err BadOrder) = (fault_of command_line words ≡ []) × (order_in words ≡ None)
ComesOf words (Err OutOfMemory) = ⊤
ComesOf words (Err _) = ⊥
