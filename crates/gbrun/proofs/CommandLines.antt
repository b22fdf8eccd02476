-- What a parse of the command line gives.
use Rattle.std.proofs.Common.{ap, sym, ◌⊎◌, inl, inr, refl, subst, ◌≡◌, ◌∙◌, List, true}
use Rattle.std.specs.Prelude.{Result, Ok, Err}
use Rattle.clap.specs.Words.{App, Text, app_of, FailsBy, HasMatchesOf, fault_of, first_of, first_value, found_of, is_simple, is_simple_and_free, matches_of, one_of, one_text}
use Rattle.clap.specs.declared.builder.command.Command.{Command}
use Rattle.clap.specs.declared.error.Error.{Error}
use Rattle.clap.specs.declared.parser.matches.ArgMatches.{ArgMatches}
use Rattle.clap.proofs.WalkLemmas.{first_value-rows, one_text-rows}
use Rattle.clap.specs.Kinds.{IsAmong}
use Rattle.clap.specs.declared.error.kind.ErrorKind.{ErrorKind}
use Rattle.clap.specs.declared.error.kind.ErrorKind.TheVariants as kind
use Rattle.gbrun.specs.CommandLine.{command_line, number_text_of, text_of, ComesOf, LeadsTo}
use Rattle.gbrun.specs.declared.options.Request.{Request}
use Rattle.gbrun.specs.declared.options.Request.TheVariants.{Print, Run}
use Rattle.gbrun.specs.declared.fault.Fault.{Fault}
use Rattle.gbrun.specs.declared.fault.Fault.TheVariants.{CommandLine, BadOrder, UnreadableScript, OutOfMemory, OutOfMemoryUndelivered, UnwritableOutput}

simple : is_simple command_line ≡ true
unfolding command_line
simple = refl

free : is_simple_and_free command_line ≡ true
unfolding command_line
free = refl

pub first_value-command_line : (c : Command) (words : List Text) (m : ArgMatches) (id : Text) → app_of c ≡ command_line
    → HasMatchesOf (app_of c) words m → first_value (found_of m) id ≡ text_of id words
first_value-command_line c words m id is has =
    first_value-rows (found_of m) id
    ∙ ap (first_of id) ((has (ap is_simple is ∙ simple)).0 ∙ ap (λ (a : App). matches_of a words) is)

pub one_text-command_line : (c : Command) (words : List Text) (m : ArgMatches) (id : Text) → app_of c ≡ command_line
    → HasMatchesOf (app_of c) words m → one_text (found_of m) id ≡ number_text_of id words
one_text-command_line c words m id is has =
    one_text-rows (found_of m) id
    ∙ ap (one_of id) ((has (ap is_simple is ∙ simple)).0 ∙ ap (λ (a : App). matches_of a words) is)

pub fails_by_command_line : {T : Type 0} (c : Command) (words : List Text) (r : Result T Error)
    → app_of c ≡ command_line
    → (is_simple_and_free (app_of c) ≡ true → FailsBy (fault_of (app_of c) words) r)
    → FailsBy (fault_of command_line words) r
fails_by_command_line c words r is fails =
    subst (λ (a : App). FailsBy (fault_of a words) r) is (fails (ap is_simple_and_free is ∙ free))

-- what clap's error leads to is what may come of the words
pub led_comes : (words : List Text) (k : ErrorKind) (r : Result Request Fault) → LeadsTo k r
    → (k ≡ kind.OutOfMemory) ⊎ IsAmong k (fault_of command_line words) → ComesOf words r
led_comes words k (Ok (Print text)) leads among = elim among [
  | inl gone ↦ elim leads [
    | inl help ↦
        let bad : kind.OutOfMemory ≡ kind.DisplayHelp = sym gone ∙ help in
        cc
    | inr version ↦
        let bad : kind.OutOfMemory ≡ kind.DisplayVersion = sym gone ∙ version in
        cc
  ]
  | inr found ↦ (k, found, leads)
]
led_comes words k (Ok (Run options)) leads among = absurd leads
led_comes words k (Err (CommandLine text)) leads among = elim among [
  | inl gone ↦ absurd (leads.1 gone)
  | inr found ↦ (k, found, leads.0)
]
led_comes words k (Err BadOrder) leads among = absurd leads
led_comes words k (Err UnreadableScript) leads among = absurd leads
led_comes words k (Err OutOfMemory) leads among = tt
led_comes words k (Err OutOfMemoryUndelivered) leads among = absurd leads
led_comes words k (Err UnwritableOutput) leads among = absurd leads
