-- How the program ends, from what its parts give.
use Rattle.std.proofs.Common.{◌≡◌, ◌∙◌, ◌⊎◌, ℕ, List, Option, Some, None, refl, ap, subst, sym, inl, inr, All, Any, IsUtf8, Result, true, is_some, ◌<◌, length, map}
use Rattle.std.specs.Prelude.{IfSome, Ok, Err}
use Rattle.std.specs.Option.{option_map, option_map_or}
use Rattle.std.proofs.lemmas.List.{get_or-map, length-map}
use Rattle.std.proofs.KnownBytes.{Keeps-refl}
use Rattle.clap.specs.Words.{Text}
use Rattle.model.specs.Loads.{Sources}
use Rattle.model.specs.declared.memory.NoMemory.{NoMemory}
use Rattle.gbrun.specs.CommandLine.{ChoosesOf, ComesOf, order_in}
use Rattle.gbrun.specs.Faults.{IsCommandLine}
use Rattle.gbrun.specs.Outcomes.{Admits, AsksRun, AsksText, Ends, Finishes, Given, RunEnds, TextEnds, given_in, script_in}
use Rattle.gbrun.specs.Known.{AreFiles, HasReadable, IsKnown}
use Rattle.gbrun.specs.Runs.{IsMade, Made}
use Rattle.gbrun.specs.declared.options.Options.{Options}
use Rattle.gbrun.specs.declared.options.Request.TheVariants.{Run}
use Rattle.gbrun.specs.declared.fault.Fault.{Fault}
use Rattle.gbrun.specs.declared.fault.Fault.TheVariants.{CommandLine, BadOrder, UnreadableScript, OutOfMemory, OutOfMemoryUndelivered, UnwritableOutput}

-- a fault of the command line
abbrev IsWordsFault : Fault → Type 0
IsWordsFault (CommandLine text) = Unit {0}
IsWordsFault BadOrder = Unit {0}
IsWordsFault _ = ⊥

never_finishes : (ended : Result (Unit {0}) NoMemory) (answers : List ℕ) (old new : Option (List ℕ)) (fault : Fault)
    → IsWordsFault fault → Finishes ended answers old new (Err fault) → ⊥
never_finishes (Ok done) answers old new (CommandLine text) is ends = ends
never_finishes (Ok done) answers old new BadOrder is ends = ends
never_finishes (Ok done) answers old new UnreadableScript is ends = is
never_finishes (Ok done) answers old new OutOfMemory is ends = is
never_finishes (Ok done) answers old new OutOfMemoryUndelivered is ends = is
never_finishes (Ok done) answers old new UnwritableOutput is ends = is
never_finishes (Err refused) answers old new (CommandLine text) is ends = ends
never_finishes (Err refused) answers old new BadOrder is ends = ends
never_finishes (Err refused) answers old new UnreadableScript is ends = is
never_finishes (Err refused) answers old new OutOfMemory is ends = is
never_finishes (Err refused) answers old new OutOfMemoryUndelivered is ends = is
never_finishes (Err refused) answers old new UnwritableOutput is ends = is

map_or-map : {A B C : Type 0} (f : B → C) (g : A → B) (o : Option A) (d : C)
    → option_map_or (λ a. f (g a)) o d ≡ option_map_or f (option_map g o) d
map_or-map f g None d = refl
map_or-map f g (Some a) d = refl

pub Any-map : {X Y : Type 0} (P : Y → Type 0) (f : X → Y) (xs : List X) → Any (λ x. P (f x)) xs → Any P (map f xs)
Any-map P f xs found =
    let inside : found.0 < length (map f xs) = rw length-map found.2 in
    (found.0, f found.1, inside, get_or-map f xs found.0 found.1 (f found.1) found.2 ∙ ap f found.3, found.4)

-- words of which some isn't text
pub no_text_ends : (admits : Admits) (words : List Text) (given : Given) (made : Option Made) (old : Option (List ℕ))
    (fault : Fault) → made ≡ None
    → (fault ≡ OutOfMemory) ⊎ (IsCommandLine fault × Any (λ word. ¬ (IsUtf8 word)) words)
    → Ends admits words given made old old (Err fault)
no_text_ends admits words given made old (CommandLine text) none (inl gone) = cc
no_text_ends admits words given made old (CommandLine text) none (inr wrong) = (inl wrong.1, (none, Keeps-refl old))
no_text_ends admits words given made old BadOrder none (inl gone) = cc
no_text_ends admits words given made old BadOrder none (inr wrong) = absurd wrong.0
no_text_ends admits words given made old UnreadableScript none (inl gone) = cc
no_text_ends admits words given made old UnreadableScript none (inr wrong) = absurd wrong.0
no_text_ends admits words given made old OutOfMemory none either = inl (none, Keeps-refl old)
no_text_ends admits words given made old OutOfMemoryUndelivered none (inl gone) = cc
no_text_ends admits words given made old OutOfMemoryUndelivered none (inr wrong) = absurd wrong.0
no_text_ends admits words given made old UnwritableOutput none (inl gone) = cc
no_text_ends admits words given made old UnwritableOutput none (inr wrong) = absurd wrong.0

-- words that are refused
pub refused_ends : (admits : Admits) (words : List Text) (given : Given) (made : Option Made) (old : Option (List ℕ))
    (fault : Fault) → made ≡ None
    → All IsUtf8 words → ComesOf words (Err fault) → Ends admits words given made old old (Err fault)
refused_ends admits words given made old (CommandLine text) none utf8 comes = (inr (utf8, comes), (none, Keeps-refl old))
refused_ends admits words given made old BadOrder none utf8 comes = ((utf8, comes.0, comes.1), (none, Keeps-refl old))
refused_ends admits words given made old UnreadableScript none utf8 comes = absurd comes
refused_ends admits words given made old OutOfMemory none utf8 comes = inl (none, Keeps-refl old)
refused_ends admits words given made old OutOfMemoryUndelivered none utf8 comes = absurd comes
refused_ends admits words given made old UnwritableOutput none utf8 comes = absurd comes

-- words that ask for a text
pub text_ends : (admits : Admits) (words : List Text) (given : Given) (made : Option Made) (old new : Option (List ℕ))
    (end : Result (Unit {0}) Fault) → made ≡ None
    → AsksText words → TextEnds old new end → Ends admits words given made old new end
text_ends admits words given made old new (Ok done) none asks ends = inl (asks, none, ends)
text_ends admits words given made old new (Err (CommandLine text)) none asks ends = absurd ends
text_ends admits words given made old new (Err BadOrder) none asks ends = absurd ends
text_ends admits words given made old new (Err UnreadableScript) none asks ends = absurd ends
text_ends admits words given made old new (Err OutOfMemory) none asks ends = absurd ends
text_ends admits words given made old new (Err OutOfMemoryUndelivered) none asks ends = absurd ends
text_ends admits words given made old new (Err UnwritableOutput) none asks ends = inl (asks, none, ends)

-- a run doesn't end by a fault of the command line
no_words_fault : (admits : Admits) (chosen : Options → Type 0) (given : Given) (made : Option Made)
    (old new : Option (List ℕ)) (fault : Fault)
    → IsWordsFault fault → RunEnds admits chosen given made old new (Err fault) → ⊥
no_words_fault admits chosen given None old new (CommandLine text) is ends = ends
no_words_fault admits chosen given None old new BadOrder is ends = ends
no_words_fault admits chosen given None old new UnreadableScript is ends = is
no_words_fault admits chosen given None old new OutOfMemory is ends = is
no_words_fault admits chosen given None old new OutOfMemoryUndelivered is ends = is
no_words_fault admits chosen given None old new UnwritableOutput is ends = is
no_words_fault admits chosen given (Some run) old new fault is ends = never_finishes run.ended run.appended old new fault is ends.1

run_of_script_ends : (admits : Admits) (words : List Text) (given : Given) (made : Option Made)
    (old new : Option (List ℕ)) (end : Result (Unit {0}) Fault)
    → AsksRun words → RunEnds admits (ChoosesOf words) given made old new end → Ends admits words given made old new end
run_of_script_ends admits words given made old new (Ok done) asks ends = inr (asks, ends)
run_of_script_ends admits words given made old new (Err (CommandLine text)) asks ends = absurd (no_words_fault admits (ChoosesOf words) given made old new (CommandLine text) tt ends)
run_of_script_ends admits words given made old new (Err BadOrder) asks ends = absurd (no_words_fault admits (ChoosesOf words) given made old new BadOrder tt ends)
run_of_script_ends admits words given made old new (Err UnreadableScript) asks ends = inr (asks, ends)
run_of_script_ends admits words given made old new (Err OutOfMemory) asks ends = inr (asks, ends)
run_of_script_ends admits words given made old new (Err OutOfMemoryUndelivered) asks ends = inr (asks, ends)
run_of_script_ends admits words given made old new (Err UnwritableOutput) asks ends = inr (asks, ends)

-- a run with options that the words choose
choice_ends : (admits : Admits) (words : List Text) (options : Options) (given : Given) (made : Option Made)
    (old new : Option (List ℕ)) (end : Result (Unit {0}) Fault)
    → ChoosesOf words options → RunEnds admits (λ chosen. chosen ≡ options) given made old new end
    → RunEnds admits (ChoosesOf words) given made old new end
choice_ends admits words options given None old new (Ok done) is ends = ends
choice_ends admits words options given None old new (Err (CommandLine text)) is ends = ends
choice_ends admits words options given None old new (Err BadOrder) is ends = ends
choice_ends admits words options given None old new (Err UnreadableScript) is ends = ends
choice_ends admits words options given None old new (Err OutOfMemory) is ends = ends
choice_ends admits words options given None old new (Err OutOfMemoryUndelivered) is ends = ends
choice_ends admits words options given None old new (Err UnwritableOutput) is ends = ends
choice_ends admits words options given (Some run) old new end is ends =
    let made = ends.0 in (
      record {
        script = made.script;
        sources = made.sources;
        options = made.options;
        is_script = made.is_script;
        are_files = made.are_files;
        has_readable = made.has_readable;
        are_options = subst (ChoosesOf words) (sym made.are_options) is;
        is_run = made.is_run;
      },
      ends.1,
    )

-- words that ask for a run: it is of the script that they name
pub run_ends : (admits : Admits) (words : List Text) (options : Options) (content : List ℕ → Option (List ℕ))
    (readable : List ℕ → Type 0) (input : Option (List ℕ)) (made : Option Made) (old new : Option (List ℕ))
    (end : Result (Unit {0}) Fault)
    → All IsUtf8 words → ComesOf words (Ok (Run options)) → (let given : Given = record { content = content; readable = readable; script = option_map_or (λ name. content name.now) options.script input } in RunEnds admits (λ chosen. chosen ≡ options) given made old new end)
    → Ends admits words (given_in content readable input words) made old new end
run_ends admits words options content readable input made old new end utf8 comes ends =
    let is : option_map_or (λ name. content name.now) options.script input ≡ script_in content input words =
    map_or-map content (λ name. name.now) options.script input ∙ ap (λ name. option_map_or content name input) comes.1.script in
    let ordered : is_some (order_in words) ≡ true = ap is_some (sym comes.1.order) in
    let of_words = subst (λ (script : Option (List ℕ)). let given : Given = record { content = content; readable = readable; script = script } in RunEnds admits (λ chosen. chosen ≡ options) given made old new end) is ends in
    run_of_script_ends admits words (given_in content readable input words) made old new end (utf8, comes.0, ordered)
    (choice_ends admits words options (given_in content readable input words) made old new end comes.1 of_words)

-- a run whose answers were finished with
pub finished_ends : (admits : Admits) (options : Options) (given : Given) (bytes answers : List ℕ) (sources : Sources)
    (ended : Result (Unit {0}) NoMemory) (made : Option Made) (old new : Option (List ℕ))
    (result : Result (Unit {0}) Fault)
    → IsKnown given.script bytes → AreFiles given.content sources → HasReadable given.readable bytes sources
    → IsMade (admits sources bytes options) ended made → IfSome made (λ run. answers ≡ run.appended)
    → Finishes ended answers old new result → RunEnds admits (λ chosen. chosen ≡ options) given made old new result
finished_ends admits options given bytes answers sources ended None old new result is are has run same finished = absurd run
finished_ends admits options given bytes answers sources ended (Some made) old new result is are has run same finished =
    (record { script = bytes; sources = sources; options = options; is_script = is; are_files = are; has_readable = has; are_options = refl; is_run = run.1 }, rw (run.0, ← same) finished)

-- memory ran out before the run
pub unread_files_end : (admits : Admits) (chosen : Options → Type 0) (given : Given) (made : Option Made)
    (old : Option (List ℕ)) (result : Result (Unit {0}) Fault) → made ≡ None → result ≡ Err OutOfMemory
    → RunEnds admits chosen given made old old result
unread_files_end admits chosen given made old result none ended = rw (none, ended) (Keeps-refl old)
