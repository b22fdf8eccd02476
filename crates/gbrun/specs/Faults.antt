-- The exit status of each fault, and the line that standard error gets.
use Rattle.std.specs.Prelude.{⊤, ℕ, List, codes, string_bytes}
use Rattle.gbrun.specs.declared.fault.Fault.{Fault}
use Rattle.gbrun.specs.declared.fault.Fault.TheVariants.{CommandLine, BadOrder, UnreadableScript, OutOfMemory}
use Rattle.gbrun.specs.declared.fault.Fault.TheVariants.{OutOfMemoryUndelivered, UnwritableOutput}

abbrev pub status_of : Fault → ℕ
status_of (CommandLine _) = 2
status_of BadOrder = 2
status_of UnreadableScript = 1
status_of OutOfMemory = 1
status_of OutOfMemoryUndelivered = 1
status_of UnwritableOutput = 1

-- what standard error gets
abbrev pub line_of : Fault → List ℕ
line_of (CommandLine text) = string_bytes text
line_of BadOrder = codes "gbrun: bad order\n"
line_of UnreadableScript = codes "gbrun: cannot read script\n"
line_of OutOfMemory = codes "gbrun: out of memory\n"
line_of OutOfMemoryUndelivered = codes "gbrun: out of memory\n"
line_of UnwritableOutput = codes "gbrun: cannot write output\n"

-- the words of the command line are at fault
abbrev pub IsCommandLine : Fault → Type 0
IsCommandLine (CommandLine _) = ⊤
IsCommandLine _ = ⊥
