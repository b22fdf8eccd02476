-- The lines of a text that say something, and the entries that they list one after another.
use Rattle.std.specs.Prelude.{ℕ, suc, ◌-◌, ◌≡◌, ◌==◌, if◌then◌else◌, List, [], ◌∷◌, ◌++◌, length, map, Result, Ok, Err}
use Rattle.std.specs.Prelude.{None}
use Rattle.std.specs.List.{All}
use Rattle.std.specs.Result.{result_err, result_map_both}
use Rattle.algebra.specs.declared.domain.Domain.{Domain}
use Rattle.model.specs.declared.entry.Entry.{Entry}
use Rattle.model.specs.declared.market.Heading.{Heading}
use Rattle.model.specs.declared.market.Misread.{Misread}
use Rattle.model.specs.declared.market.Mistake.{Mistake}
use Rattle.model.specs.declared.market.Mistake.TheVariants as mistake
use Rattle.model.specs.declared.market.MmFault.{MmFault}
use Rattle.model.specs.Grammar.{lines_of, words_of}
use Rattle.model.specs.MatrixMarket.{Line, Matrix, ToldLine, entries_said, entry_said, fault_at, misread, told_lines}
use Rattle.model.specs.MatrixMarket.{with_mirror}
use Rattle.mmio.specs.declared.listing.Stop.{Stop}
use Rattle.mmio.specs.declared.listing.Stop.TheVariants as stop

-- the lines of a text that say something
unfoldable pub told_in : List ℕ → List ToldLine
told_in text = told_lines (map words_of (lines_of text))

-- what a line says, with its place where it is wrong
abbrev pub placed : ToldLine → Result Entry Mistake → Result Entry Misread
placed line said = result_map_both (λ e. e) (λ wrong. misread wrong line) said

-- what goes on with an entry
abbrev pub with_entry : Result Entry Misread → (Entry → Result (List Entry) Misread) → Result (List Entry) Misread
with_entry (Ok e) go_on = go_on e
with_entry (Err f) go_on = Err f

-- so many entries that lines say, behind others, or the first thing that is wrong
unfoldable pub listed_from : Domain → Heading → ℕ → List Entry → List ToldLine → Result (List Entry) Misread
listed_from domain h left listed [] =
    if left == 0 then Ok listed else Err (record { left = 0; mistake = mistake.TooFew })
listed_from domain h left listed (line ∷ lines) =
    if left == 0 then Err (misread mistake.TooMany line)
    else with_entry (placed line (entry_said domain h line.words))
    (λ e. listed_from domain h (left - 1) (listed ++ with_mirror h.symmetry e) lines)

-- the entries of a heading that a text lists
abbrev pub entries_listed : Domain → Heading → List ℕ → Result (List Entry) Misread
entries_listed domain h text = listed_from domain h h.entries [] (told_in text)

-- ..as a matrix
abbrev pub matrix_of : Heading → Result (List Entry) Misread → Result Matrix Misread
matrix_of h (Ok entries) = Ok (record { rows = h.rows; cols = h.cols; entries = entries })
matrix_of h (Err f) = Err f

-- a mistake of a text by its line
abbrev pub fault_in : List ℕ → Misread → MmFault
fault_in text wrong = fault_at (length (lines_of text)) wrong

abbrev pub located : {X : Type 0} → List ℕ → Result X Misread → Result X MmFault
located text found = result_map_both (λ x. x) (fault_in text) found

-- ---- parts of a text

-- a line says an entry
abbrev pub SaysEntry : Domain → Heading → Line → Type 0
SaysEntry domain h line = result_err (entry_said domain h line) ≡ None

-- the lines of a text that say something, each as its words
abbrev pub words_told : List ℕ → List Line
words_told text = map (λ line. line.words) (told_in text)

-- each line of a text that says something says an entry; these are the entries, of so many lines
pub record Lists (domain : Domain) (h : Heading) (text : List ℕ) (entries : List Entry) (lines : ℕ) : Type 0 where
  pub each : All (SaysEntry domain h) (words_told text)
  pub listed : entries ≡ entries_said domain h (words_told text)
  pub count : lines ≡ length (words_told text)

-- why what a text lists isn't known to its end: for want of memory, or since a line is wrong
abbrev pub IsStop : Result (List Entry) Misread → Stop → Type 0
IsStop listed stop.NoMemory = Unit {0}
IsStop listed (stop.At m behind) = listed ≡ Err (record { left = suc (length (lines_of behind.now)); mistake = m })
