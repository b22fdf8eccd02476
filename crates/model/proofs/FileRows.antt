-- The worked files, from their bytes to what is read of them, and two scripts that load files, as the definitions
-- compute them.
use Rattle.std.proofs.Common.{◌≡◌, ℕ, List, [], ◌∷◌, ◌++◌, None, Some, Result, Ok, Err, cond, refl, codes, map}
use Rattle.std.specs.Fmt.{digits}
use Rattle.std.specs.Str.{bytes_eq}
use Rattle.algebra.specs.declared.domain.Domain.TheVariants.{Int64}
use Rattle.algebra.specs.Names.{domain_from_name}
use Rattle.model.specs.declared.entry.Entry.{Entry}
use Rattle.model.specs.declared.market.MmFault.{MmFault}
use Rattle.model.specs.declared.market.MmFault.TheVariants.{Malformed}
use Rattle.model.specs.declared.market.Mistake.{Mistake}
use Rattle.model.specs.declared.market.Mistake.TheVariants as mistake
use Rattle.model.specs.Entries.{count_from, entries_of, entry_at}
use Rattle.model.specs.Fault.{early_fault}
use Rattle.model.specs.Grammar.{lines_of, name_of, number_of, domain_of, file_name_of, load_of, call_of, command_of, reading_of, readings_of, said_by}
use Rattle.model.specs.Loads.{Sources, load_fault, readings_in}
use Rattle.model.specs.MatrixMarket.{Matrix, is_banner, field_of, symmetry_of, kind_of, heading_of, entry_said, faults_of, told_lines, matrix_listed, matrix_behind, matrix_in_lines, matrix_in}
use Rattle.model.specs.Run.{effect, data_lines_of, loaded, load, step, turn, answers_from, out_of_readings, out_of}
use Rattle.model.specs.Text.{answer_text, canonical_lines}

-- a file, and what is read of it
record File : Type 0 where
  text : List ℕ
  read : Result Matrix MmFault

faulty : List ℕ → ℕ → Mistake → File
faulty text line mistake = record { text = text; read = Err (Malformed line mistake) }

-- a file of integers, with this behind its first line
general : List ℕ → List ℕ
general rest = codes "%%MatrixMarket matrix coordinate integer general\n" ++ rest

matrix : ℕ → ℕ → List Entry → Result Matrix MmFault
matrix rows cols entries = Ok (record { rows = rows; cols = cols; entries = entries })

lenient_text : List ℕ
lenient_text = codes "%%MatrixMarket MATRIX Coordinate pattern SYMMETRIC\r\n% c\r\n\r\n3 3 2\r\n2 1\r\n% d\r\n3 3"

truncated_text : List ℕ
truncated_text = general (codes "2 2 3\n1 1 4\n2 2 5\n")

hostile : List File
hostile =
    faulty (codes "") 1 mistake.Banner
    ∷ faulty (codes "%%matrixmarket matrix coordinate integer general\n") 1 mistake.Banner
    ∷ faulty (codes "%%MatrixMarket matrix coordinate real general\n") 1 mistake.Unsupported
    ∷ faulty (general (codes "")) 2 mistake.SizeLine
    ∷ faulty (general (codes "4294967297 1 0\n")) 2 mistake.SizeLine
    ∷ faulty (general (codes "2 2 18446744073709551616\n")) 2 mistake.SizeLine
    ∷ faulty (general (codes "2 2 1\n1 1\n")) 3 mistake.Entry
    ∷ faulty (general (codes "2 2 1\n1 -1 4\n")) 3 mistake.Entry
    ∷ faulty (general (codes "2 2 1\n0 1 1\n")) 3 mistake.Index
    ∷ faulty (general (codes "2 2 1\n3 1 x\n")) 3 mistake.Index
    ∷ faulty (general (codes "2 2 1\n99999999999999999999 1 1\n")) 3 mistake.Index
    ∷ faulty (general (codes "2 2 1\n1 1 18446744073709551616\n")) 3 mistake.Value
    ∷ faulty (general (codes "2 2 1\n1 1 -9223372036854775809\n")) 3 mistake.Value
    ∷ faulty (general (codes "2 2 18446744073709551615\n1 1 1\n")) 4 mistake.TooFew
    ∷ faulty (general (codes "2 2 0\n1 1 1\n")) 3 mistake.TooMany
    ∷ faulty (codes "%%MatrixMarket matrix coordinate integer symmetric\n2 3 0\n") 2 mistake.NotSquare
    ∷ faulty truncated_text 5 mistake.TooFew
    ∷ faulty (general (codes "% c\n\n2 2 2\n1 1 4\n \n% d\n1 0 5\n")) 8 mistake.Index
    ∷ faulty (general (codes "% c\n\n2 2 1\n% d\n1 1 4\n\n1 2 5\n1 2 6\n")) 8 mistake.TooMany
    ∷ record {
      text = general (codes "2 2 1\n0000000000000000000000001 2 +7\n");
      read = matrix 2 2 (entry_at 0 1 7 ∷ []);
    }
    ∷ record {
      text = lenient_text;
      read = matrix 3 3 (entry_at 1 0 1 ∷ entry_at 0 1 1 ∷ entry_at 2 2 1 ∷ []);
    }
    ∷ record {
      text = codes "%%MatrixMarket matrix coordinate integer skew-symmetric\n2 2 2\n2 1 18446744073709551615\n1 2 -3\n";
      read = matrix 2 2 (entry_at 1 0 18446744073709551615 ∷ entry_at 0 1 1 ∷ entry_at 0 1 18446744073709551613 ∷ entry_at 1 0 3 ∷ []);
    }
    ∷ []

each_file_is_read : map (λ (file : File). matrix_in Int64 file.text) hostile ≡ map (λ (file : File). file.read) hostile
unfolding hostile faulty general matrix lenient_text truncated_text lines_of is_banner field_of symmetry_of kind_of heading_of entry_said faults_of told_lines matrix_listed matrix_behind matrix_in_lines matrix_in
each_file_is_read = refl

-- ---- scripts

-- two files: one that stands for a matrix, and one that ends too early
worked_files : Sources
worked_files name =
    cond (bytes_eq name (codes "p.mtx")) (Some lenient_text)
    (cond (bytes_eq name (codes "f.mtx")) (Some truncated_text) None)

record Row : Type 0 where
  script : List ℕ
  written : List ℕ

lenient_file : Row
lenient_file = record {
  script = codes "load A INT64 p.mtx\nprint A\n";
  written = codes "1 OK\n2 OK\n%%MatrixMarket matrix coordinate integer general\n3 3 3\n1 2 1\n2 1 1\n3 3 1\n";
}

truncated_file : Row
truncated_file = record {
  script = codes "load A INT64 f.mtx\nmatrix A INT64 2 2\nnvals A\nload Z INT64 g.mtx\n";
  written = codes "1 BAD_FILE\n2 OK\n3 OK\n0\n4 NO_FILE\n";
}

abbrev worked : List Row
worked = lenient_file ∷ truncated_file ∷ []

each_writes_its_row : map (λ (row : Row). out_of worked_files row.script) worked ≡ map (λ (row : Row). row.written) worked
unfolding lenient_file truncated_file worked_files general lenient_text truncated_text lines_of is_banner field_of symmetry_of kind_of heading_of entry_said faults_of told_lines matrix_listed matrix_behind matrix_in_lines matrix_in digits domain_from_name count_from entries_of early_fault name_of number_of domain_of file_name_of load_of call_of command_of said_by reading_of readings_of readings_in load_fault effect data_lines_of loaded load step turn answers_from out_of_readings out_of answer_text canonical_lines
each_writes_its_row = refl
