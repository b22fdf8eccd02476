-- Lines that load files.
use Rattle.std.proofs.Common.{◌≡◌, ℕ, ◌<◌, ◌==◌, ◌&&◌, Bool, true, false, not, cond, List, [], ◌∷◌, Option, Some, None, length, slice_index, nat_le, Result, Ok, Err, refl, sym, ap, arith, inl, inr, codes, map}
use Rattle.std.specs.List.{find, list_all, onto_first, slice_split}
use Rattle.std.specs.Option.{option_and_then, option_map_or}
use Rattle.std.specs.Str.{IsAscii, IsUtf8, bytes_eq}
use Rattle.std.specs.Prelude.{filter}
use Rattle.std.proofs.lemmas.Bool.{and_parts, cases_Bool, true≢false}
use Rattle.std.proofs.lemmas.Bool.Decides.{nat_tests}
use Rattle.std.proofs.lemmas.Slice.Eq.{bytes_eq-Decides}
use Rattle.std.proofs.lemmas.Str.{IsUtf8-from_ascii}
use Rattle.std.proofs.lemmas.Str.Ascii.{IsAscii-nil, IsAscii-cons}
use Rattle.lines.specs.declared.fault.LineFault.{LineFault}
use Rattle.lines.specs.declared.fault.LineFault.TheVariants as fault
use Rattle.lines.specs.declared.line.Line.{Line}
use Rattle.lines.specs.Meaning.{IsRead, Reads, reading_in}
use Rattle.model.specs.declared.call.Call.{Call}
use Rattle.model.specs.Grammar.{Name, Reading, Malformed, Called, Loads, call_of, command_of, file_name_of, is_blank, is_called, is_file_name, is_silent, is_well_formed, load_of, name_of, domain_of, nth_word, reading_of, where_it, words_of}
use Rattle.model.specs.Grammar.{◌>>=◌}
use Rattle.algebra.specs.Value.{is_built_in}
use Rattle.model.specs.Loads.{file_named}
use Rattle.model.specs.Runs.{IsAnswered}

-- ---- the bytes of a file's name are text

abbrev is_graphic : ℕ → Bool
is_graphic b = nat_le 33 b && nat_le b 126

graphic-lt : (b : ℕ) → is_graphic b ≡ true → b < 128
graphic-lt b h = grind (arith, nat_tests)

IsAscii-graphic : (word : List ℕ) → list_all is_graphic word ≡ true → IsAscii word
IsAscii-graphic [] h = IsAscii-nil
IsAscii-graphic (b ∷ bs) h =
    let parts = and_parts (is_graphic b) (list_all is_graphic bs) h in
    IsAscii-cons b bs (graphic-lt b parts.0) (IsAscii-graphic bs parts.1)

pub IsUtf8-file_name : (word : List ℕ) → is_file_name word ≡ true → IsUtf8 word
IsUtf8-file_name word h =
    let parts = and_parts (nat_le 1 (length word) && nat_le (length word) 255) (list_all is_graphic word) h in
    IsUtf8-from_ascii word (IsAscii-graphic word parts.1)

-- ---- what asks for something has an answer

abbrev answered : Option (Reading (List ℕ)) → Type 0
answered o = IsAnswered (option_map_or (λ reading. reading) o Malformed)

answered_by : {A : Type 0} (o : Option A) (f : A → Option (Reading (List ℕ))) → ((a : A) → answered (f a))
    → answered (o >>= f)
answered_by None f h = tt
answered_by (Some a) f h = h a

answered_where : (t : Bool) (o : Option (Reading (List ℕ))) → answered o → answered (cond t o None)
answered_where true o h = h
answered_where false o h = tt

answered_load : (words : List (List ℕ)) → answered (load_of words)
unfolding load_of
answered_load words =
    answered_where (length words == 4) (name_of (nth_word words 1) >>= λ name. where_it is_built_in (domain_of (nth_word words 2)) >>= λ domain. file_name_of (nth_word words 3) >>= λ file. Some (Loads name domain file))
    (answered_by (name_of (nth_word words 1)) _ (λ name. answered_by (where_it is_built_in (domain_of (nth_word words 2))) _ (λ domain. answered_by (file_name_of (nth_word words 3)) _ (λ file. tt))))

answered_call : (o : Option (Call Name Name)) → answered (o >>= λ call. Some (Called call))
answered_call None = tt
answered_call (Some call) = tt

answered_command : (words : List (List ℕ)) → answered (command_of words)
unfolding command_of
answered_command words = elim (cases_Bool (is_called words (codes "load"))) [
  | inl load ↦ rw load (answered_load words)
  | inr other ↦ rw other (answered_call (call_of words))
]

reading-command : (line : List ℕ) → is_silent (words_of line) ≡ false → is_well_formed line ≡ true
    → reading_of line ≡ option_map_or (λ reading. reading) (command_of (words_of line)) Malformed
unfolding reading_of
reading-command line loud formed = rw (loud, formed) refl

-- what was read of a line's words is its reading
read_command : (o : Option (Reading (List ℕ))) (r : Result Line LineFault) → answered o → IsRead reading_in o r
    → Reads r (option_map_or (λ reading. reading) o Malformed)
read_command o (Ok line) h is = rw is refl
read_command o (Err fault.Syntax) h is = rw is refl
read_command o (Err fault.NoMemory) h is = h

pub reads_command : (line : List ℕ) (r : Result Line LineFault) → is_silent (words_of line) ≡ false
    → is_well_formed line ≡ true → IsRead reading_in (command_of (words_of line)) r → Reads r (reading_of line)
reads_command line r loud formed is = rw (reading-command line loud formed) (read_command (command_of (words_of line)) r (answered_command (words_of line)) is)

answered_line : (line : List ℕ) → is_silent (words_of line) ≡ false → IsAnswered (reading_of line)
unfolding reading_of
answered_line line loud = elim (cases_Bool (is_well_formed line)) [
  | inl formed ↦ rw (reading-command line loud formed) (answered_command (words_of line))
  | inr malformed ↦ rw (loud, malformed) tt
]

-- a line whose words weren't read
pub unread : (line : List ℕ) (why : LineFault) (r : Result Line LineFault) → is_silent (words_of line) ≡ false
    → r ≡ Err why → (why ≡ fault.Syntax → is_well_formed line ≡ false) → Reads r (reading_of line)
unfolding reading_of
unread line fault.Syntax r loud is none = rw (is, loud, none refl) refl
unread line fault.NoMemory r loud is none = rw is (answered_line line loud)

-- ---- the file that a line names

no_file : (o : Option (Call Name Name)) → option_and_then file_named (o >>= λ call. Some (Called call)) ≡ None
no_file None = refl
no_file (Some call) = refl

pub not_load : (words : List (List ℕ)) → is_called words (codes "load") ≡ false
    → option_and_then file_named (command_of words) ≡ None
unfolding command_of
not_load words other = rw other (no_file (call_of words))

pub file_of_load : (words : List (List ℕ)) → is_called words (codes "load") ≡ true
    → option_and_then file_named (command_of words) ≡ option_and_then file_named (load_of words)
unfolding command_of
file_of_load words load = rw load refl

pub no_words : {X : Type 0} (bytes : X → List ℕ) (words : List X) → length words ≡ 0
    → is_called (map bytes words) (codes "load") ≡ false
no_words bytes [] h = refl
no_words bytes (word ∷ words) h = absurd (omega arith)

silent_not_load : (words : List (List ℕ)) → is_silent words ≡ true → is_called words (codes "load") ≡ false
silent_not_load [] h = refl
silent_not_load (word ∷ words) h = elim (cases_Bool (bytes_eq word (codes "load"))) [
  | inl same ↦
      let is : word ≡ codes "load" = (bytes_eq-Decides word (codes "load")).0 same in
      absurd (true≢false (sym (rw is at h)))
  | inr apart ↦ apart
]

named : (o : Option (Reading (List ℕ)))
    → file_named (option_map_or (λ reading. reading) o Malformed) ≡ option_and_then file_named o
named None = refl
named (Some reading) = refl

pub line_file : (line : List ℕ) → file_named (reading_of line) ≡ cond (is_well_formed line)
    (option_and_then file_named (command_of (words_of line))) None
unfolding reading_of
line_file line = elim (cases_Bool (is_silent (words_of line))) [
  | inl silent ↦ elim (cases_Bool (is_well_formed line)) [
    | inl formed ↦ rw (silent, formed) (sym (not_load (words_of line) (silent_not_load (words_of line) silent)))
    | inr malformed ↦ rw (silent, malformed) refl
  ]
  | inr loud ↦ elim (cases_Bool (is_well_formed line)) [
    | inl formed ↦ rw (loud, formed) (named (command_of (words_of line)))
    | inr malformed ↦ rw (loud, malformed) refl
  ]
]

-- ---- the first byte of a load

first_of_word : (byte : ℕ) (parts : List (List ℕ))
    → is_called (filter (λ word. not (length word == 0)) (onto_first byte parts)) (codes "load") ≡ true → byte ≡ 108
first_of_word byte [] h = ap (λ word. slice_index word 0) ((bytes_eq-Decides (byte ∷ []) (codes "load")).0 h)
first_of_word byte (part ∷ parts) h =
    let some : (length (byte ∷ part) == 0) ≡ false = grind (arith, nat_tests) in
    let is : byte ∷ part ≡ codes "load" = (bytes_eq-Decides (byte ∷ part) (codes "load")).0 (rw some at h) in
    ap (λ word. slice_index word 0) is

pub first_byte_of_load : (line : List ℕ) → is_called (words_of line) (codes "load") ≡ true
    → find (λ byte. not (is_blank byte)) line ≡ Some 108
first_byte_of_load [] h = absurd (true≢false (sym h))
first_byte_of_load (byte ∷ bytes) h = elim (cases_Bool (is_blank byte)) [
  | inl blank ↦ rw blank (first_byte_of_load bytes (rw blank at h))
  | inr other ↦ rw other (ap Some (first_of_word byte (slice_split is_blank bytes) (rw other at h)))
]
