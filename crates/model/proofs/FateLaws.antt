-- Lines that fare as they may are a run in which work is put off and may fail, and the worked one of these.
use Rattle.std.proofs.Common.{◌≡◌, ℕ, ◌+◌, ◌&&◌, not, Bool, true, false, List, [], ◌∷◌, Option, Some, None, refl, codes, inl, inr, map}
use Rattle.std.specs.Fmt.{digits}
use Rattle.std.specs.List.{flat_map, zip}
use Rattle.std.specs.Option.{option_map_or}
use Rattle.std.specs.Str.{bytes_eq}
use Rattle.algebra.specs.Names.{binary_from_name, domain_from_name, index_from_name, monoid_from_name, unary_from_name}
use Rattle.model.specs.Entries.{count_from, entries_of}
use Rattle.model.specs.Fates.{Fate, AtOnce, Failing, Refused, after_fate, may_all_fare, may_fare, said_by, said_from}
use Rattle.model.specs.Fault.{early_fault}
use Rattle.model.specs.Grammar.{Name, Reading, Silent, Malformed, Called, Loads, lines_of, name_of, number_of, value_of_word, domain_of, dotted_of, op_name_of, unary_name_of, monoid_name_of, by_position_of, by_value_of, index_name_of, semiring_name_of, flag_added, desc_of, out_of_words, indices_of, tuple_of, tuples_of, operate_of, call_of, command_of, reading_of, readings_of, said_by as said_by_row}
use Rattle.model.specs.Loads.{readings_in}
use Rattle.model.specs.Marks.{HasFailed, State, failed, first_state, is_unmarked, told}
use Rattle.model.specs.MatrixMarket.{File}
use Rattle.model.specs.Operations.{operation}
use Rattle.model.specs.Poisoned.{IsLine, IsPoisonedRun, asked_in}
use Rattle.model.specs.Product.{product}
use Rattle.model.specs.Run.{effect, data_lines_of, step, turn, answers_from, out_of_readings, out_of}
use Rattle.model.specs.Text.{answer_text, canonical_lines}
use Rattle.model.specs.WriteBack.{result_of}

and_left : (a b : Bool) → (a && b) ≡ true → a ≡ true
and_left true b h = refl
and_left false b h = absurd (cc)

and_right : (a b : Bool) → (a && b) ≡ true → b ≡ true
and_right true b h = h
and_right false b h = absurd (cc)

not_true : (a : Bool) → not a ≡ true → a ≡ false
not_true true h = absurd (cc)
not_true false h = refl

has_failed : (s : State Name) (object : Option Name)
    → option_map_or (λ o. not (is_unmarked (s.marks o))) object false ≡ true
    → HasFailed bytes_eq s object (option_map_or (failed bytes_eq s s.environment) object s)
has_failed s None may = absurd (cc)
has_failed s (Some object) may = (not_true (is_unmarked (s.marks object)) may, refl)

-- a line that fares as it may
fares : (number : ℕ) (s : State Name) (reading : Reading File) (fate : Fate) → may_fare s reading fate ≡ true
    → IsLine number s reading (said_by number s reading fate) (after_fate s reading fate)
fares number s reading AtOnce may =
    inl (record { says = refl; untold = not_true (option_map_or (told s) (asked_in s reading) false) may; leaves = refl })
fares number s reading Failing may = inr (inl (refl, has_failed s (asked_in s reading) may))
fares number s Silent Refused may = absurd (cc)
fares number s Malformed Refused may = inr (inr (tt, refl, refl))
fares number s (Called call) Refused may = inr (inr (tt, refl, refl))
fares number s (Loads name domain file) Refused may = inr (inr (tt, refl, refl))

-- lines that fare as they may are such a run
pub fated-run : (number : ℕ) (s : State Name) (lines : List (Reading File × Fate)) → may_all_fare s lines ≡ true
    → IsPoisonedRun number s (map (λ (line : Reading File × Fate). line.0) lines) (said_from number s lines)
unfolding IsPoisonedRun said_from may_all_fare
fated-run number s [] may = refl
fated-run number s (line ∷ lines) may =
    let here = and_left (may_fare s line.0 line.1) (may_all_fare (after_fate s line.0 line.1) lines) may in
    let later = and_right (may_fare s line.0 line.1) (may_all_fare (after_fate s line.0 line.1) lines) may in (
      s,
      said_by number s line.0 line.1,
      after_fate s line.0 line.1,
      said_from (number + 1) (after_fate s line.0 line.1) lines,
      record { environment = refl; marks = λ name. inl refl },
      fares number s line.0 line.1 here,
      fated-run (number + 1) (after_fate s line.0 line.1) lines later,
      refl,
    )

-- ---- the worked script of which two objects fail

script : List ℕ
script = codes "matrix A INT64 1 1\nmatrix B INT64 1 1\nmatrix D INT64 1 1\nset A 0 0 3\napply B - - IDENTITY.INT64 A -\napply D - - AINV.INT64 A -\nget B 0 0\nget D 0 0\newiseadd D - - PLUS.INT64 D B -\nget D 0 0\napply B - - IDENTITY.INT64 A -\nget B 0 0\nclear D\nnvals D\n"

-- with memory for all, and where what line 5 put off found none
written : List ℕ
written = codes "1 OK\n2 OK\n3 OK\n4 OK\n5 OK\n6 OK\n7 OK\n3\n8 OK\n-3\n9 OK\n10 OK\n0\n11 OK\n12 OK\n3\n13 OK\n14 OK\n0\n"

told_so : List ℕ
told_so = codes "1 OK\n2 OK\n3 OK\n4 OK\n5 OK\n6 OK\n7 INVALID_OBJECT\n8 OK\n-3\n9 OK\n10 INVALID_OBJECT\n11 OK\n12 OK\n3\n13 OK\n14 OK\n0\n"

fates : List Fate
fates = AtOnce ∷ AtOnce ∷ AtOnce ∷ AtOnce ∷ AtOnce ∷ AtOnce ∷ Failing ∷ AtOnce ∷ AtOnce ∷ Failing ∷ AtOnce ∷ AtOnce ∷ AtOnce ∷ AtOnce ∷ []

writes_all : out_of (λ name. None) script ≡ written
unfolding script written digits binary_from_name index_from_name unary_from_name domain_from_name monoid_from_name count_from entries_of early_fault lines_of name_of number_of value_of_word domain_of dotted_of op_name_of unary_name_of monoid_name_of by_position_of by_value_of index_name_of semiring_name_of flag_added desc_of out_of_words indices_of tuple_of tuples_of operate_of call_of command_of said_by_row reading_of readings_of readings_in operation product effect data_lines_of step turn answers_from out_of_readings out_of answer_text canonical_lines result_of
writes_all = refl

may_fail : may_all_fare first_state (zip (readings_in (λ name. None) script) fates) ≡ true
unfolding script fates may_all_fare digits binary_from_name index_from_name unary_from_name domain_from_name monoid_from_name count_from entries_of early_fault lines_of name_of number_of value_of_word domain_of dotted_of op_name_of unary_name_of monoid_name_of by_position_of by_value_of index_name_of semiring_name_of flag_added desc_of out_of_words indices_of tuple_of tuples_of operate_of call_of command_of said_by_row reading_of readings_of readings_in operation product effect data_lines_of step turn answer_text canonical_lines result_of
may_fail = refl

tells : flat_map answer_text (said_from 1 first_state (zip (readings_in (λ name. None) script) fates)) ≡ told_so
unfolding script told_so fates said_from digits binary_from_name index_from_name unary_from_name domain_from_name monoid_from_name count_from entries_of early_fault lines_of name_of number_of value_of_word domain_of dotted_of op_name_of unary_name_of monoid_name_of by_position_of by_value_of index_name_of semiring_name_of flag_added desc_of out_of_words indices_of tuple_of tuples_of operate_of call_of command_of said_by_row reading_of readings_of readings_in operation product effect data_lines_of step turn answer_text canonical_lines result_of
tells = refl
