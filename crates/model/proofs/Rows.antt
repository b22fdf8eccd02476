-- The worked scripts, from their bytes to what they write, as the definitions compute them.
use Rattle.std.proofs.Common.{◌≡◌, ℕ, List, [], ◌∷◌, None, refl, codes, map}
use Rattle.std.specs.Fmt.{digits}
use Rattle.algebra.specs.Names.{binary_from_name, domain_from_name, index_from_name, monoid_from_name, unary_from_name}
use Rattle.model.specs.Entries.{count_from, entries_of}
use Rattle.model.specs.Fault.{early_fault}
use Rattle.model.specs.Grammar.{lines_of, name_of, number_of, value_of_word, domain_of, dotted_of, op_name_of, unary_name_of, monoid_name_of, by_position_of, by_value_of, index_name_of, semiring_name_of, flag_added, desc_of, out_of_words, indices_of, tuple_of, tuples_of, operate_of, call_of, command_of, reading_of, readings_of, said_by}
use Rattle.model.specs.Loads.{readings_in}
use Rattle.model.specs.Operations.{operation}
use Rattle.model.specs.Product.{product}
use Rattle.model.specs.Run.{effect, data_lines_of, step, turn, answers_from, out_of_readings, out_of}
use Rattle.model.specs.Text.{answer_text, canonical_lines}
use Rattle.model.specs.WriteBack.{result_of}

-- a script and what it writes
record Row : Type 0 where
  script : List ℕ
  written : List ℕ

zero_sum_is_an_entry : Row
zero_sum_is_an_entry = record {
  script = codes "matrix A INT64 1 2\nmatrix B INT64 2 1\nmatrix C INT64 1 1\nset A 0 0 1\nset A 0 1 1\nset B 0 0 5\nset B 1 0 -5\nmxm C - - PLUS.TIMES.INT64 A B -\nnvals C\nget C 0 0\nprint C\n";
  written = codes "1 OK\n2 OK\n3 OK\n4 OK\n5 OK\n6 OK\n7 OK\n8 OK\n9 OK\n1\n10 OK\n0\n11 OK\n%%MatrixMarket matrix coordinate integer general\n1 1 1\n1 1 0\n";
}

empty_product : Row
empty_product = record {
  script = codes "matrix A INT64 3 3\nmatrix C INT64 3 3\nmxm C - - PLUS.TIMES.INT64 A A -\nnvals C\nprint C\n";
  written = codes "1 OK\n2 OK\n3 OK\n4 OK\n0\n5 OK\n%%MatrixMarket matrix coordinate integer general\n3 3 0\n";
}

wrap_before_minimum : Row
wrap_before_minimum = record {
  script = codes "matrix A INT64 1 1\nmatrix B INT64 1 1\nmatrix C INT64 1 1\nset A 0 0 9223372036854775807\nset B 0 0 1\nmxm C - - MIN.PLUS.INT64 A B -\nget C 0 0\n";
  written = codes "1 OK\n2 OK\n3 OK\n4 OK\n5 OK\n6 OK\n7 OK\n-9223372036854775808\n";
}

refusals_and_greatest_indices : Row
refusals_and_greatest_indices = record {
  script = codes "# x\n\nbogus\nmatrix A INT64 4294967296 1\nmatrix B INT64 4294967297 1\nmatrix A INT64 1 1\nnvals Q\nset A 4294967296 0 1\nset A 4294967295 0 1\nget A 4294967295 0\n";
  written = codes "3 SYNTAX\n4 OK\n5 INVALID_VALUE\n6 NAME_TAKEN\n7 UNINITIALIZED_OBJECT\n8 INVALID_INDEX\n9 OK\n10 OK\n1\n";
}

valued_and_structural_mask : Row
valued_and_structural_mask = record {
  script = codes "matrix A INT64 1 1\nmatrix B INT64 1 2\nmatrix M BOOL 1 2\nmatrix C INT64 1 2\nset A 0 0 3\nset B 0 0 5\nset B 0 1 7\nset M 0 0 1\nset M 0 1 0\nmxm C M - PLUS.TIMES.INT64 A B -\nprint C\nmxm C M - PLUS.TIMES.INT64 A B S\nprint C\n";
  written = codes "1 OK\n2 OK\n3 OK\n4 OK\n5 OK\n6 OK\n7 OK\n8 OK\n9 OK\n10 OK\n11 OK\n%%MatrixMarket matrix coordinate integer general\n1 2 1\n1 1 15\n12 OK\n13 OK\n%%MatrixMarket matrix coordinate integer general\n1 2 2\n1 1 15\n1 2 21\n";
}

one_object_in_all_places : Row
one_object_in_all_places = record {
  script = codes "matrix C INT64 2 2\nset C 0 0 1\nset C 0 1 2\nset C 1 1 3\nmxm C C PLUS.INT64 PLUS.TIMES.INT64 C C -\nprint C\n";
  written = codes "1 OK\n2 OK\n3 OK\n4 OK\n5 OK\n6 OK\n%%MatrixMarket matrix coordinate integer general\n2 2 3\n1 1 2\n1 2 10\n2 2 12\n";
}

products_with_vectors : Row
products_with_vectors = record {
  script = codes "matrix A INT64 2 3\nset A 0 1 2\nset A 1 1 3\nset A 1 2 5\nvector U INT64 3\nset U 1 10\nset U 2 1\nvector V INT64 2\nmxv V - - PLUS.TIMES.INT64 A U -\nprint V\nvxm U - - PLUS.MINUS.INT64 V A -\nprint U\nremove U 1\nnvals U\nvxm U U PLUS.INT64 MAX.FIRST.INT64 V A R,S,C\nprint U\nclear U\nnvals U\nfree U\nget U 0\n";
  written = codes "1 OK\n2 OK\n3 OK\n4 OK\n5 OK\n6 OK\n7 OK\n8 OK\n9 OK\n10 OK\n%%MatrixMarket matrix coordinate integer general\n2 1 2\n1 1 20\n2 1 35\n11 OK\n12 OK\n%%MatrixMarket matrix coordinate integer general\n3 1 2\n2 1 50\n3 1 30\n13 OK\n14 OK\n1\n15 OK\n16 OK\n%%MatrixMarket matrix coordinate integer general\n3 1 1\n2 1 35\n17 OK\n18 OK\n0\n19 OK\n20 UNINITIALIZED_OBJECT\n";
}

search_by_levels : Row
search_by_levels = record {
  script = codes "matrix A BOOL 3 3\nvector V INT64 3\nvector Q BOOL 3\nset A 0 1 1\nset A 1 0 1\nset A 1 2 1\nset Q 0 1\napplysecond V Q - SECOND.INT64 Q 1 S\nvxm Q V - LOR.LAND.BOOL Q A R,S,C\napplysecond V Q - SECOND.INT64 Q 2 S\nvxm Q V - LOR.LAND.BOOL Q A R,S,C\nnvals Q\nget Q 2\nprint V\n";
  written = codes "1 OK\n2 OK\n3 OK\n4 OK\n5 OK\n6 OK\n7 OK\n8 OK\n9 OK\n10 OK\n11 OK\n12 OK\n1\n13 OK\n1\n14 OK\n%%MatrixMarket matrix coordinate integer general\n3 1 2\n1 1 1\n2 1 2\n";
}

complement_of_no_mask : Row
complement_of_no_mask = record {
  script = codes "matrix A INT64 1 1\nmatrix C INT64 1 1\nset A 0 0 4\nset C 0 0 9\napply C - - IDENTITY.INT64 A C\nget C 0 0\napply C - - IDENTITY.INT64 A R,C\nget C 0 0\n";
  written = codes "1 OK\n2 OK\n3 OK\n4 OK\n5 OK\n6 OK\n9\n7 OK\n8 NO_VALUE\n";
}

reader_keeps_the_old_value : Row
reader_keeps_the_old_value = record {
  script = codes "matrix A INT64 1 1\nmatrix B INT64 1 1\nset A 0 0 1\napply B - - IDENTITY.INT64 A -\nset A 0 0 2\nprint B\nprint A\n";
  written = codes "1 OK\n2 OK\n3 OK\n4 OK\n5 OK\n6 OK\n%%MatrixMarket matrix coordinate integer general\n1 1 1\n1 1 1\n7 OK\n%%MatrixMarket matrix coordinate integer general\n1 1 1\n1 1 2\n";
}

empty_reductions : Row
empty_reductions = record {
  script = codes "matrix A INT64 2 2\nvector W INT64 2\nreduce A MIN.INT64\nreducerows W - - PLUS.INT64 A -\nnvals W\n";
  written = codes "1 OK\n2 OK\n3 OK\n9223372036854775807\n4 OK\n5 OK\n0\n";
}

order_of_checks : Row
order_of_checks = record {
  script = codes "vector W INT64 2\nvector U BOOL 3\napply W - PLUS.UINT64 IDENTITY.INT64 U -\napply W - - IDENTITY.INT64 U -\napply W - - IDENTITY.INT64 W T0,Q\newiseadd W - - LOR.INT64 W W -\n";
  written = codes "1 OK\n2 OK\n3 NOT_IMPLEMENTED\n4 DIMENSION_MISMATCH\n5 SYNTAX\n6 NOT_IMPLEMENTED\n";
}

replace : Row
replace = record {
  script = codes "vector W INT64 2\nvector U INT64 2\nvector M BOOL 2\nset W 0 1\nset W 1 2\nset M 0 1\napply W M - IDENTITY.INT64 U -\nprint W\napply W M - IDENTITY.INT64 U R\nnvals W\n";
  written = codes "1 OK\n2 OK\n3 OK\n4 OK\n5 OK\n6 OK\n7 OK\n8 OK\n%%MatrixMarket matrix coordinate integer general\n2 1 1\n2 1 2\n9 OK\n10 OK\n0\n";
}

assign_deletes : Row
assign_deletes = record {
  script = codes "matrix C INT64 3 1\nmatrix A INT64 2 1\nset C 0 0 7\nset C 1 0 8\nset C 2 0 9\nset A 0 0 5\nassign C - - A 1,2 : -\nprint C\nassign C - - A 1,1 : -\nnvals C\n";
  written = codes "1 OK\n2 OK\n3 OK\n4 OK\n5 OK\n6 OK\n7 OK\n8 OK\n%%MatrixMarket matrix coordinate integer general\n3 1 2\n1 1 7\n2 1 5\n9 INVALID_VALUE\n10 OK\n2\n";
}

extract_with_a_repeat : Row
extract_with_a_repeat = record {
  script = codes "matrix A INT64 5 1\nmatrix C INT64 3 1\nset A 0 0 4\nset A 1 0 6\nextract C - - A 1,1,0 : -\nprint C\nextract C - - A 1,5,0 : -\n";
  written = codes "1 OK\n2 OK\n3 OK\n4 OK\n5 OK\n6 OK\n%%MatrixMarket matrix coordinate integer general\n3 1 3\n1 1 6\n2 1 6\n3 1 4\n7 INDEX_OUT_OF_BOUNDS\n";
}

user_domain_as_mask : Row
user_domain_as_mask = record {
  script = codes "vector M USER:3 2\nvector U INT64 2\nvector W INT64 2\nset M 1 5\nset U 0 1\nset U 1 2\napply W M - IDENTITY.INT64 U -\napply W M - IDENTITY.INT64 U S\nprint W\n";
  written = codes "1 OK\n2 OK\n3 OK\n4 OK\n5 OK\n6 OK\n7 DOMAIN_MISMATCH\n8 OK\n9 OK\n%%MatrixMarket matrix coordinate integer general\n2 1 1\n2 1 2\n";
}

resized_down_and_up : Row
resized_down_and_up = record {
  script = codes "matrix A INT64 4 4\nset A 0 0 1\nset A 3 3 2\nresize A 2 2\nresize A 4 4\nprint A\nresize A 0 4\nnvals A\n";
  written = codes "1 OK\n2 OK\n3 OK\n4 OK\n5 OK\n6 OK\n%%MatrixMarket matrix coordinate integer general\n4 4 1\n1 1 1\n7 INVALID_VALUE\n8 OK\n1\n";
}

built_in_list_order : Row
built_in_list_order = record {
  script = codes "matrix A INT64 2 2\nbuild A PLUS.INT64 0,0,1 0,0,2 1,1,5\nprint A\nbuild A - 0,0,1\nclear A\nbuild A - 0,0,1 0,0,2\nbuild A MINUS.INT64 0,0,9 0,0,1 0,0,2\nget A 0 0\n";
  written = codes "1 OK\n2 OK\n3 OK\n%%MatrixMarket matrix coordinate integer general\n2 2 2\n1 1 3\n2 2 5\n4 OUTPUT_NOT_EMPTY\n5 OK\n6 INVALID_VALUE\n7 OK\n8 OK\n6\n";
}

index_operators_on_vectors : Row
index_operators_on_vectors = record {
  script = codes "matrix A INT64 2 2\nvector U INT64 2\nvector W INT64 2\nset A 0 1 3\nset U 1 4\nmxv W - - PLUS.TIMES.INT64 A U -\nget W 0\napplyindex W - - ROWINDEX U 5 -\nget W 1\napplyfirst W - - MINUS.INT64 11 U -\nget W 1\ndup V W\nfree W\nnvals W\nprint V\n";
  written = codes "1 OK\n2 OK\n3 OK\n4 OK\n5 OK\n6 OK\n7 OK\n12\n8 OK\n9 OK\n6\n10 OK\n11 OK\n7\n12 OK\n13 OK\n14 UNINITIALIZED_OBJECT\n15 OK\n%%MatrixMarket matrix coordinate integer general\n2 1 1\n2 1 7\n";
}

transposed_inputs : Row
transposed_inputs = record {
  script = codes "matrix A INT64 2 3\nmatrix C INT64 3 2\nvector U INT64 2\nvector W INT64 3\nset A 0 1 2\nset A 1 2 5\ntranspose C - - A -\nprint C\nset U 0 3\nset U 1 4\nmxv W - - PLUS.MINUS.INT64 A U T0\nprint W\nfill W - PLUS.INT64 10 2,2,0 -\nprint W\n";
  written = codes "1 OK\n2 OK\n3 OK\n4 OK\n5 OK\n6 OK\n7 OK\n8 OK\n%%MatrixMarket matrix coordinate integer general\n3 2 2\n2 1 2\n3 2 5\n9 OK\n10 OK\n11 OK\n12 OK\n%%MatrixMarket matrix coordinate integer general\n3 1 2\n2 1 -1\n3 1 1\n13 OK\n14 OK\n%%MatrixMarket matrix coordinate integer general\n3 1 3\n1 1 10\n2 1 -1\n3 1 11\n";
}

empty_script : Row
empty_script = record { script = codes ""; written = codes "" }

abbrev worked : List Row
worked = zero_sum_is_an_entry ∷ empty_product ∷ wrap_before_minimum ∷ refusals_and_greatest_indices ∷ valued_and_structural_mask
    ∷ one_object_in_all_places ∷ products_with_vectors
    ∷ search_by_levels ∷ complement_of_no_mask ∷ reader_keeps_the_old_value ∷ empty_reductions ∷ order_of_checks ∷ replace
    ∷ assign_deletes ∷ extract_with_a_repeat ∷ user_domain_as_mask ∷ resized_down_and_up ∷ built_in_list_order ∷ index_operators_on_vectors ∷ transposed_inputs ∷ empty_script ∷ []

each_writes_its_row : map (λ (row : Row). out_of (λ name. None) row.script) worked ≡ map (λ (row : Row). row.written) worked
unfolding zero_sum_is_an_entry empty_product wrap_before_minimum refusals_and_greatest_indices valued_and_structural_mask one_object_in_all_places products_with_vectors search_by_levels complement_of_no_mask reader_keeps_the_old_value empty_reductions order_of_checks replace assign_deletes extract_with_a_repeat user_domain_as_mask resized_down_and_up built_in_list_order index_operators_on_vectors transposed_inputs empty_script digits binary_from_name index_from_name unary_from_name domain_from_name monoid_from_name count_from entries_of early_fault lines_of name_of number_of value_of_word domain_of dotted_of op_name_of unary_name_of monoid_name_of by_position_of by_value_of index_name_of semiring_name_of flag_added desc_of out_of_words indices_of tuple_of tuples_of operate_of call_of command_of said_by reading_of readings_of readings_in operation product effect data_lines_of step turn answers_from out_of_readings out_of answer_text canonical_lines result_of
each_writes_its_row = refl
