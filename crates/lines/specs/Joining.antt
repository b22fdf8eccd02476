-- The first words of operations of two inputs.
use Rattle.std.specs.Prelude.{ℕ, Bool, List}
use Rattle.std.specs.List.{list_any}
use Rattle.std.specs.Str.{bytes_eq}
use Rattle.lines.specs.declared.operations.Joining.{Joining}
use Rattle.lines.specs.declared.operations.Joining.TheVariants.{Product, Combination}
use Rattle.model.specs.Grammar.{operations_of_two}
use Rattle.model.specs.Written.{form_word, positions_word}

abbrev pub joining_word : Joining → List ℕ
joining_word (Product form) = form_word form
joining_word (Combination positions) = positions_word positions

-- whether a first word is that of such an operation
abbrev pub joins : List ℕ → Bool
joins word = list_any (λ row. bytes_eq word row.word) operations_of_two
