-- Sums of the products of a vector and some rows of a matrix.
use Rattle.std.specs.Prelude.{ℕ, ◌≡◌, ◌≢◌, ◌-◌, ◌*◌, List, length}
use Rattle.algebra.specs.declared.kinds.MonoidKind.TheVariants.{Lor}
use Rattle.bitmap.specs.Bitmaps.{row_part}
use Rattle.model.specs.Entries.{word_at}
use Rattle.model.specs.Object.{transposed_content}
use Rattle.spgemm.specs.declared.bitmap_sums.Factors.{Factors}
use Rattle.spgemm.specs.declared.bitmap_sums.Sums.{Sums}
use Rattle.spgemm.specs.declared.bitmap_sums.Sums.TheVariants.{Truths, Words}
use Rattle.spgemm.specs.declared.bitmap_truths.TruthSums.{TruthSums}
use Rattle.spgemm.specs.declared.bitmap_words.WordSums.{WordSums}
use Rattle.terms.specs.declared.term.Term.{Term}
use Rattle.spgemm.specs.Dense.{AreMarkedSums}
use Rattle.terms.specs.Terms.{terms_of_row}
use Rattle.spgemm.specs.Truths.{AreTruths}

-- what the vector has at each row of A from first up to before past times the entries of that row, in order
abbrev pub terms_between : Factors → ℕ → ℕ → List Term
terms_between f first past =
    terms_of_row f.semiring.multiply (row_part (transposed_content (word_at f.u.now.entries)) 0 first (past - first))
    f.a.now

-- there is a place for each column or more, and at each stands the sum of these terms
pub record AreWordsOf (f : Factors) (terms : List Term) (sums : WordSums) : Type 0 where
  pub other : f.semiring.add.kind ≢ Lor
  pub mark_each : length sums.marks.items ≡ f.places
  pub word_each : length sums.words.items ≡ f.places
  pub sums_are : AreMarkedSums f.semiring.add terms sums.marks.items sums.words.items

-- ..and over LOR a bit says whether the sum is true
pub record AreTruthsOf (f : Factors) (terms : List Term) (sums : TruthSums) : Type 0 where
  pub lor : f.semiring.add.kind ≡ Lor
  pub bit_each : 64 * length sums.bits.items ≡ f.places
  pub true_each : 64 * length sums.trues.items ≡ f.places
  pub sums_are : AreTruths f.semiring.add.op terms sums.bits.items sums.trues.items

-- the sums of the products with the rows of A from first up to before past, in the form that suits the monoid
abbrev pub AreSumsOf : Factors → ℕ → ℕ → Sums → Type 0
AreSumsOf f first past (Words sums) = AreWordsOf f (terms_between f first past) sums
AreSumsOf f first past (Truths sums) = AreTruthsOf f (terms_between f first past) sums

-- sums are in one form, and have as many places
abbrev pub AreAlike : Sums → Sums → Type 0
AreAlike (Words low) (Words high) =
    (length high.marks.items ≡ length low.marks.items) × ((length high.words.items ≡ length low.words.items)
    × (length low.marks.items ≡ length low.words.items))
AreAlike (Truths low) (Truths high) =
    (length high.bits.items ≡ length low.bits.items) × (length high.trues.items ≡ length low.trues.items)
AreAlike (Words low) (Truths high) = ⊥
AreAlike (Truths low) (Words high) = ⊥
