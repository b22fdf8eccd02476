-- Entry lines as programs write them, and what the first line of a text says.
use Rattle.std.specs.Prelude.{ℕ, suc, ◌≡◌, true, List, ◌∷◌, ◌++◌, Some, Result, length}
use Rattle.algebra.specs.declared.domain.Domain.{Domain}
use Rattle.model.specs.declared.entry.Entry.{Entry}
use Rattle.model.specs.declared.market.Heading.{Heading}
use Rattle.model.specs.declared.market.Mistake.{Mistake}
use Rattle.model.specs.Grammar.{digits_value, lines_of}
use Rattle.model.specs.MatrixMarket.{Line, are_digits, entry_said}
use Rattle.mmio.specs.Fronts.{in_64_bits}
use Rattle.mmio.specs.Listing.{told_in}

-- digits at the front of a text write a number, and one byte parts them from what follows
pub record IsNumberBefore (text : List ℕ) (end number : ℕ) (rest : List ℕ) : Type 0 where
  pub digits : List ℕ
  pub parts : text ≡ digits ++ end ∷ rest
  pub are : are_digits digits ≡ true
  pub value : Some number ≡ in_64_bits (digits_value digits)

-- the first line of a text that says something says this, and other lines follow
pub record SaysFirst (domain : Domain) (h : Heading) (text : List ℕ) (said : Result Entry Mistake) (rest : List ℕ)
    : Type 0 where
  pub words : Line
  pub told : told_in text ≡ record { left = suc (length (lines_of rest)); words = words } ∷ told_in rest
  pub is : said ≡ entry_said domain h words
