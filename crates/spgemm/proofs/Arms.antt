-- Arms by literal kinds: where two semirings have the same kinds and domains, what one gives the other gives.
use Rattle.std.proofs.Common.{Bool, Err, Ok, IfOk, Option, Result, ◌≡◌, ℕ, List, refl, ◌∙◌}
use Rattle.algebra.specs.declared.semiring.Semiring.{Semiring}
use Rattle.model.specs.declared.entry.Entry.{Entry}
use Rattle.model.specs.declared.memory.NoMemory.{NoMemory}
use Rattle.store.specs.Stored.{Block, Stored}
use Rattle.spgemm.specs.Columns.{AreRowSums, IsColumnBlock}
use Rattle.spgemm.specs.Dense.{AreColumnSums, AreMarkedSums}
use Rattle.spgemm.specs.Slots.{AreSlotSums}
use Rattle.terms.specs.declared.term.Term.{Term}
use Rattle.terms.specs.Terms.{kept_terms, terms_of_row}
use Rattle.spgemm.specs.Truths.{AreTruths}

-- an operator computes by its kind and its domain alone
pub same_term_sums : (own semiring : Semiring) (terms : List Term) (bits words : List ℕ)
    → AreColumnSums own.add.op terms bits words → own.add.op.kind ≡ semiring.add.op.kind
    → own.add.op.domain ≡ semiring.add.op.domain
    → AreColumnSums semiring.add.op terms bits words
same_term_sums own semiring terms bits words here kind domain = record { sums_are = λ col within. here.sums_are col within ∙ rw (kind, domain) refl }

pub same_sums : (own semiring : Semiring) (row : List Entry) (b : Stored) (bits words : List ℕ)
    → AreColumnSums own.add.op (terms_of_row own.multiply row b) bits words
    → own.add.op.kind ≡ semiring.add.op.kind → own.add.op.domain ≡ semiring.add.op.domain
    → own.multiply.kind ≡ semiring.multiply.kind → own.multiply.domain ≡ semiring.multiply.domain
    → AreColumnSums semiring.add.op (terms_of_row semiring.multiply row b) bits words
same_sums own semiring row b bits words here kind domain multiply_kind multiply_domain =
    let terms : terms_of_row own.multiply row b ≡ terms_of_row semiring.multiply row b = rw (multiply_kind, multiply_domain) refl in
    record { sums_are = λ col within. here.sums_are col within ∙ rw (kind, domain, terms) refl }

pub same_kept_sums : (own semiring : Semiring) (keeps : ℕ → Bool) (row : List Entry) (b : Stored) (bits words : List ℕ)
    → AreColumnSums own.add.op (kept_terms keeps (terms_of_row own.multiply row b)) bits words
    → own.add.op.kind ≡ semiring.add.op.kind → own.add.op.domain ≡ semiring.add.op.domain
    → own.multiply.kind ≡ semiring.multiply.kind → own.multiply.domain ≡ semiring.multiply.domain
    → AreColumnSums semiring.add.op (kept_terms keeps (terms_of_row semiring.multiply row b)) bits words
same_kept_sums own semiring keeps row b bits words here kind domain multiply_kind multiply_domain =
    let terms : terms_of_row own.multiply row b ≡ terms_of_row semiring.multiply row b = rw (multiply_kind, multiply_domain) refl in
    record { sums_are = λ col within. here.sums_are col within ∙ rw (kind, domain, terms) refl }

pub same_truths : (own semiring : Semiring) (row : List Entry) (b : Stored) (bits trues : List ℕ)
    → AreTruths own.add.op (terms_of_row own.multiply row b) bits trues
    → own.add.op.kind ≡ semiring.add.op.kind → own.add.op.domain ≡ semiring.add.op.domain
    → own.multiply.kind ≡ semiring.multiply.kind → own.multiply.domain ≡ semiring.multiply.domain
    → AreTruths semiring.add.op (terms_of_row semiring.multiply row b) bits trues
same_truths own semiring row b bits trues here kind domain multiply_kind multiply_domain =
    let terms : terms_of_row own.multiply row b ≡ terms_of_row semiring.multiply row b = rw (multiply_kind, multiply_domain) refl in
    record {
      sums_are = λ col within. here.sums_are col within ∙ rw (kind, domain, terms) refl;
      others_are = here.others_are;
    }

pub same_slot_sums : (own semiring : Semiring) (slots : List ℕ) (row : List Entry) (b : Stored)
    (sums : List (Option ℕ)) → AreSlotSums own.add.op slots (terms_of_row own.multiply row b) sums
    → own.add.op.kind ≡ semiring.add.op.kind → own.add.op.domain ≡ semiring.add.op.domain
    → own.multiply.kind ≡ semiring.multiply.kind → own.multiply.domain ≡ semiring.multiply.domain
    → AreSlotSums semiring.add.op slots (terms_of_row semiring.multiply row b) sums
same_slot_sums own semiring slots row b sums here kind domain multiply_kind multiply_domain =
    let terms : terms_of_row own.multiply row b ≡ terms_of_row semiring.multiply row b = rw (multiply_kind, multiply_domain) refl in
    record { lengths = here.lengths; sums_are = λ at within. here.sums_are at within ∙ rw (kind, domain, terms) refl }

pub same_marked_sums : (own semiring : Semiring) (row : List Entry) (b : Stored) (marks : List Bool) (words : List ℕ)
    → AreMarkedSums own.add (terms_of_row own.multiply row b) marks words
    → own.add.kind ≡ semiring.add.kind → own.add.op.kind ≡ semiring.add.op.kind
    → own.add.op.domain ≡ semiring.add.op.domain → own.multiply.kind ≡ semiring.multiply.kind
    → own.multiply.domain ≡ semiring.multiply.domain
    → AreMarkedSums semiring.add (terms_of_row semiring.multiply row b) marks words
same_marked_sums own semiring row b marks words here name kind domain multiply_kind multiply_domain =
    let terms : terms_of_row own.multiply row b ≡ terms_of_row semiring.multiply row b = rw (multiply_kind, multiply_domain) refl in
    record {
      sums_are = λ col within. here.sums_are col within ∙ rw (kind, domain, terms) refl;
      others_are = λ col within none. here.others_are col within none ∙ rw (name, domain) refl;
    }

pub same_column : (r : Result Block NoMemory) (own semiring : Semiring) (keeps : ℕ → Bool) (first past : ℕ)
    (a u : Stored) → IfOk r (IsColumnBlock own keeps first past a u)
    → own.add.kind ≡ semiring.add.kind → own.multiply.kind ≡ semiring.multiply.kind
    → own.multiply.domain ≡ semiring.multiply.domain → IfOk r (IsColumnBlock semiring keeps first past a u)
same_column (Err e) own semiring keeps first past a u here name kind domain = tt
same_column (Ok block) own semiring keeps first past a u here name kind domain = record {
  first_is = here.first_is;
  past_is = here.past_is;
  cols = here.cols;
  words = λ i j low high. here.words i j low high ∙ rw (name, kind, domain) refl;
}

pub same_row_sums : (own semiring : Semiring) (a u : Stored) (bits words : List ℕ) → AreRowSums own a u bits words
    → own.add.kind ≡ semiring.add.kind → own.multiply.kind ≡ semiring.multiply.kind
    → own.multiply.domain ≡ semiring.multiply.domain → AreRowSums semiring a u bits words
same_row_sums own semiring a u bits words here name kind domain = record { sums_are = λ i. here.sums_are i ∙ rw (name, kind, domain) refl }
