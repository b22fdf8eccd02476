-- Arms by literal kinds: where two semirings have the same kinds and domains, what one gives the other gives.
use Rattle.std.proofs.Common.{Bool, Err, Ok, IfOk, OnOk, Result, ◌≡◌, ℕ, List, refl, ◌∙◌}
use Rattle.algebra.specs.declared.semiring.Semiring.{Semiring}
use Rattle.model.specs.declared.entry.Entry.{Entry}
use Rattle.model.specs.declared.memory.NoMemory.{NoMemory}
use Rattle.store.specs.declared.lists.FiberLists.{FiberLists}
use Rattle.store.specs.Stored.{Stored}
use Rattle.terms.specs.declared.term.Term.{Term}
use Rattle.terms.specs.Terms.{AreFirstKept, HasSums}

-- an operator computes by its kind and its domain alone
pub same_terms : (r : Result ℕ NoMemory) (own semiring : Semiring) (keeps : ℕ → Bool) (row : List Entry) (b : Stored)
    (terms : List Term) → IfOk r (AreFirstKept keeps own.multiply row b terms)
    → own.multiply.kind ≡ semiring.multiply.kind → own.multiply.domain ≡ semiring.multiply.domain
    → IfOk r (AreFirstKept keeps semiring.multiply row b terms)
same_terms (Err e) own semiring keeps row b terms here kind domain = tt
same_terms (Ok done) own semiring keeps row b terms here kind domain = record { are_those = here.are_those ∙ rw (kind, domain) refl }

pub same_runs : (r : Result (Unit {0}) NoMemory) (own semiring : Semiring) (terms : List Term) (old new : FiberLists)
    → OnOk r (HasSums own.add.op terms old new) → own.add.op.kind ≡ semiring.add.op.kind
    → own.add.op.domain ≡ semiring.add.op.domain
    → OnOk r (HasSums semiring.add.op terms old new)
same_runs (Err e) own semiring terms old new here kind domain = tt
same_runs (Ok u) own semiring terms old new here kind domain = record {
  sums = here.sums;
  are_sums = record {
    rising = here.are_sums.rising;
    columns = here.are_sums.columns;
    words = λ col. here.are_sums.words col ∙ rw (kind, domain) refl;
  };
  ends = here.ends;
  inner = here.inner;
  words = here.words;
}
