-- Outside BOOL a monoid's laws hold of every word.
use Rattle.std.proofs.Common.{◌≡◌, ◌∙◌, ◌<◌, ◌^◌, ◌++◌, ℕ, List, false, get_or, subst, true}
use Rattle.std.specs.List.{All}
use Rattle.std.proofs.lemmas.List.{get_or_default}
use Rattle.algebra.specs.declared.domain.Domain.{Domain}
use Rattle.algebra.specs.declared.domain.Domain.TheVariants as domain
use Rattle.algebra.specs.declared.kinds.BinaryKind.{BinaryKind}
use Rattle.algebra.specs.declared.kinds.MonoidKind.{MonoidKind}
use Rattle.algebra.specs.Operators.{combines_by, eval_of, offers}
use Rattle.algebra.specs.Value.{IsWordOf, is_boolean}
use Rattle.algebra.proofs.Sums.{fold-two}
use Rattle.lanes.specs.Lists.{fold_of}

are_words : (d : Domain) (words : List ℕ) → is_boolean d ≡ false → All (λ word. word < 2 ^ 64) words
    → All (IsWordOf d) words
are_words domain.Bool words other small = absurd (cc)
are_words domain.Int64 words other small = small
are_words domain.Uint64 words other small = small
are_words (domain.User n) words other small = small

pub are_small : (words : List ℕ) → ((k : ℕ) → get_or words k 0 < 2 ^ 64) → All (λ word. word < 2 ^ 64) words
are_small words small = λ k e within. subst (λ w. w < 2 ^ 64) (get_or_default words k 0 e within) (small k)

-- what is made of the sums of two lists is the sum of both, one behind the other
pub fold_parted : (kind : MonoidKind) (op : BinaryKind) (d : Domain) (front back : List ℕ) {first second made : ℕ}
    → op ≡ combines_by kind → offers op d ≡ true → is_boolean d ≡ false → All (λ word. word < 2 ^ 64) back
    → first ≡ fold_of kind d front → second ≡ fold_of kind d back
    → made ≡ eval_of op d first second → made ≡ fold_of kind d (front ++ back)
fold_parted kind op d front back by offered other small one two is =
    is ∙ rw (one, two, by) (fold-two kind d front back (rw by at offered) (are_words d back other small))

-- the same of a list of 64-bit words
pub fold_made : (kind : MonoidKind) (op : BinaryKind) (d : Domain) (front back words : List ℕ) {first second made : ℕ}
    → op ≡ combines_by kind → offers op d ≡ true → is_boolean d ≡ false → ((k : ℕ) → get_or back k 0 < 2 ^ 64)
    → words ≡ front ++ back → first ≡ fold_of kind d front → second ≡ fold_of kind d back
    → made ≡ eval_of op d first second → made ≡ fold_of kind d words
fold_made kind op d front back words by offered other small whole one two is =
    rw (whole) (fold_parted kind op d front back by offered other (are_small back small) one two is)
