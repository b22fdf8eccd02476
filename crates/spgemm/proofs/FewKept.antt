-- Sums of products of which only those at columns that are kept are added.
use Rattle.std.proofs.Common.{◌≡◌, ℕ, ◌+◌, ◌<◌, Bool, List, [], ◌∷◌, ◌++◌, get_or, length, take, refl, sym, ◌∙◌, ap, subst, append_assoc}
use Rattle.std.specs.List.{All}
use Rattle.std.proofs.lemmas.List.Elements.{All-head, All-tail, filter-append}
use Rattle.algebra.specs.declared.binary.BinaryOp.{BinaryOp}
use Rattle.model.specs.declared.entry.Entry.{Entry}
use Rattle.terms.specs.declared.term.Term.{Term}
use Rattle.spgemm.specs.Dense.{AreColumnSums}
use Rattle.terms.specs.Terms.{apply, kept_terms, term_at, times_row}
use Rattle.spgemm.proofs.SlotSums.{more_terms}

-- terms behind others that are kept
pub kept_append : (op : BinaryOp) (keeps : ℕ → Bool) (before ts us : List Term) (bits words : List ℕ)
    → AreColumnSums op ((before ++ kept_terms keeps ts) ++ kept_terms keeps us) bits words
    → AreColumnSums op (before ++ kept_terms keeps (ts ++ us)) bits words
kept_append op keeps before ts us bits words here =
    subst (λ terms. AreColumnSums op terms bits words)
    (append_assoc before (kept_terms keeps ts) (kept_terms keeps us) ∙ ap (λ terms. before ++ terms) (sym (filter-append (λ (t : Term). keeps t.col) ts us))) here

-- a product more
pub kept_more : (op mul : BinaryOp) (keeps : ℕ → Bool) (before : List Term) (word : ℕ) (row : List Entry) (k : ℕ)
    (e : Entry) (bits words : List ℕ) → get_or row k e ≡ e → k < length row
    → AreColumnSums op ((before ++ kept_terms keeps (times_row mul word (take k row)))
    ++ kept_terms keeps (term_at e.col (apply mul word e.word) ∷ [])) bits words
    → AreColumnSums op (before ++ kept_terms keeps (times_row mul word (take (k + 1) row))) bits words
kept_more op mul keeps before word row k e bits words this within here =
    let more : times_row mul word (take k row) ++ term_at e.col (apply mul word e.word) ∷ [] ≡ times_row mul word (take (k + 1) row) = rw this at (more_terms mul [] word row k e within) in
    subst (λ ts. AreColumnSums op (before ++ kept_terms keeps ts) bits words) more
    (kept_append op keeps before (times_row mul word (take k row)) (term_at e.col (apply mul word e.word) ∷ []) bits words here)

-- terms at columns below a bound, of which two tests keep the same columns
pub kept_alike : (f g : ℕ → Bool) (past : ℕ) (terms : List Term) → ((at : ℕ) → at < past → f at ≡ g at)
    → All (λ t. t.col < past) terms → kept_terms f terms ≡ kept_terms g terms
kept_alike f g past [] same below = refl
kept_alike f g past (t ∷ ts) same below =
    rw (same t.col (All-head (λ t. t.col < past) t ts below), kept_alike f g past ts same (All-tail (λ t. t.col < past) t ts below)) refl
