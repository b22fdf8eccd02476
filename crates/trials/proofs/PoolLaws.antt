-- Stores of objects that are made entry by entry.
use Rattle.std.proofs.Common.{ℕ, ◌≡◌, ◌<◌, ◌∙◌, sym, subst}
use Rattle.std.specs.Prelude.{None}
use Rattle.algebra.specs.Value.{IsWordOf}
use Rattle.calls.specs.Stores.{IsStoreOf, object_with}
use Rattle.model.specs.declared.shape.Signature.{Signature}
use Rattle.model.specs.Object.{Content, IsObject, cols_of, no_content, rows_of, with_entry}
use Rattle.model.proofs.ObjectLaws.{empty-is_object, entry-is_object}
use Rattle.store.specs.Stored.{Stored, content_of}

-- a store without entries
pub new_is : (of : Signature) (s : Stored) → s.rows ≡ rows_of of.shape → s.cols ≡ cols_of of.shape
    → ((i j : ℕ) → content_of s i j ≡ None) → IsStoreOf of s
new_is of s rows cols none = record {
  rows = rows;
  cols = cols;
  is_object = subst (λ (c : Content). IsObject (object_with of c)) (sym empty) (empty-is_object of.domain of.shape);
}
  where
    empty : content_of s ≡ no_content
    empty = λ x i j. none i j x

-- ..and one more entry
pub set_is : (of : Signature) (s t : Stored) (i j word : ℕ) → IsStoreOf of s
    → i < rows_of of.shape → j < cols_of of.shape → IsWordOf of.domain word → t.rows ≡ s.rows → t.cols ≡ s.cols
    → ((p q : ℕ) → content_of t p q ≡ with_entry (content_of s) i j word p q) → IsStoreOf of t
set_is of s t i j word is low left small rows cols content = record {
  rows = rows ∙ is.rows;
  cols = cols ∙ is.cols;
  is_object = subst (λ (c : Content). IsObject (object_with of c)) (sym same)
      (entry-is_object (object_with of (content_of s)) i j word is.is_object low left small);
}
  where
    same : content_of t ≡ with_entry (content_of s) i j word
    same = λ x p q. content p q x
