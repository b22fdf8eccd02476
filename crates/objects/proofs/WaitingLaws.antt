-- Edits of an object of which one more waits.
use Rattle.std.proofs.Common.{◌≡◌, ℕ, arith, ◌∷◌, ◌++◌, [], List, Result, Ok, Err, sym, subst, ap}
use Rattle.std.specs.Prelude.{◌<◌, OnErr, OnOk}
use Rattle.std.specs.List.{All}
use Rattle.std.proofs.lemmas.List.Elements.{All-head, All-push, All-tail, All-weaker}
use Rattle.std.proofs.lemmas.List.Sums.{fold-append}
use Rattle.algebra.specs.declared.domain.Domain.{Domain}
use Rattle.algebra.specs.declared.domain.Domain.TheVariants.{Bool, Int64, Uint64, User}
use Rattle.algebra.specs.Value.{IsWordOf}
use Rattle.calls.specs.Stores.{AreInside, object_with}
use Rattle.model.specs.declared.shape.Signature.{Signature}
use Rattle.model.specs.Object.{Content, IsObject, Object, cols_of, rows_of}
use Rattle.model.proofs.ObjectLaws.{entry-is_object, without-is_object}
use Rattle.objects.specs.Waiting.{IsEditOf, edited_object}
use Rattle.patch.specs.declared.edits.Edit.{Edit}
use Rattle.patch.specs.declared.edits.Edit.TheVariants.{Set, Remove}
use Rattle.patch.specs.Edits.{IsInside, edited, edited_once, place_of, set_entry}

inside_by_place : (rows cols : ℕ) (e : Edit) → ((place_of e).0 < rows) × ((place_of e).1 < cols) → IsInside rows cols e
inside_by_place rows cols (Set i j word) is = is
inside_by_place rows cols (Remove i j) is = is

place_by_inside : (rows cols : ℕ) (e : Edit) → IsInside rows cols e → ((place_of e).0 < rows) × ((place_of e).1 < cols)
place_by_inside rows cols (Set i j word) is = is
place_by_inside rows cols (Remove i j) is = is

word_of_edit : (domain : Domain) (e : Edit) → IsEditOf domain e → IsWordOf domain (set_entry e).word
word_of_edit domain (Set i j word) is = is
word_of_edit Bool (Remove i j) is = omega arith
word_of_edit Int64 (Remove i j) is = omega arith
word_of_edit Uint64 (Remove i j) is = omega arith
word_of_edit (User n) (Remove i j) is = omega arith

edit_by_word : (domain : Domain) (e : Edit) → IsWordOf domain (set_entry e).word → IsEditOf domain e
edit_by_word domain (Set i j word) is = is
edit_by_word domain (Remove i j) is = tt

-- edits are inside where their positions are
pub all_inside : (rows cols : ℕ) (es : List Edit) → AreInside rows cols es → All (IsInside rows cols) es
all_inside rows cols es = All-weaker (λ e. ((place_of e).0 < rows) × ((place_of e).1 < cols)) (IsInside rows cols) (inside_by_place rows cols) es

-- one more edit inside an object, whether or not there was memory for it
pub pushed-inside : {T E : Type 0} (r : Result T E) (es new : List Edit) (rows cols : ℕ) (e : Edit)
    → OnOk r (new ≡ es ++ e ∷ []) → OnErr r (new ≡ es)
    → IsInside rows cols e → AreInside rows cols es → AreInside rows cols new
pushed-inside (Ok x) es new rows cols e pushed left here inside = subst (AreInside rows cols) (sym pushed) (All-push (λ f. ((place_of f).0 < rows) × ((place_of f).1 < cols)) es e inside (place_by_inside rows cols e here))
pushed-inside (Err x) es new rows cols e pushed left here inside = subst (AreInside rows cols) (sym left) inside

-- an object after one edit inside it
edited-is_object : (o : Object) (e : Edit) → IsObject o → IsInside (rows_of o.shape) (cols_of o.shape) e
    → IsEditOf o.domain e → IsObject (edited_object o e)
edited-is_object o (Set i j word) is inside small = entry-is_object o i j word is inside.0 inside.1 small
edited-is_object o (Remove i j) is inside small = without-is_object o i j is

-- ..which is done last
pub edited-last : (of : Signature) (es : List Edit) (map : Content) (e : Edit)
    → object_with of (edited (es ++ e ∷ []) map) ≡ edited_object (object_with of (edited es map)) e
edited-last of es map e = ap (object_with of) (fold-append edited_once map es (e ∷ []))

-- one more edit of a word of the domain
pub pushed-words : {T E : Type 0} (r : Result T E) (domain : Domain) (es new : List Edit) (e : Edit)
    → OnOk r (new ≡ es ++ e ∷ []) → OnErr r (new ≡ es) → IsEditOf domain e
    → All (λ f. IsWordOf domain (set_entry f).word) es → All (λ f. IsWordOf domain (set_entry f).word) new
pushed-words (Ok x) domain es new e pushed left small words =
    subst (All (λ f. IsWordOf domain (set_entry f).word)) (sym pushed) (All-push (λ f. IsWordOf domain (set_entry f).word) es e words (word_of_edit domain e small))
pushed-words (Err x) domain es new e pushed left small words =
    subst (All (λ f. IsWordOf domain (set_entry f).word)) (sym left) words

-- edits inside an object, of words of its domain, keep it one
pub edits-keep : (of : Signature) (es : List Edit) → AreInside (rows_of of.shape) (cols_of of.shape) es
    → All (λ e. IsWordOf of.domain (set_entry e).word) es → (map : Content) → IsObject (object_with of map)
    → IsObject (object_with of (edited es map))
edits-keep of [] inside words map is = is
edits-keep of (e ∷ es) inside words map is =
    edits-keep of es (All-tail (λ e. ((place_of e).0 < rows_of of.shape) × ((place_of e).1 < cols_of of.shape)) e es inside)
    (All-tail (λ e. IsWordOf of.domain (set_entry e).word) e es words) (edited_once map e)
    (edited-is_object (object_with of map) e is
    (inside_by_place (rows_of of.shape) (cols_of of.shape) e (All-head (λ e. ((place_of e).0 < rows_of of.shape) × ((place_of e).1 < cols_of of.shape)) e es inside))
    (edit_by_word of.domain e (All-head (λ e. IsWordOf of.domain (set_entry e).word) e es words)))
