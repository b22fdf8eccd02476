-- Objects whose edits were done in place, or handed on.
use Rattle.std.proofs.Common.{◌≡◌, ◌≢◌, false, ◌<◌, ◌∙◌, ℕ, [], ◌∷◌, List, Some, Result, Ok, Err, take, refl, sym, ap}
use Rattle.std.specs.Prelude.{IsPermutation, OnErr, OnOk}
use Rattle.std.specs.List.{All}
use Rattle.std.proofs.lemmas.List.Elements.{All-nil, All-take}
use Rattle.std.proofs.lemmas.List.Sorted.{All-permutation}
use Rattle.algebra.specs.Value.{IsWordOf}
use Rattle.calls.specs.Stores.{AreInside, object_with}
use Rattle.model.specs.declared.shape.Signature.{Signature}
use Rattle.model.specs.Object.{Content, IsObject, Object, cols_of, rows_of}
use Rattle.model.proofs.ObjectLaws.{objects_equal}
use Rattle.objects.specs.declared.value.Value.{Value}
use Rattle.objects.specs.declared.value.Value.TheVariants.{New, Here, Both, Open, Failed}
use Rattle.objects.specs.Values.{IsMade, IsValueOf, is_finished_with, map_with, ticket_in}
use Rattle.objects.proofs.WaitingLaws.{edits-keep}
use Rattle.patch.specs.declared.edits.Edit.{Edit}
use Rattle.patch.specs.Edits.{edited, place_of, set_entry}

-- ---- handed on

-- the object of the edits' ticket is the object that was kept
pub patched-object : {T : Type 0} (object_of : T → Object) (of : Signature) (value : Value T) (es : List Edit)
    (t new : T) → ticket_in value ≡ Some t → IsValueOf object_of of value
    → object_of new ≡ object_with of (edited es (object_of t).content)
    → object_with of (object_of new).content ≡ object_with of (map_with object_of es value)
patched-object object_of of New es t new has sound is = absurd (cc)
patched-object object_of of (Here store) es t new has sound is = absurd (cc)
patched-object object_of of Failed es t new has sound is = absurd (cc)
patched-object object_of of (Open ticket) es t new has sound is =
    let same : ticket ≡ t = cc in
    ap (λ (o : Object). object_with of o.content) is ∙ ap (λ u. object_with of (edited es (object_of u).content)) (sym same)
patched-object object_of of (Both store ticket) es t new has sound is =
    let same : ticket ≡ t = cc in
    ap (λ (o : Object). object_with of o.content) is ∙ ap (λ u. object_with of (edited es (object_of u).content)) (sym same)
    ∙ (λ s. object_with of (edited es (λ i j. sound.1.2 i j s)))

-- ---- in place

-- what is true of all edits is true of those that are left
pub left-all : {E : Type 0} (r : Result (Unit {0}) E) (P : Edit → Type 0) (es new : List Edit)
    → OnOk r (new ≡ []) → OnErr r (IsPermutation es new) → All P es → All P new
left-all (Ok done) P es new none left all = rw none (All-nil P)
left-all (Err e) P es new none left all = All-permutation P es new left all

-- the store is that of an object, whether or not all edits were done
pub left-is_object : {E : Type 0} (r : Result (Unit {0}) E) (of : Signature) (es new : List Edit) (old left : Content)
    → OnOk r (new ≡ []) → OnErr r ((n : ℕ) × ((i j : ℕ) → left i j ≡ edited (take n es) old i j))
    → ((i j : ℕ) → edited new left i j ≡ edited es old i j)
    → AreInside (rows_of of.shape) (cols_of of.shape) es → All (λ e. IsWordOf of.domain (set_entry e).word) es
    → IsObject (object_with of old) → IsObject (object_with of left)
left-is_object (Ok done) of es new old left none partly means inside words is =
    let all : (i j : ℕ) → left i j ≡ edited es old i j = rw none at means in
    let same = objects_equal (object_with of left) (object_with of (edited es old)) refl refl all in
    rw same (edits-keep of es inside words old is)
left-is_object (Err e) of es new old left none (n, some) means inside words is =
    let same = objects_equal (object_with of left) (object_with of (edited (take n es) old)) refl refl some in
    rw same (edits-keep of (take n es) (All-take (λ e. ((place_of e).0 < rows_of of.shape) × ((place_of e).1 < cols_of of.shape)) n es inside)
    (All-take (λ e. IsWordOf of.domain (set_entry e).word) n es words) old is)

-- ---- finished

-- what isn't made, or has edits that wait, isn't finished
pub unmade-unfinished : {T : Type 0} (es : List Edit) (value : Value T) → (IsMade value → ⊥)
    → is_finished_with es value ≡ false
unmade-unfinished [] New unmade = refl
unmade-unfinished (e ∷ es) New unmade = refl
unmade-unfinished es (Here store) unmade = absurd (unmade tt)
unmade-unfinished es (Both store ticket) unmade = absurd (unmade tt)
unmade-unfinished es (Open ticket) unmade = absurd (unmade tt)
unmade-unfinished es Failed unmade = absurd (unmade tt)

pub waiting-unfinished : {T : Type 0} (es : List Edit) (value : Value T) → es ≢ [] → is_finished_with es value ≡ false
waiting-unfinished [] value waits = absurd (waits refl)
waiting-unfinished (e ∷ es) New waits = refl
waiting-unfinished (e ∷ es) (Here store) waits = refl
waiting-unfinished (e ∷ es) (Both store ticket) waits = refl
waiting-unfinished (e ∷ es) (Open ticket) waits = refl
waiting-unfinished (e ∷ es) Failed waits = refl
