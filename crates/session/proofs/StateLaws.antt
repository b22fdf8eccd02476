-- Objects by number with their marks, one of which is changed.
use Rattle.std.proofs.Common.{◌≡◌, ◌∙◌, ℕ, Bool, true, false, refl, sym, ap, inl, inr, arith}
use Rattle.std.specs.Prelude.{if◌then◌else◌, []}
use Rattle.std.proofs.lemmas.Bool.{cases_Bool}
use Rattle.std.proofs.lemmas.Bool.Decides.{nat_tests}
use Rattle.calls.specs.declared.obj.Obj.{Obj}
use Rattle.calls.specs.Stores.{object_with}
use Rattle.model.specs.declared.shape.Signature.{Signature}
use Rattle.model.specs.Marks.{Open, State, Told, put_off, with_mark}
use Rattle.model.specs.Object.{IsObject, Object, no_content, signature_of}
use Rattle.model.specs.Run.{Environment, object_at, with_content, with_object}
use Rattle.model.proofs.EnvironmentLaws.{environments_equal}
use Rattle.objects.specs.declared.value.Value.{Value}
use Rattle.objects.specs.declared.value.Value.TheVariants as value
use Rattle.objects.specs.Tables.{same_object}
use Rattle.objects.specs.Values.{map_with, mark_with}
use Rattle.session.specs.Deferred.{IsPutOff, unless_told}

-- ---- values that are put off

same-self : (o : Obj) → same_object o o ≡ true
same-self o = grind (arith, nat_tests)

object-put : (env : Environment Obj) (name : Obj) (o : Object) (count : ℕ)
    → object_at (with_object same_object env name o count) name ≡ o
object-put env name o count = rw (same-self name) refl

-- an object that was put in a place, put there once more
put-twice : (env : Environment Obj) (name : Obj) (o p : Object) (count : ℕ)
    → with_object same_object env name p count
    ≡ with_object same_object (with_object same_object env name o count) name p count
put-twice env name o p count =
    environments_equal (with_object same_object env name p count) (with_object same_object (with_object same_object env name o count) name p count)
    (λ q. elim (cases_Bool (same_object name q)) [
      | inl same ↦ rw same refl
      | inr apart ↦ rw apart refl
    ])
    refl

-- what an object is made of failed: it has no entries, and was told to have failed
failed-put : (s : State Obj) (name : Obj) (o : Object) (count : ℕ)
    → with_object same_object s.environment name (record o { content = no_content }) count
    ≡ with_content same_object (with_object same_object s.environment name o count) name no_content
failed-put s name o count =
    put-twice s.environment name o (record o { content = no_content }) count
    ∙ ap (λ (p : Object). with_object same_object (with_object same_object s.environment name o count) name (let q : Object = record p { content = no_content } in q) count) (sym (object-put s.environment name o count))

pub put_off-put : (s : State Obj) (name : Obj) (o : Object) (count : ℕ) (is_told : Bool)
    → with_mark same_object s (with_object same_object s.environment name (unless_told is_told o) count) name (if is_told then Told else Open)
    ≡ put_off same_object s (with_object same_object s.environment name o count) name is_told
put_off-put s name o count false = refl
put_off-put s name o count true = ap (λ (env : Environment Obj). with_mark same_object s env name Told) (failed-put s name o count)

-- the value of what is put off, in its place
pub later-put : {T : Type 0} (object_of : T → Object) (s : State Obj) (name : Obj) (o : Object) (count : ℕ)
    (is_told : Bool) (v : Value T) (of : Signature) → IsPutOff object_of is_told o v → of ≡ signature_of o
    → with_mark same_object s (with_object same_object s.environment name (object_with of (map_with object_of [] v)) count) name (mark_with [] v)
    ≡ put_off same_object s (with_object same_object s.environment name o count) name is_told
later-put object_of s name o count is_told v of is known =
    ap (λ (k : Signature). with_mark same_object s (with_object same_object s.environment name (object_with k (map_with object_of [] v)) count) name (mark_with [] v)) known
    ∙ (λ t. with_mark same_object s (with_object same_object s.environment name (is.object t) count) name (is.mark t))
    ∙ put_off-put s name o count is_told

-- ..of which a ticket was given
pub open-later : {T : Type 0} (object_of : T → Object) (o : Object) (t : T) (is_told : Bool) → is_told ≡ false
    → object_of t ≡ o → IsObject (object_of t) → IsPutOff object_of is_told o (value.Open t)
open-later object_of o t is_told untold is object =
    rw untold (record {
      is_value = (tt, (object, ap signature_of is, tt));
      object = ap (λ (p : Object). object_with (signature_of o) p.content) is;
      mark = refl;
    })

-- ..which failed
pub failed-later : {T : Type 0} (object_of : T → Object) (o : Object) (is_told : Bool) → is_told ≡ true
    → IsPutOff object_of is_told o value.Failed
failed-later object_of o is_told told = rw told (record { is_value = (tt, tt); object = refl; mark = refl })
