-- Objects that list the entries of maps.
use Rattle.std.proofs.Common.{◌≡◌, ◌∙◌, ℕ, ◌&&◌, Bool, true, false, cond, Option, None, refl, sym, ap}
use Rattle.std.specs.Prelude.{nat_lt}
use Rattle.model.specs.declared.shape.Signature.{Signature}
use Rattle.model.specs.Entries.{entries_of}
use Rattle.model.specs.Object.{Content, IsWithin, Object, cols_of, rows_of, signature_of}
use Rattle.model.specs.Regions.{cut_to}
use Rattle.model.proofs.ObjectLaws.{objects_equal}
use Rattle.plain.specs.declared.objects.PlainObject.{PlainObject}
use Rattle.plain.specs.Evaluated.{object_of}
use Rattle.plain.proofs.GridLaws.{listed-cut}

uncut : (test : Bool) (v : Option ℕ) → (test ≡ false → v ≡ None) → v ≡ cond test v None
uncut true v none = refl
uncut false v none = none refl

-- a map that has nothing outside a shape is what the shape leaves of it
pub whole : (rows cols : ℕ) (c : Content) → IsWithin rows cols c → (i j : ℕ) → c i j ≡ cut_to rows cols c i j
whole rows cols c inside i j = uncut (nat_lt i rows && nat_lt j cols) (c i j) (inside i j)

-- an object that lists the entries of a map inside its shape has what the shape leaves of the map
pub object-listed : (o : PlainObject) (p : Object) (c : Content) → signature_of (object_of o) ≡ signature_of p
    → o.entries.items ≡ entries_of (rows_of o.shape) (cols_of o.shape) c
    → ((i j : ℕ) → p.content i j ≡ cut_to (rows_of p.shape) (cols_of p.shape) c i j) → object_of o ≡ p
object-listed o p c known lists cut =
    let same_shape : o.shape ≡ p.shape = ap (λ (s : Signature). s.shape) known in
    objects_equal (object_of o) p (ap (λ (s : Signature). s.domain) known) same_shape
    (λ i j. rw (lists, same_shape) (listed-cut (rows_of p.shape) (cols_of p.shape) c i j ∙ sym (cut i j)))
