-- A recipe that transposes no input gives of turned inputs what its operation gives of the inputs.
use Rattle.std.proofs.Common.{◌≡◌, ◌∙◌, ℕ, ◌&&◌, ◌||◌, Bool, true, false, if◌then◌else◌, is_some, Option, Some, None, refl, sym, ap}
use Rattle.std.specs.Option.{option_and_then, option_map}
use Rattle.std.proofs.lemmas.Bool.{and_parts}
use Rattle.algebra.specs.declared.kinds.BinaryKind.{BinaryKind}
use Rattle.algebra.specs.declared.operator_names.SemiringName.{SemiringName}
use Rattle.calls.specs.declared.turns.Turns.{Turns}
use Rattle.calls.specs.declared.turns.Turns.TheVariants.{Transposed, Exchanged}
use Rattle.calls.specs.declared.role.Role.{Role}
use Rattle.calls.specs.declared.role.Role.TheVariants.{Old, Mask, First, Second}
use Rattle.calls.specs.Recipes.{known_by_role, meaning, operation_with, out_with}
use Rattle.calls.specs.Stores.{object_with}
use Rattle.calls.specs.Roles.{first_of, second_of}
use Rattle.calls.specs.Straight.{straight_out}
use Rattle.calls.specs.Turned.{AreMatrices, exchanged, flipped_form, flipped_kind, multiplying_by, turned, turns_of}
use Rattle.calls.proofs.ExchangedLaws.{accepted-fits, fault-alike, result-alike}
use Rattle.calls.proofs.StraightLaws.{straight-fault, straight-result}
use Rattle.model.specs.declared.call.Desc.{Desc}
use Rattle.model.specs.declared.call.Form.{Form}
use Rattle.model.specs.declared.call.Operation.{Operation}
use Rattle.model.specs.declared.call.Operation.TheVariants.{Fill, OfOne, OfTwo}
use Rattle.model.specs.declared.call.Out.{Out}
use Rattle.model.specs.declared.call.Region.{Region}
use Rattle.model.specs.declared.call.TwoInputs.TheVariants.{Multiply}
use Rattle.model.specs.declared.shape.Shape.{Shape}
use Rattle.model.specs.declared.shape.Shape.TheVariants.{One, Two}
use Rattle.model.specs.declared.shape.Signature.{Signature}
use Rattle.model.specs.Fault.{operation_fault}
use Rattle.model.specs.Object.{Content, is_matrix, transposed_content, transposed_object, transposed_signature}
use Rattle.model.specs.Renamed.{out_over}
use Rattle.model.specs.Table.{transposed, transposed_if, transposes_one}
use Rattle.model.specs.Operations.{region_written}
use Rattle.model.specs.WriteBack.{result_of}
use Rattle.model.proofs.OldLaws.{region-transposed}
use Rattle.model.proofs.ObjectLaws.{objects_equal}

-- ---- what isn't turned

turned_old : {T : Type 0} (transpose : T → T) (turns : Turns) (of : Role → T)
    → turned transpose turns of Old ≡ of Old
turned_old transpose (Transposed first second) of = refl
turned_old transpose Exchanged of = refl

turned_mask : {T : Type 0} (transpose : T → T) (turns : Turns) (of : Role → T)
    → turned transpose turns of Mask ≡ of Mask
turned_mask transpose (Transposed first second) of = refl
turned_mask transpose Exchanged of = refl

-- the output, on the same maps
out_turned : (out : Out Signature) (turns : Turns) (maps : Role → Content)
    → out_with (straight_out out) (turned transposed_content turns maps) ≡ straight_out (out_with out maps)
out_turned out turns maps = λ t.
    straight_out (out_over out (object_with out.c (turned_old transposed_content turns maps t))
    (option_map (λ mask. object_with mask (turned_mask transposed_content turns maps t)) out.mask))

-- ---- inputs that are transposed first

pub object_turned : (flag : Bool) (s : Signature) (map : Content)
    → object_with (transposed_if transposed_signature flag s)
    (transposed_if transposed_content (flag && is_matrix s.shape) map)
    ≡ transposed_if transposed_object flag (object_with s map)
object_turned true s map = objects_equal _ _ refl refl (λ i j. refl)
object_turned false s map = refl

operation_turned : (desc : Desc) (op : Operation Signature) (maps : Role → Content)
    → operation_with (transposed transposed_signature desc op) (turned transposed_content (turns_of desc op) maps)
    ≡ transposed transposed_object desc (operation_with op maps)
operation_turned desc (Fill value region) maps = refl
operation_turned desc (OfOne computes a) maps =
    λ t. OfOne computes (object_turned (transposes_one computes desc) a (maps First) t)
operation_turned desc (OfTwo computes a b) maps =
    λ t. OfTwo computes (object_turned desc.transpose_first a (maps First) t) (object_turned desc.transpose_second b (maps Second) t)

pub meaning-transposed : (out : Out Signature) (op : Operation Signature) (maps : Role → Content) (i j : ℕ)
    → meaning (straight_out out) (transposed transposed_signature out.desc op)
    (turned transposed_content (turns_of out.desc op) maps) i j ≡ meaning out op maps i j
meaning-transposed out op maps i j =
    (λ t. result_of (out_turned out (turns_of out.desc op) maps t) (operation_turned out.desc op maps t) i j)
    ∙ straight-result (out_with out maps) (operation_with op maps) i j

pub accepted-transposed : (out : Out Signature) (op : Operation Signature) → operation_fault out op ≡ None
    → operation_fault (straight_out out) (transposed transposed_signature out.desc op) ≡ None
accepted-transposed out op accepted = straight-fault out op ∙ accepted

signature_turned : (flag : Bool) (s : Signature)
    → Some (transposed_if transposed_signature flag s)
    ≡ transposed_if (option_map transposed_signature) (flag && is_matrix s.shape) (Some s)
signature_turned false s = refl
signature_turned true s = of_shape s.shape where
  of_shape : (shape : Shape) → let t : Signature = record s { shape = shape } in
      Some (transposed_signature t) ≡ transposed_if (option_map transposed_signature) (is_matrix shape) (Some t)
  of_shape (One n) = refl
  of_shape (Two m n) = refl

-- the output is read, or isn't, by what writes a region or doesn't
old_same : (out : Out Signature) (op other : Operation Signature) → region_written other ≡ region_written op
    → known_by_role (straight_out out) other Old ≡ known_by_role out op Old
old_same out op other same =
    ap (λ (region : Option Region). if (is_some out.mask || out.desc.complement || is_some out.accum || is_some region) then Some out.c else None) same

pub known-transposed : (out : Out Signature) (op : Operation Signature) (role : Role)
    → known_by_role (straight_out out) (transposed transposed_signature out.desc op) role
    ≡ turned (option_map transposed_signature) (turns_of out.desc op) (known_by_role out op) role
known-transposed out op Old =
    old_same out op (transposed transposed_signature out.desc op) (region-transposed transposed_signature out.desc op)
    ∙ sym (turned_old (option_map transposed_signature) (turns_of out.desc op) (known_by_role out op))
known-transposed out op Mask = sym (turned_mask (option_map transposed_signature) (turns_of out.desc op) (known_by_role out op))
known-transposed out (Fill value region) First = refl
known-transposed out (Fill value region) Second = refl
known-transposed out (OfOne computes a) First = signature_turned (transposes_one computes out.desc) a
known-transposed out (OfOne computes a) Second = refl
known-transposed out (OfTwo computes a b) First = signature_turned out.desc.transpose_first a
known-transposed out (OfTwo computes a b) Second = signature_turned out.desc.transpose_second b

pub matrices-transposed : (out : Out Signature) (op : Operation Signature)
    → AreMatrices (turns_of out.desc op) (known_by_role out op)
matrices-transposed out (Fill value region) = (λ is. absurd (cc), λ is. absurd (cc))
matrices-transposed out (OfOne computes a) =
    (λ is. (and_parts (transposes_one computes out.desc) (is_matrix a.shape) is).1, λ is. absurd (cc))
matrices-transposed out (OfTwo computes a b) = (
  λ is. (and_parts out.desc.transpose_first (is_matrix a.shape) is).1,
  λ is. (and_parts out.desc.transpose_second (is_matrix b.shape) is).1,
)

-- ---- factors in exchanged order

-- a product whose factors can be exchanged, and the product of these
pub record IsProduct (desc : Desc) (op other : Operation Signature) : Type 0 where
  pub form : Form
  pub flipped : Form
  pub semiring : SemiringName
  pub kind : BinaryKind
  pub a : Signature
  pub b : Signature
  pub form_is : flipped_form form desc ≡ Some flipped
  pub kind_is : flipped_kind semiring.multiply ≡ Some kind
  pub op_is : op ≡ OfTwo (Multiply form semiring) a b
  pub other_is : OfTwo (Multiply flipped (multiplying_by semiring kind)) b a ≡ other

product_parts : (form : Form) (semiring : SemiringName) (desc : Desc) (a b : Signature) (other : Operation Signature)
    (flipped : Option Form) (kind : Option BinaryKind)
    → flipped_form form desc ≡ flipped → flipped_kind semiring.multiply ≡ kind
    → option_and_then (λ form. option_map (λ semiring. OfTwo (Multiply form semiring) b a)
    (option_map (multiplying_by semiring) kind)) flipped ≡ Some other
    → IsProduct desc (OfTwo (Multiply form semiring) a b) other
product_parts form semiring desc a b other None kind form_is kind_is is = absurd (cc)
product_parts form semiring desc a b other (Some flipped) None form_is kind_is is = absurd (cc)
product_parts form semiring desc a b other (Some flipped) (Some kind) form_is kind_is is = record {
  form = form;
  flipped = flipped;
  semiring = semiring;
  kind = kind;
  a = a;
  b = b;
  form_is = form_is;
  kind_is = kind_is;
  op_is = refl;
  other_is = cc;
}

is_product : (desc : Desc) (op other : Operation Signature) → exchanged desc op ≡ Some other → IsProduct desc op other
is_product desc (OfTwo (Multiply form semiring) a b) other is =
    product_parts form semiring desc a b other (flipped_form form desc) (flipped_kind semiring.multiply) refl refl is
is_product desc _ other is = absurd (cc)

module _ (out : Out Signature) (op other : Operation Signature) (is : exchanged out.desc op ≡ Some other)
    (accepted : operation_fault out op ≡ None) where
  abbrev product : IsProduct out.desc op other
  product = is_product out.desc op other is

  known_accepted : operation_fault out (OfTwo (Multiply product.form product.semiring) product.a product.b) ≡ None
  known_accepted = ap (λ (o : Operation Signature). operation_fault out o) (sym product.op_is) ∙ accepted

  pub accepted-exchanged : operation_fault (straight_out out) other ≡ None
  accepted-exchanged =
      ap (λ (o : Operation Signature). operation_fault (straight_out out) o) (sym product.other_is)
      ∙ fault-alike product.semiring product.kind product.kind_is out product.form product.flipped product.a product.b
      product.form_is known_accepted

  pub meaning-exchanged : (maps : Role → Content) (i j : ℕ)
      → meaning (straight_out out) other (turned transposed_content Exchanged maps) i j ≡ meaning out op maps i j
  meaning-exchanged maps i j =
      let fits = accepted-fits out product.form product.semiring product.a product.b known_accepted in
      ap (λ (o : Operation Signature). meaning (straight_out out) o (turned transposed_content Exchanged maps) i j)
      (sym product.other_is)
      ∙ result-alike product.semiring product.kind product.kind_is (out_with out maps) product.form product.flipped
      (object_with product.a (maps First)) (object_with product.b (maps Second)) product.form_is fits i j
      ∙ ap (λ (o : Operation Signature). meaning out o maps i j) (sym product.op_is)

  pub known-exchanged : (role : Role) → known_by_role (straight_out out) other role
      ≡ turned (option_map transposed_signature) Exchanged (known_by_role out op) role
  known-exchanged Old =
      old_same out op other (ap (λ (o : Operation Signature). region_written o) (sym product.other_is)
      ∙ ap (λ (o : Operation Signature). region_written o) (sym product.op_is))
  known-exchanged Mask = refl
  known-exchanged First =
      ap (λ (o : Operation Signature). first_of o) (sym product.other_is)
      ∙ ap (λ (o : Operation Signature). second_of o) (sym product.op_is)
  known-exchanged Second =
      ap (λ (o : Operation Signature). second_of o) (sym product.other_is)
      ∙ ap (λ (o : Operation Signature). first_of o) (sym product.op_is)
