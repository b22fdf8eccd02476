-- What is written back at every position, of what an operation computes at those that it writes.
use Rattle.std.proofs.Common.{◌≡◌, ◌&&◌, ℕ, true, false, if◌then◌else◌, is_none, is_some, Option, Some, None, refl, inl, inr}
use Rattle.std.specs.Option.{option_map}
use Rattle.std.proofs.lemmas.Bool.{and_parts, cases_Bool}
use Rattle.kernel.specs.Accepts.{Accepts}
use Rattle.kernel.specs.Spread.{computed_in, spread}
use Rattle.model.specs.declared.call.OneInput.TheVariants.{Apply, Select, ReduceRows, Transpose, Extract, Assign}
use Rattle.model.specs.declared.call.Operation.{Operation}
use Rattle.model.specs.declared.call.Operation.TheVariants.{Fill, OfOne, OfTwo}
use Rattle.model.specs.declared.call.Out.{Out}
use Rattle.model.specs.declared.call.Region.{Region}
use Rattle.model.specs.declared.shape.Signature.{Signature}
use Rattle.model.specs.Indices.{are_below, place_in}
use Rattle.model.specs.Object.{Content, Object, cols_of, rows_of, signature_of}
use Rattle.model.specs.Operations.{is_written_by, operation, region_written}
use Rattle.model.specs.Regions.{cols_in, found_at, is_listed, rows_in}
use Rattle.model.specs.Table.{plan_of}

-- ---- outside its region an operation computes nothing

both_found : (c : Content) (row col : Option ℕ) → (is_some row && is_some col) ≡ false → found_at c row col ≡ None
both_found c None col none = refl
both_found c (Some i) None none = refl
both_found c (Some i) (Some j) none = absurd (cc)

unwritten : (c : Signature) (op : Operation Object) (i j : ℕ) → is_written_by c.shape op i j ≡ false
    → operation c op i j ≡ None
unfolding operation
unwritten c (Fill value region) i j none = rw none refl
unwritten c (OfOne (Assign region) a) i j none =
    both_found _ (place_in (rows_of c.shape) (rows_in region) i) (place_in (cols_of c.shape) (cols_in region) j) none
unwritten c (OfOne (Apply function) a) i j none = absurd (cc)
unwritten c (OfOne (Select op scalar) a) i j none = absurd (cc)
unwritten c (OfOne (ReduceRows monoid) a) i j none = absurd (cc)
unwritten c (OfOne Transpose a) i j none = absurd (cc)
unwritten c (OfOne (Extract region) a) i j none = absurd (cc)
unwritten c (OfTwo computes a b) i j none = absurd (cc)

-- the positions that a region names lie inside the output
pub written-low : (c : Signature) (op : Operation Signature) (r : Region) → Accepts (plan_of c op) c
    → region_written op ≡ Some r
    → (are_below (rows_of c.shape) (rows_in r) ≡ true) × (are_below (cols_of c.shape) (cols_in r) ≡ true)
written-low c (Fill value region) r accepts is =
    let same : region ≡ r = cc in rw (← same) (and_parts _ _ accepts.inside)
written-low c (OfOne (Assign region) a) r accepts is =
    let same : region ≡ r = cc in rw (← same) (and_parts _ _ accepts.inside)
written-low c (OfOne (Apply function) a) r accepts is = absurd (cc)
written-low c (OfOne (Select op scalar) a) r accepts is = absurd (cc)
written-low c (OfOne (ReduceRows monoid) a) r accepts is = absurd (cc)
written-low c (OfOne Transpose a) r accepts is = absurd (cc)
written-low c (OfOne (Extract region) a) r accepts is = absurd (cc)
written-low c (OfTwo computes a b) r accepts is = absurd (cc)

-- ---- what is written back

not_none : {A : Type 0} (o : Option A) → is_some o ≡ true → is_none o ≡ false
not_none None some = absurd (cc)
not_none (Some x) some = refl

is_none-none : {A : Type 0} (o : Option A) → is_some o ≡ false → is_none o ≡ true
is_none-none None none = refl
is_none-none (Some x) none = absurd (cc)

cast_none : (f : ℕ → ℕ) (o : Option ℕ) → o ≡ None → option_map f o ≡ None
cast_none f o none = rw none refl

module _ (out : Out Object) (op : Operation Object) where
  -- with an accumulator, what is computed alone
  pub spread-accumulated : is_some out.accum ≡ true → (i j : ℕ) → computed_in out op i j ≡ spread out op i j
  spread-accumulated some i j =
      elim (cases_Bool (is_written_by out.c.shape op i j)) [
        | inl here ↦ rw here refl
        | inr outside ↦
            let nothing : computed_in out op i j ≡ None = cast_none _ (operation (signature_of out.c) op i j) (unwritten (signature_of out.c) op i j outside) in
            rw (outside, not_none out.accum some) nothing
      ]

  -- without a region, what is computed everywhere
  pub spread-everywhere : region_written op ≡ None → (i j : ℕ) → computed_in out op i j ≡ spread out op i j
  spread-everywhere none i j = rw none refl

  -- without an accumulator, what is there outside the region
  pub spread-over : (r : Region) → region_written op ≡ Some r → is_some out.accum ≡ false → (i j : ℕ)
      → (if is_listed (rows_of out.c.shape) (cols_of out.c.shape) (rows_in r) (cols_in r) i j
      then computed_in out op i j
      else out.c.content i j)
      ≡ spread out op i j
  spread-over r is none i j = rw (is, is_none-none out.accum none) refl
