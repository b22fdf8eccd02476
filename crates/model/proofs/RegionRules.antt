-- Laws of transposes, regions and shapes.
use Rattle.std.proofs.Common.{◌≡◌, ◌∙◌, ℕ, ◌&&◌, Bool, true, false, cond, if◌then◌else◌, Option, None, refl, sym, inl, inr}
use Rattle.std.specs.Prelude.{nat_lt}
use Rattle.std.proofs.lemmas.Bool.{cases_Bool}
use Rattle.model.specs.declared.call.OneInput.TheVariants.{Assign}
use Rattle.model.specs.declared.call.Operation.TheVariants.{OfOne}
use Rattle.model.specs.declared.call.Out.{Out}
use Rattle.model.specs.declared.call.Region.TheVariants as region
use Rattle.model.specs.Indices.{All}
use Rattle.model.specs.Object.{Content, IsWithin, Object, cast_content, cols_of, rows_of, transposed_content}
use Rattle.model.specs.Operations.{operation}
use Rattle.model.specs.Regions.{cut_to, extracted, is_listed, placed}
use Rattle.model.specs.WriteBack.{result_of}

-- transposing twice is nothing
pub transposed_twice : (c : Content) (i j : ℕ) → transposed_content (transposed_content c) i j ≡ c i j
transposed_twice c i j = refl

-- all rows and columns of a map are the map
pub extracted-all : (m n : ℕ) (c : Content) → IsWithin m n c → (i j : ℕ) → extracted m n All All c i j ≡ c i j
extracted-all m n c within i j =
    elim (cases_Bool (nat_lt i m)) [
      | inl low ↦ elim (cases_Bool (nat_lt j n)) [
        | inl first ↦ rw (low, first) refl
        | inr past ↦ rw (low, past) (sym (within i j (rw (low, past) refl)))
      ]
      | inr past ↦ rw past (sym (within i j (rw past refl)))
    ]

-- a map that is put at all rows and columns is the map
pub placed-all : (m n : ℕ) (c : Content) → IsWithin m n c → (i j : ℕ) → placed m n All All c i j ≡ c i j
placed-all m n c within i j = extracted-all m n c within i j

listed-all : (m n i j : ℕ) → is_listed m n All All i j ≡ (nat_lt i m && nat_lt j n)
listed-all m n i j =
    elim (cases_Bool (nat_lt i m)) [
      | inl low ↦ elim (cases_Bool (nat_lt j n)) [ inl first ↦ rw (low, first) refl | inr past ↦ rw (low, past) refl ]
      | inr past ↦ rw past refl
    ]

-- where all positions are written, and neither map has anything outside them
chosen : (here : Bool) (new old : Option ℕ) → (here ≡ false → new ≡ None) → (here ≡ false → old ≡ None)
    → cond here new old ≡ new
chosen true new old none gone = refl
chosen false new old none gone = gone refl ∙ sym (none refl)

-- to assign to all rows and columns without mask and accumulator is to replace
pub assign-all : (out : Out Object) (a : Object) → out.mask ≡ None → out.accum ≡ None → out.desc.complement ≡ false
    → out.desc.transpose_first ≡ false
    → IsWithin (rows_of out.c.shape) (cols_of out.c.shape) out.c.content
    → IsWithin (rows_of out.c.shape) (cols_of out.c.shape) a.content
    → (i j : ℕ)
    → result_of out (OfOne (Assign (region.Two All All)) a) i j ≡ cast_content a.domain out.c.domain a.content i j
unfolding result_of operation
assign-all out a no_mask no_accum plain straight old new i j =
    let m = rows_of out.c.shape in
    let n = cols_of out.c.shape in
    rw (no_mask, no_accum, plain, straight, listed-all m n i j, placed-all m n a.content new i j)
    (chosen (nat_lt i m && nat_lt j n) (cast_content a.domain out.c.domain a.content i j) (out.c.content i j)
    (λ outside. rw (new i j outside) refl) (old i j))

-- one shape and then another keep what fits both
pub cut-twice : (m n k l : ℕ) (c : Content) (i j : ℕ)
    → cut_to m n (cut_to k l c) i j ≡ (if (nat_lt i m && nat_lt j n) && (nat_lt i k && nat_lt j l) then c i j else None)
cut-twice m n k l c i j = elim (cases_Bool (nat_lt i m && nat_lt j n)) [ inl inside ↦ rw inside refl | inr outside ↦ rw outside refl ]
