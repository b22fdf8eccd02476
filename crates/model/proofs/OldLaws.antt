-- An operation that doesn't read what its output has leaves the same whatever that is; and the region that it writes
-- doesn't depend on how its objects are named.
use Rattle.std.proofs.Common.{◌≡◌, ℕ, Bool, true, false, ◌||◌, is_some, Option, Some, None, refl}
use Rattle.model.specs.declared.call.Desc.{Desc}
use Rattle.model.specs.declared.call.Operation.{Operation}
use Rattle.model.specs.declared.call.Operation.TheVariants.{Fill, OfOne, OfTwo}
use Rattle.model.specs.declared.call.Out.{Out}
use Rattle.model.specs.Object.{Content, Object}
use Rattle.model.specs.Operations.{region_written}
use Rattle.model.specs.Renamed.{out_over, renamed_operation}
use Rattle.model.specs.Table.{transposed}
use Rattle.model.specs.WriteBack.{reads_old, result_of}

pub region-renamed : {K L : Type 0} (f : K → L) (op : Operation K)
    → region_written (renamed_operation f op) ≡ region_written op
region-renamed f (Fill value region) = refl
region-renamed f (OfOne computes a) = refl
region-renamed f (OfTwo computes a b) = refl

pub region-transposed : {K : Type 0} (transpose : K → K) (desc : Desc) (op : Operation K)
    → region_written (transposed transpose desc op) ≡ region_written op
region-transposed transpose desc (Fill value region) = refl
region-transposed transpose desc (OfOne computes a) = refl
region-transposed transpose desc (OfTwo computes a b) = refl

none_of : (a b c d : Bool) → (a || b || c || d) ≡ false → (a ≡ false) × (b ≡ false) × (c ≡ false) × (d ≡ false)
none_of true b c d h = absurd (cc)
none_of false true c d h = absurd (cc)
none_of false false true d h = absurd (cc)
none_of false false false true h = absurd (cc)
none_of false false false false h = (refl, refl, refl, refl)

absent : {X : Type 0} (o : Option X) → is_some o ≡ false → o ≡ None
absent None h = refl
absent (Some x) h = absurd (cc)

-- the output with another map
abbrev pub with_old : Out Object → Content → Out Object
with_old out old = out_over out (record out.c { content = old }) out.mask

pub old-unread : (out : Out Object) (inputs : Operation Object) (old : Content) → reads_old out inputs ≡ false
    → (i j : ℕ) → result_of (with_old out old) inputs i j ≡ result_of out inputs i j
unfolding result_of
old-unread out inputs old h i j =
    let none = none_of (is_some out.mask) out.desc.complement (is_some out.accum) (is_some (region_written inputs)) h in
    rw (absent out.mask none.0, none.1, absent out.accum none.2, absent (region_written inputs) none.3) refl
