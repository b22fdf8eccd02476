-- Calls under one naming and then another are calls under both at once, and a call on what its names stand for is the
-- call under any look-up that agrees with them.
use Rattle.std.proofs.Common.{◌≡◌, ◌∙◌, false, is_none, Option, None, Some, ap, refl, sym}
use Rattle.std.specs.Option.{option_and_then, option_map}
use Rattle.model.specs.declared.call.Call.{Call}
use Rattle.model.specs.declared.call.Call.TheVariants.{Create, Dup, On, Operate}
use Rattle.model.specs.declared.call.Operation.{Operation}
use Rattle.model.specs.declared.call.Operation.TheVariants.{Fill, OfOne, OfTwo}
use Rattle.model.specs.declared.call.Out.{Out}
use Rattle.model.specs.Renamed.{found, found_mask, found_operation, found_out, out_over, renamed, renamed_operation, renamed_out}

twice : {K L M : Type 0} (f : K → L) (g : L → M) (mask : Option K)
    → option_map g (option_map f mask) ≡ option_map (λ k. g (f k)) mask
twice f g None = refl
twice f g (Some k) = refl

pub out_twice : {K L M : Type 0} (f : K → L) (g : L → M) (out : Out K)
    → renamed_out g (renamed_out f out) ≡ renamed_out (λ k. g (f k)) out
out_twice {M = M} f g out = ap (λ (mask : Option M). let o : Out M = record { c = g (f out.c); mask = mask; accum = out.accum; desc = out.desc } in o) (twice f g out.mask)

pub operation_twice : {K L M : Type 0} (f : K → L) (g : L → M) (operation : Operation K)
    → renamed_operation g (renamed_operation f operation) ≡ renamed_operation (λ k. g (f k)) operation
operation_twice f g (Fill value region) = refl
operation_twice f g (OfOne computes a) = refl
operation_twice f g (OfTwo computes a b) = refl

pub renamed_twice : {K L M A B C : Type 0} (f : K → L) (g : L → M) (h : A → B) (k : B → C) (call : Call K A)
    → renamed g k (renamed f h call) ≡ renamed (λ x. g (f x)) (λ n. k (h n)) call
renamed_twice f g h k (Create name domain shape) = refl
renamed_twice f g h k (Dup name o) = refl
renamed_twice f g h k (On o act) = refl
renamed_twice {M = M} {C = C} f g h k (Operate out operation) =
    ap (λ (o : Out M). let c : Call M C = Operate o (renamed_operation g (renamed_operation f operation)) in c) (out_twice f g out)
    ∙ ap (λ (o : Operation M). let c : Call M C = Operate (renamed_out (λ x. g (f x)) out) o in c) (operation_twice f g operation)

-- ---- what names stand for

-- a look-up gives for each name what it stands for, where it stands for something
abbrev pub Agrees : {K X : Type 0} → (K → Option X) → (K → X) → Type 0
Agrees {K = K} {X = X} known at = (k : K) (x : X) → known k ≡ Some x → x ≡ at k

mask_at : {K X : Type 0} (known : K → Option X) (at : K → X) → Agrees known at → (mask : Option K) (found : Option X)
    → found_mask (option_map known mask) ≡ Some found → found ≡ option_map at mask
mask_at known at agrees None found is = cc
mask_at {X = X} known at agrees (Some k) found is = go (known k) refl is where
  go : (x : Option X) → known k ≡ x → option_map Some x ≡ Some found → found ≡ Some (at k)
  go None eq is = absurd (cc)
  go (Some x) eq is = let same : found ≡ Some x = cc in same ∙ ap Some (agrees k x eq)

pub out_at : {K X : Type 0} (known : K → Option X) (at : K → X) → Agrees known at → (out : Out K) (found : Out X)
    → found_out (renamed_out known out) ≡ Some found → found ≡ renamed_out at out
out_at {X = X} known at agrees out found is =
    go (known out.c) refl (found_mask (option_map known out.mask)) refl is where
      go : (c : Option X) → known out.c ≡ c → (mask : Option (Option X)) → found_mask (option_map known out.mask) ≡ mask
          → option_and_then (λ c. option_map (out_over out c) mask) c ≡ Some found → found ≡ renamed_out at out
      go None eq mask masked is = absurd (cc)
      go (Some c) eq None masked is = absurd (cc)
      go (Some c) eq (Some mask) masked is =
          let same : found ≡ out_over out c mask = cc in
          same ∙ (λ i. out_over out (agrees out.c c eq i) (mask_at known at agrees out.mask mask masked i))

pub operation_at : {K X : Type 0} (known : K → Option X) (at : K → X) → Agrees known at → (op : Operation K)
    (found : Operation X) → found_operation (renamed_operation known op) ≡ Some found → found ≡ renamed_operation at op
operation_at known at agrees (Fill value region) found is = cc
operation_at {X = X} known at agrees (OfOne computes a) found is = go (known a) refl is where
  go : (x : Option X) → known a ≡ x → option_map (OfOne computes) x ≡ Some found → found ≡ OfOne computes (at a)
  go None eq is = absurd (cc)
  go (Some x) eq is = let same : found ≡ OfOne computes x = cc in same ∙ ap (OfOne computes) (agrees a x eq)
operation_at {X = X} known at agrees (OfTwo computes a b) found is = go (known a) refl (known b) refl is where
  go : (x : Option X) → known a ≡ x → (y : Option X) → known b ≡ y
      → option_and_then (λ a. option_map (OfTwo computes a) y) x ≡ Some found → found ≡ OfTwo computes (at a) (at b)
  go None eq y eqs is = absurd (cc)
  go (Some x) eq None eqs is = absurd (cc)
  go (Some x) eq (Some y) eqs is =
      let same : found ≡ OfTwo computes x y = cc in
      same ∙ (λ i. OfTwo computes (agrees a x eq i) (agrees b y eqs i))

call_at : {K X M N : Type 0} (known : K → Option X) (at : K → X) (g : M → N) → Agrees known at → (call : Call K M)
    (c : Call X N) → found (renamed known g call) ≡ Some c → c ≡ renamed at g call
call_at known at g agrees (Create name domain shape) c is = cc
call_at {X = X} known at g agrees (Dup name o) c is = go (known o) refl is where
  go : (x : Option X) → known o ≡ x → option_map (Dup (g name)) x ≡ Some c → c ≡ Dup (g name) (at o)
  go None eq is = absurd (cc)
  go (Some x) eq is = let same : c ≡ Dup (g name) x = cc in same ∙ ap (Dup (g name)) (agrees o x eq)
call_at {X = X} {N = N} known at g agrees (On o act) c is = go (known o) refl is where
  on : X → Call X N
  on x = On x act

  go : (x : Option X) → known o ≡ x → option_map on x ≡ Some c → c ≡ on (at o)
  go None eq is = absurd (cc)
  go (Some x) eq is = let same : c ≡ on x = cc in same ∙ ap on (agrees o x eq)
call_at {X = X} {N = N} known at g agrees (Operate out op) c is =
    go (found_out (renamed_out known out)) refl (found_operation (renamed_operation known op)) refl is where
      operate : Out X → Operation X → Call X N
      operate out op = Operate out op

      go : (o : Option (Out X)) → found_out (renamed_out known out) ≡ o
          → (p : Option (Operation X)) → found_operation (renamed_operation known op) ≡ p
          → option_and_then (λ out. option_map (operate out) p) o ≡ Some c
          → c ≡ operate (renamed_out at out) (renamed_operation at op)
      go None eq p eqs is = absurd (cc)
      go (Some o) eq None eqs is = absurd (cc)
      go (Some o) eq (Some p) eqs is =
          let same : c ≡ operate o p = cc in
          same ∙ (λ i. operate (out_at known at agrees out o eq i) (operation_at known at agrees op p eqs i))

-- a call whose names all stand for something is the call under the look-up
pub found_at : {K X M N : Type 0} (known : K → Option X) (at : K → X) (g : M → N) → Agrees known at
    → (call : Call K M) → is_none (found (renamed known g call)) ≡ false
    → found (renamed known g call) ≡ Some (renamed at g call)
found_at {X = X} {N = N} known at g agrees call there = go (found (renamed known g call)) refl there where
  go : (c : Option (Call X N)) → found (renamed known g call) ≡ c → is_none c ≡ false → c ≡ Some (renamed at g call)
  go None eq there = absurd (cc)
  go (Some c) eq there = ap Some (call_at known at g agrees call c eq)

-- ---- what is found stands under the names

pub some_out : {X : Type 0} (names : Out (Option X)) (out : Out X) → Some out ≡ found_out names
    → renamed_out Some out ≡ names
some_out {X = X} names out is = go names.c refl names.mask refl is where
  go : (c : Option X) → names.c ≡ c → (mask : Option (Option X)) → names.mask ≡ mask
      → Some out ≡ option_and_then (λ c. option_map (out_over names c) (found_mask mask)) c → renamed_out Some out ≡ names
  go None first mask second is = absurd (cc)
  go (Some c) first None second is =
      let same : out ≡ out_over names c None = cc in
      ap (λ (o : Out X). renamed_out Some o) same ∙ (λ i. out_over names (sym first i) (sym second i))
  go (Some c) first (Some None) second is = absurd (cc)
  go (Some c) first (Some (Some m)) second is =
      let same : out ≡ out_over names c (Some m) = cc in
      ap (λ (o : Out X). renamed_out Some o) same ∙ (λ i. out_over names (sym first i) (sym second i))

pub some_operation : {X : Type 0} (names : Operation (Option X)) (op : Operation X) → Some op ≡ found_operation names
    → renamed_operation Some op ≡ names
some_operation {X = X} (Fill value region) op is =
    let same : op ≡ Fill value region = cc in ap (λ (o : Operation X). renamed_operation Some o) same
some_operation (OfOne computes None) op is = absurd (cc)
some_operation {X = X} (OfOne computes (Some a)) op is =
    let same : op ≡ OfOne computes a = cc in ap (λ (o : Operation X). renamed_operation Some o) same
some_operation (OfTwo computes None b) op is = absurd (cc)
some_operation (OfTwo computes (Some a) None) op is = absurd (cc)
some_operation {X = X} (OfTwo computes (Some a) (Some b)) op is =
    let same : op ≡ OfTwo computes a b = cc in ap (λ (o : Operation X). renamed_operation Some o) same

pub found_some : {X N : Type 0} (names : Call (Option X) N) (call : Call X N) → Some call ≡ found names
    → renamed Some (λ n. n) call ≡ names
found_some {X = X} {N = N} (Create name domain shape) call is =
    let same : call ≡ Create name domain shape = cc in
    ap (λ (c : Call X N). let r : Call (Option X) N = renamed Some (λ n. n) c in r) same
found_some (Dup name None) call is = absurd (cc)
found_some {X = X} {N = N} (Dup name (Some o)) call is =
    let same : call ≡ Dup name o = cc in
    ap (λ (c : Call X N). let r : Call (Option X) N = renamed Some (λ n. n) c in r) same
found_some (On None act) call is = absurd (cc)
found_some {X = X} {N = N} (On (Some o) act) call is =
    let same : call ≡ On o act = cc in
    ap (λ (c : Call X N). let r : Call (Option X) N = renamed Some (λ n. n) c in r) same
found_some {X = X} {N = N} (Operate out op) call is = go (found_out out) refl (found_operation op) refl is where
  go : (o : Option (Out X)) → found_out out ≡ o → (p : Option (Operation X)) → found_operation op ≡ p
      → Some call ≡ option_and_then (λ out. option_map (λ op. let c : Call X N = Operate out op in c) p) o
      → renamed Some (λ n. n) call ≡ Operate out op
  go None first p second is = absurd (cc)
  go (Some o) first None second is = absurd (cc)
  go (Some o) first (Some p) second is =
      let same : call ≡ Operate o p = cc in
      ap (λ (c : Call X N). let r : Call (Option X) N = renamed Some (λ n. n) c in r) same
      ∙ (λ i. Operate (some_out out o (sym first) i) (some_operation op p (sym second) i))

-- ---- where a name stands for nothing, nothing is found further on

bound_none : {A B : Type 0} (f : A → Option B) (o : Option A) → ((a : A) → f a ≡ None) → option_and_then f o ≡ None
bound_none f None all = refl
bound_none f (Some a) all = all a

mapped_none : {A B : Type 0} (f : A → B) (o : Option A) → o ≡ None → option_map f o ≡ None
mapped_none f None is = refl
mapped_none f (Some a) is = absurd (cc)

fewer_mask : {K X Y : Type 0} (f : K → Option X) (g : Option X → Option Y) → g None ≡ None → (mask : Option K)
    → found_mask (option_map f mask) ≡ None → found_mask (option_map (λ k. g (f k)) mask) ≡ None
fewer_mask f g none None h = absurd (cc)
fewer_mask {X = X} f g none (Some m) h = go (f m) h where
  go : (x : Option X) → option_map Some x ≡ None → option_map Some (g x) ≡ None
  go None h = rw none refl
  go (Some x) h = absurd (cc)

fewer_out : {K X Y : Type 0} (f : K → Option X) (g : Option X → Option Y) → g None ≡ None → (out : Out K)
    → found_out (renamed_out f out) ≡ None → found_out (renamed_out (λ k. g (f k)) out) ≡ None
fewer_out {X = X} {Y = Y} f g none out h = go (f out.c) refl (found_mask (option_map f out.mask)) refl h where
  go : (x : Option X) → f out.c ≡ x → (m : Option (Option X)) → found_mask (option_map f out.mask) ≡ m
      → option_and_then (λ c. option_map (out_over out c) m) x ≡ None → found_out (renamed_out (λ k. g (f k)) out) ≡ None
  go None first m second h = rw (first, none) refl
  go (Some x) first None second h = bound_none _ (g (f out.c))
      (λ (c : Y). mapped_none (out_over out c) (found_mask (option_map (λ k. g (f k)) out.mask)) (fewer_mask f g none out.mask second))
  go (Some x) first (Some m) second h = absurd (cc)

fewer_operation : {K X Y : Type 0} (f : K → Option X) (g : Option X → Option Y) → g None ≡ None → (op : Operation K)
    → found_operation (renamed_operation f op) ≡ None → found_operation (renamed_operation (λ k. g (f k)) op) ≡ None
fewer_operation f g none (Fill value region) h = absurd (cc)
fewer_operation {X = X} f g none (OfOne computes a) h = go (f a) h where
  go : (x : Option X) → option_map (OfOne computes) x ≡ None → option_map (OfOne computes) (g x) ≡ None
  go None h = rw none refl
  go (Some x) h = absurd (cc)
fewer_operation {X = X} {Y = Y} f g none (OfTwo computes a b) h = go (f a) (f b) h where
  go : (x y : Option X) → option_and_then (λ a. option_map (OfTwo computes a) y) x ≡ None
      → option_and_then (λ a. option_map (OfTwo computes a) (g y)) (g x) ≡ None
  go None y h = rw none refl
  go (Some x) None h = bound_none _ (g (Some x)) (λ (a : Y). mapped_none (OfTwo computes a) (g None) none)
  go (Some x) (Some y) h = absurd (cc)

pub found_fewer : {K X Y A B C : Type 0} (f : K → Option X) (g : Option X → Option Y) → g None ≡ None → (h : A → B)
    (k : A → C) (call : Call K A) → found (renamed f h call) ≡ None → found (renamed (λ k. g (f k)) k call) ≡ None
found_fewer f g none h k (Create name domain shape) is = absurd (cc)
found_fewer {X = X} f g none h k (Dup name o) is = go (f o) is where
  go : (x : Option X) → option_map (Dup (h name)) x ≡ None → option_map (Dup (k name)) (g x) ≡ None
  go None is = rw none refl
  go (Some x) is = absurd (cc)
found_fewer {X = X} {Y = Y} {B = B} {C = C} f g none h k (On o act) is = go (f o) is where
  go : (x : Option X) → found {N = B} (On x act) ≡ None → found {N = C} (On (g x) act) ≡ None
  go None is = rw none refl
  go (Some x) is = absurd (cc)
found_fewer {X = X} {Y = Y} {B = B} {C = C} f g none h k (Operate out op) is =
    go (found_out (renamed_out f out)) refl (found_operation (renamed_operation f op)) refl is where
      operate : {N : Type 0} → Option (Operation Y) → Out Y → Option (Call Y N)
      operate {N = N} op out = option_map (λ op. let c : Call Y N = Operate out op in c) op

      go : (o : Option (Out X)) → found_out (renamed_out f out) ≡ o → (p : Option (Operation X))
          → found_operation (renamed_operation f op) ≡ p
          → option_and_then (λ out. option_map (λ op. let c : Call X B = Operate out op in c) p) o ≡ None
          → option_and_then (operate {N = C} (found_operation (renamed_operation (λ k. g (f k)) op))) (found_out (renamed_out (λ k. g (f k)) out)) ≡ None
      go None first p second is = rw (fewer_out f g none out first) refl
      go (Some o) first None second is = bound_none _ (found_out (renamed_out (λ k. g (f k)) out))
          (λ (out : Out Y). mapped_none _ (found_operation (renamed_operation (λ k. g (f k)) op)) (fewer_operation f g none op second))
      go (Some o) first (Some p) second is = absurd (cc)
