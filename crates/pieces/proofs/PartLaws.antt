-- Lists of parts, and a part that comes to another place in its life.
use Rattle.std.proofs.Common.{◌≡◌, ◌≢◌, ◌∙◌, ℕ, zero, suc, ◌<◌, ◌+◌, true, false, List, [], ◌∷◌, ◌++◌, length, replicate, take, arith}
use Rattle.std.proofs.Common.{Some, slice_get, slice_set, add-one, drop, refl, sym, ap}
use Rattle.std.proofs.lemmas.Bool.{false≢true}
use Rattle.kernel.specs.declared.block.Block.{Block}
use Rattle.pieces.specs.declared.part.Part.{Part}
use Rattle.pieces.specs.declared.part.Part.TheVariants.{Due, Given, Joined}
use Rattle.pieces.specs.Parts.{all_given, blocks_in, is_due_at, is_given, to_come, was_given_at}

-- what stands at j after a change at k
pub get_set : {A P : Type 0} (xs : List A) (k j : ℕ) (x y : A) → slice_get (slice_set xs k x) j ≡ Some y
    → (j ≡ k → x ≡ y → P) → (j ≢ k → slice_get xs j ≡ Some y → P) → P
get_set [] k j x y h same other = absurd cc
get_set (z ∷ xs) zero zero x y h same other = same refl (cc (h))
get_set (z ∷ xs) zero (suc j) x y h same other = other (λ e. absurd (omega (arith, e))) h
get_set (z ∷ xs) (suc k) zero x y h same other = other (λ e. absurd (omega (arith, e))) h
get_set (z ∷ xs) (suc k) (suc j) x y h same other =
    get_set xs k j x y h (λ e. same (ap suc e)) (λ ne. other (λ e. ne (omega (arith, e))))

pub get_set_other : {A : Type 0} (xs : List A) (k j : ℕ) (x : A) → j ≢ k → slice_get (slice_set xs k x) j ≡ slice_get xs j
get_set_other [] k j x h = refl
get_set_other (z ∷ xs) zero zero x h = absurd (h refl)
get_set_other (z ∷ xs) zero (suc j) x h = refl
get_set_other (z ∷ xs) (suc k) zero x h = refl
get_set_other (z ∷ xs) (suc k) (suc j) x h = get_set_other xs k j x (λ e. h (ap suc e))

pub length_set : {A : Type 0} (xs : List A) (k : ℕ) (x : A) → length (slice_set xs k x) ≡ length xs
length_set [] k x = refl
length_set (z ∷ xs) zero x = refl
length_set (z ∷ xs) (suc k) x = ap suc (length_set xs k x)

pub get_replicate : {A : Type 0} (n k : ℕ) (x : A) → k < n → slice_get (replicate n x) k ≡ Some x
get_replicate zero k x h = absurd (omega arith)
get_replicate (suc n) zero x h = refl
get_replicate (suc n) (suc k) x h = get_replicate n k x (omega arith)

pub take_first : {A : Type 0} (xs ys : List A) (n : ℕ) → n ≡ length xs → take n (xs ++ ys) ≡ xs
take_first [] ys zero h = refl
take_first [] ys (suc n) h = absurd (omega (arith, h))
take_first (x ∷ xs) ys zero h = absurd (omega (arith, h))
take_first (x ∷ xs) ys (suc n) h = ap (◌∷◌ x) (take_first xs ys n (omega (arith, h)))

-- a piece for which nothing was given
pub due_there : (ps : List Part) (k : ℕ) → k < length ps → was_given_at ps k ≡ false → slice_get ps k ≡ Some Due
due_there [] k h none = absurd (omega arith)
due_there (Due ∷ ps) zero h none = refl
due_there (Given block ∷ ps) zero h none = absurd cc
due_there (Joined ∷ ps) zero h none = absurd cc
due_there (p ∷ ps) (suc k) h none = due_there ps k (omega arith) none

pub due_at : (ps : List Part) (k : ℕ) → slice_get ps k ≡ Some Due → is_due_at ps k ≡ true
due_at [] k is = absurd cc
due_at (Due ∷ ps) zero is = refl
due_at (Given block ∷ ps) zero is = absurd cc
due_at (Joined ∷ ps) zero is = absurd cc
due_at (p ∷ ps) (suc k) is = due_at ps k is

-- a block that is given is one less to come
pub to_come_put : (ps : List Part) (k : ℕ) (block : Block) → slice_get ps k ≡ Some Due
    → to_come (slice_set ps k (Given block)) + 1 ≡ to_come ps
to_come_put [] k block is = absurd cc
to_come_put (Due ∷ ps) zero block is = refl
to_come_put (Given b ∷ ps) zero block is = absurd cc
to_come_put (Joined ∷ ps) zero block is = absurd cc
to_come_put (Due ∷ ps) (suc k) block is = omega (arith, to_come_put ps k block is)
to_come_put (Given b ∷ ps) (suc k) block is = to_come_put ps k block is
to_come_put (Joined ∷ ps) (suc k) block is = to_come_put ps k block is

pub to_come_due : (n : ℕ) → to_come (replicate n Due) ≡ n
to_come_due zero = refl
to_come_due (suc n) = omega (arith, to_come_due n)

pub to_come_joined : (n : ℕ) → to_come (replicate n Joined) ≡ 0
to_come_joined zero = refl
to_come_joined (suc n) = to_come_joined n

pub some_due : (ps : List Part) → 0 < to_come ps → all_given ps ≡ false
some_due [] h = absurd (omega arith)
some_due (Due ∷ ps) h = refl
some_due (Given block ∷ ps) h = some_due ps h
some_due (Joined ∷ ps) h = refl

pub none_due : (ps : List Part) → ((k : ℕ) → slice_get ps k ≡ Some Joined → ⊥) → to_come ps ≡ 0 → all_given ps ≡ true
none_due [] none h = refl
none_due (Due ∷ ps) none h = absurd (omega (arith, h))
none_due (Given block ∷ ps) none h = none_due ps (λ k. none (suc k)) h
none_due (Joined ∷ ps) none h = absurd (none 0 refl)

pub given_not_due : (ps : List Part) (k : ℕ) → all_given ps ≡ true → slice_get ps k ≡ Some Due → ⊥
given_not_due [] k all is = absurd cc
given_not_due (Due ∷ ps) k all is = absurd cc
given_not_due (Joined ∷ ps) k all is = absurd cc
given_not_due (Given block ∷ ps) zero all is = absurd cc
given_not_due (Given block ∷ ps) (suc k) all is = given_not_due ps k all is

pub joined_open : (n : ℕ) → 0 < n → all_given (replicate n Joined) ≡ false
joined_open zero h = absurd (omega arith)
joined_open (suc n) h = refl

pub due_open : (n : ℕ) → 0 < n → all_given (replicate n Due) ≡ false
due_open zero h = absurd (omega arith)
due_open (suc n) h = refl

-- ---- blocks that are handed out

pub blocks_more : (ps : List Part) (k : ℕ) (block : Block) → slice_get ps k ≡ Some (Given block)
    → blocks_in (take (k + 1) ps) ≡ blocks_in (take k ps) ++ block ∷ []
blocks_more ps k block is = rw add-one (go ps k is)
  where
    go : (qs : List Part) (j : ℕ) → slice_get qs j ≡ Some (Given block) → blocks_in (take (suc j) qs) ≡ blocks_in (take j qs) ++ block ∷ []
    go [] j at = absurd cc
    go (Given b ∷ qs) zero at = let e : b ≡ block = cc (at) in ap (λ c. c ∷ []) e
    go (Due ∷ qs) zero at = absurd cc
    go (Joined ∷ qs) zero at = absurd cc
    go (Given b ∷ qs) (suc j) at = ap (◌∷◌ b) (go qs j at)
    go (Due ∷ qs) (suc j) at = go qs j at
    go (Joined ∷ qs) (suc j) at = go qs j at

pub blocks_same : (ps : List Part) (k : ℕ) (part : Part) → slice_get ps k ≡ Some part → is_given part ≡ false
    → blocks_in (take (k + 1) ps) ≡ blocks_in (take k ps)
blocks_same ps k part is other = rw add-one (go ps k is)
  where
    go : (qs : List Part) (j : ℕ) → slice_get qs j ≡ Some part → blocks_in (take (suc j) qs) ≡ blocks_in (take j qs)
    go [] j at = absurd cc
    go (Given b ∷ qs) zero at = let e : Given b ≡ part = cc (at) in absurd (false≢true (sym other ∙ ap is_given (sym e)))
    go (Due ∷ qs) zero at = refl
    go (Joined ∷ qs) zero at = refl
    go (Given b ∷ qs) (suc j) at = ap (◌∷◌ b) (go qs j at)
    go (Due ∷ qs) (suc j) at = go qs j at
    go (Joined ∷ qs) (suc j) at = go qs j at

-- one part more is joined
pub joined_more : (ps : List Part) (k : ℕ) → k < length ps
    → slice_set (replicate k Joined ++ drop k ps) k Joined ≡ replicate (k + 1) Joined ++ drop (k + 1) ps
joined_more ps k low = rw add-one (go ps k low)
  where
    go : (qs : List Part) (j : ℕ) → j < length qs → slice_set (replicate j Joined ++ drop j qs) j Joined ≡ replicate (suc j) Joined ++ drop (suc j) qs
    go [] j h = absurd (omega arith)
    go (q ∷ qs) zero h = refl
    go (q ∷ qs) (suc j) h = ap (◌∷◌ Joined) (go qs j (omega arith))

-- what stands behind those that are joined
pub behind_joined : (ps : List Part) (k : ℕ) → k < length ps → slice_get (replicate k Joined ++ drop k ps) k ≡ slice_get ps k
behind_joined [] k h = absurd (omega arith)
behind_joined (p ∷ ps) zero h = refl
behind_joined (p ∷ ps) (suc k) h = behind_joined ps k (omega arith)

pub not_given : (part : Part) → ((block : Block) → part ≡ Given block → ⊥) → is_given part ≡ false
not_given Due h = refl
not_given (Given block) h = absurd (h block refl)
not_given Joined h = refl

-- there is a block of each part where all were given
pub each_block : (parts : List Part) → all_given parts ≡ true → length (blocks_in parts) ≡ length parts
each_block [] all = refl
each_block (Due ∷ parts) all = absurd cc
each_block (Joined ∷ parts) all = absurd cc
each_block (Given block ∷ parts) all = ap suc (each_block parts all)
