-- What is left at a position, case by case.
use Rattle.std.proofs.Common.{◌≡◌, ℕ, Bool, true, false, not, cond, Option, Some, None, refl, sym}
use Rattle.std.specs.Option.{option_map}
use Rattle.algebra.specs.OperatorNames.{op_named}
use Rattle.algebra.specs.declared.binary.BinaryOp.{BinaryOp}
use Rattle.algebra.specs.declared.operator_names.OpName.{OpName}
use Rattle.model.specs.WriteBack.{accumulated}
use Rattle.masks.specs.declared.join.Joining.{Joining}
use Rattle.masks.specs.declared.join.Joining.TheVariants.{Accumulate, Right}
use Rattle.masks.specs.Joins.{alone_of, join_word}
use Rattle.masks.specs.Writes.{written_at}

-- an accumulator joins
pub joined_accumulated : (op : BinaryOp) (old t : Option ℕ)
    → join_word (Accumulate op) old t ≡ accumulated (op_named op) old t
joined_accumulated op None None = refl
joined_accumulated op None (Some word) = refl
joined_accumulated op (Some word) None = refl
joined_accumulated op (Some word) (Some other) = refl

-- a side without a word
pub left_only : (by : Joining) (left right : Option ℕ) → right ≡ None
    → option_map (alone_of by) left ≡ join_word by left right
left_only by None right none = rw none refl
left_only by (Some word) right none = rw none refl

pub right_only : (by : Joining) (left right : Option ℕ) → left ≡ None
    → option_map (alone_of by) right ≡ join_word by left right
right_only by left None none = rw none refl
right_only by left (Some word) none = rw none refl

-- a side without a word, where the other's stays as it is
pub left_alone : (by : Joining) (left right : Option ℕ) → ((word : ℕ) → alone_of by word ≡ word) → right ≡ None
    → left ≡ join_word by left right
left_alone by None right same none = rw none refl
left_alone by (Some word) right same none = rw (none, same word) refl

pub right_alone : (by : Joining) (left right : Option ℕ) → ((word : ℕ) → alone_of by word ≡ word) → left ≡ None
    → right ≡ join_word by left right
right_alone by left None same none = rw none refl
right_alone by left (Some word) same none = rw (none, same word) refl

-- accumulated into nothing
pub into_nothing : (op : OpName) (old t : Option ℕ) → old ≡ None → t ≡ accumulated op old t
into_nothing op old None none = rw none refl
into_nothing op old (Some word) none = rw none refl

pub nothing_accumulated : (op : OpName) (old : Option ℕ) → old ≡ accumulated op old None
nothing_accumulated op None = refl
nothing_accumulated op (Some word) = refl

-- what was there outside the mask set, beside what was computed inside
pub beside : (is_in others : Bool) (old t : Option ℕ) → others ≡ not is_in → (is_in ≡ false → t ≡ None)
    → join_word Right (cond others old None) t ≡ written_at None false is_in old t
beside true others old None is none = rw is refl
beside true others old (Some word) is none = rw is refl
beside false others None t is none = rw (is, none refl) refl
beside false others (Some word) t is none = rw (is, none refl) refl

-- what was computed counts inside the mask set alone
pub inside_written : (is_in : Bool) (old t : Option ℕ)
    → written_at None false is_in old (cond is_in t None) ≡ written_at None false is_in old t
inside_written true old t = refl
inside_written false old t = refl

pub none_outside : (is_in : Bool) (word t : Option ℕ) → word ≡ cond is_in t None → is_in ≡ false → word ≡ None
none_outside true word t is out = cc
none_outside false word t is out = is

-- what is accumulated inside the mask set, and nothing outside
pub accumulated_inside : (op : BinaryOp) (is_in : Bool) (old t : Option ℕ)
    → join_word (Accumulate op) (cond is_in old None)
    (cond is_in t None) ≡ written_at (Some (op_named op)) true is_in old t
accumulated_inside op true old t = joined_accumulated op old t
accumulated_inside op false old t = refl

-- what is accumulated where it was computed inside the mask set
pub inside_accumulated : (op : OpName) (is_in : Bool) (old t : Option ℕ)
    → accumulated op old (cond is_in t None) ≡ written_at (Some op) false is_in old t
inside_accumulated op true old t = refl
inside_accumulated op false old t = sym (nothing_accumulated op old)

-- what a complement does with whether a mask has a position
pub complemented : (complement has : Bool) → cond (not complement) (not has) has ≡ not (cond complement (not has) has)
complemented true true = refl
complemented true false = refl
complemented false has = refl
