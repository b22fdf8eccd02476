-- What is known of work that is out has one proof at most; and what blocks are of.
use Rattle.std.proofs.Common.{◌≡◌, ℕ}
use Rattle.std.specs.Prelude.{List, [], ◌∷◌, Option, Some, None}
use Rattle.std.specs.Coded.{Unit-prop}
use denote.Struct.Props.{props}
use Rattle.desk.specs.Works.{IsWork}
use Rattle.kernel.specs.Covers.{Covers, IsPartOf}
use Rattle.kernel.specs.declared.block.Block.{Block}
use Rattle.kernel.specs.declared.block.Block.TheVariants.{Rows, Whole}
use Rattle.kernel.specs.Pieces.{cols_in}
use Rattle.kernel.specs.Takes.{Takes}
use Rattle.model.specs.declared.shape.Signature.{Signature}
use Rattle.model.specs.Object.{Content, Object, cols_of}
use Rattle.tasks.specs.Outcomes.{IsOutcomeOf}
use Rattle.tasks.specs.declared.work.Outcome.{Outcome}
use Rattle.tasks.specs.declared.work.Outcome.TheVariants.{Joined, Made, Part, Refused}
use Rattle.store.specs.Stored.{Stored}
use Rattle.board.specs.declared.piece.Piece.{Piece}

takes-prop : (known : Option Signature) (stored : Option Stored) → IsProp (Takes known stored)
takes-prop None None = Unit-prop
takes-prop None (Some stored) = Prim.hlevel props
takes-prop (Some known) None = Prim.hlevel props
takes-prop (Some known) (Some stored) = Prim.hlevel props

pub work-prop : (piece : Piece) → IsProp (IsWork piece)
work-prop piece = Prim.hlevel (props, takes-prop)

part-prop : (cols : ℕ) (c : Content) (block : Block) → IsProp (IsPartOf cols c block)
part-prop cols c (Rows block) = Prim.hlevel props
part-prop cols c (Whole store) = Prim.hlevel props

pub outcome-prop : (o : Object) (outcome : Outcome) → IsProp (IsOutcomeOf o outcome)
outcome-prop o (Made store) = Prim.hlevel props
outcome-prop o (Joined store) = Prim.hlevel props
outcome-prop o (Part block) = part-prop (cols_of o.shape) o.content block
outcome-prop o Refused = Unit-prop

pub covers-prop : (from past : ℕ) (blocks : List Block) → IsProp (Covers from past blocks)
unfolding Covers
covers-prop from past [] = Prim.hlevel props
covers-prop from past (Rows block ∷ blocks) = let rest = covers-prop block.past past blocks in Prim.hlevel (props, rest)
covers-prop from past (Whole store ∷ blocks) = λ x y. absurd x

-- a block of a map has its columns
pub part_cols : (cols : ℕ) (c : Content) (block : Block) → IsPartOf cols c block → cols_in block ≡ cols
part_cols cols c (Rows block) is = is.cols_are
part_cols cols c (Whole store) is = is.0
