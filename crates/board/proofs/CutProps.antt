-- What is known of tasks that are cut has one proof at most.
use Rattle.std.specs.Prelude.{ℕ, List, Option, Some, None}
use Rattle.std.specs.Coded.{Unit-prop}
use denote.Struct.Props.{props}
use Rattle.kernel.specs.declared.block.Block.{Block}
use Rattle.kernel.specs.declared.block.Block.TheVariants.{Rows, Whole}
use Rattle.kernel.specs.Covers.{IsPartOf}
use Rattle.kernel.specs.Takes.{Takes}
use Rattle.model.specs.declared.shape.Signature.{Signature}
use Rattle.model.specs.Object.{Content}
use Rattle.store.specs.Stored.{Stored}
use Rattle.board.specs.Cuts.{AreCuts, IsCutFor, IsShared}
use Rattle.stages.specs.Progress.{Progress}
use Rattle.stages.specs.Tasks.{Task}
use Rattle.board.specs.declared.cut.Cut.{Cut}
use Rattle.board.specs.declared.cut.Cut.TheVariants as cut
use Rattle.board.specs.declared.cut.CutTask.{CutTask}

takes-prop : (known : Option Signature) (stored : Option Stored) → IsProp (Takes known stored)
takes-prop None None = Unit-prop
takes-prop None (Some stored) = Prim.hlevel props
takes-prop (Some known) None = Prim.hlevel props
takes-prop (Some known) (Some stored) = Prim.hlevel props

part-prop : (cols : ℕ) (c : Content) (block : Block) → IsProp (IsPartOf cols c block)
part-prop cols c (Rows block) = Prim.hlevel props
part-prop cols c (Whole store) = Prim.hlevel props

shared-prop : (ts : List Task) (k : ℕ) (task : CutTask) → IsProp (IsShared ts k task)
shared-prop ts k task = Prim.hlevel (props, takes-prop, part-prop)

cut-prop : (ts : List Task) (p : Option Progress) (k : ℕ) (c : Cut) → IsProp (IsCutFor ts p k c)
cut-prop ts p k (cut.Underway task) = Prim.hlevel (props, shared-prop)
cut-prop ts p k (cut.Joined count) = Prim.hlevel props

pub cuts-prop : (ts : List Task) (ps : List Progress) (cuts : List (Option Cut)) → IsProp (AreCuts ts ps cuts)
cuts-prop ts ps cuts = Prim.hlevel (props, cut-prop)
