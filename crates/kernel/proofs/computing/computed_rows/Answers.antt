-- Outside the region of what is computed, what is there stays.
use Rattle.std.proofs.Common.{◌≡◌, ◌∙◌, true, Option, Some, None, rules, sym}
use Rattle.kernel.specs.declared.task.Task.{Task}
use Rattle.kernel.specs.Blocks.{IsUnder}
use Rattle.kernel.specs.Inputs.{known_of, object_of}
use Rattle.kernel.specs.Spread.{computed_in, spread}
use Rattle.kernel.specs.Tasks.{operation_of, out_of}
use Rattle.kernel.proofs.Accepted.{task-accepts}
use Rattle.kernel.proofs.MaskLaws.{agrees-same, if_over, no-product, no-region}
use Rattle.kernel.proofs.Spread.{spread-accumulated, spread-everywhere, spread-over, written-low}
use Rattle.model.specs.declared.call.Region.{Region}
use Rattle.model.specs.Indices.{are_below}
use Rattle.model.specs.Lent.{operation_lent}
use Rattle.model.specs.Object.{cols_of, rows_of}
use Rattle.model.specs.Operations.{region_written}
use Rattle.model.specs.Regions.{cols_in, is_listed, rows_in}
use Rattle.model.specs.Renamed.{renamed_operation}
use Rattle.model.proofs.OldLaws.{region-renamed}
use Rattle.kernel.proofs.computing.computed_rows.Goals as goal

-- the region that a task writes is that of the operation on the objects that its inputs are
region_in : (task : Task) (region : Option Region) → region ≡ region_written (operation_lent task.operation)
    → region_written (operation_of task) ≡ region
region_in task region is = region-renamed object_of (operation_lent task.operation) ∙ sym is

-- ..and lies inside the output
low_in : (task : Task) (region : Region) → Some region ≡ region_written (operation_lent task.operation)
    → (are_below task.out.c.store.now.rows (rows_in region) ≡ true)
    × (are_below task.out.c.store.now.cols (cols_in region) ≡ true)
low_in task region is =
    let c = task.out.c in
    rw (c.rows, c.cols) (written-low c.signature (renamed_operation known_of (operation_lent task.operation)) region (task-accepts task)
    (region-renamed known_of (operation_lent task.operation) ∙ sym is))

pub over_old-requires-clause-rows : goal.over_old-requires-clause-rows
over_old-requires-clause-rows c = (low_in c.args.task.now c.in-Some.region.now c.in-Some.ensures).0

pub over_old-requires-clause-cols : goal.over_old-requires-clause-cols
over_old-requires-clause-cols c = (low_in c.args.task.now c.in-Some.region.now c.in-Some.ensures).1

pub returns-then-is_some-clause-rows : goal.returns-then-is_some-clause-rows
returns-then-is_some-clause-rows c =
    let task = c.args.task.now in
    agrees-same c.args.mask c.args.range.start c.args.range.end _ _ _ c.in_ok-block.block
    (spread-accumulated (out_of task) (operation_of task) (search rules)) c.in_ok-block.ensures.rows

pub returns-in-None-clause-rows : goal.returns-in-None-clause-rows
returns-in-None-clause-rows c =
    let task = c.args.task.now in
    agrees-same c.args.mask c.args.range.start c.args.range.end _ _ _ c.in_ok-block.block
    (spread-everywhere (out_of task) (operation_of task) (region_in task None c.in-None.ensures)) c.in_ok-block.ensures.rows

pub returns-in-Some-clause-rows : goal.returns-in-Some-clause-rows
returns-in-Some-clause-rows c =
    let task = c.args.task.now in
    let out = out_of task in
    let op = operation_of task in
    let region = c.in-Some.region.now in
    let over = rw (task.out.c.rows, task.out.c.cols) at c.over_old.ensures in
    if_over c.over_old.result c.args.mask c.args.range.start c.args.range.end _
    (is_listed (rows_of out.c.shape) (cols_of out.c.shape) (rows_in region) (cols_in region)) out.c.content (computed_in out op) (spread out op) c.in_ok-block.block
    c.in_ok-block.ensures.rows over.first over.past over.cols over.words
    (spread-over out op region (region_in task (Some region) c.in-Some.ensures) (search rules))

-- a product writes no region
pub returns-in-Some-clause-under : goal.returns-in-Some-clause-under
returns-in-Some-clause-under c =
    rw (no-region (operation_lent c.args.task.now.operation) c.in-Some.region.now c.in-Some.ensures)
    (no-product c.over_old.result (IsUnder c.args.mask c.args.range.start c.args.range.end))
