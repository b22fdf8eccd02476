-- The object lists the sums, which lie inside its shape.
use Rattle.std.proofs.Common.{Some, refl}
use Rattle.model.specs.declared.shape.Shape.TheVariants.{Two}
use Rattle.model.specs.Builds.{gathered}
use Rattle.model.specs.MatrixMarket.{object_read, sum_in_file}
use Rattle.plain.specs.declared.objects.PlainObject.{PlainObject}
use Rattle.plain.specs.Files.{matrix_of}
use Rattle.plain.proofs.ObjectLaws.{object-listed, whole}
use Rattle.plain.proofs.loads.object_read.Goals as goal

pub returns-clause-object : goal.returns-clause-object
returns-clause-object c =
    let m = c.args.matrix.now in
    let o : PlainObject = record { name = c.in_ok-name.name; domain = c.args.domain; shape = Two m.rows m.cols; entries = c.in_ok-entries.entries } in
    let map = gathered (Some (sum_in_file c.args.domain)) m.entries.items in
    object-listed o (object_read c.args.domain (matrix_of m)) map refl (rw c.as_slice.ensures.value at c.in_ok-entries.ensures) (whole m.rows m.cols map c.requires.object.within)
