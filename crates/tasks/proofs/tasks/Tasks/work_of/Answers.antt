-- A task that was taken makes the object that the note of its slot tells.
use Rattle.std.proofs.Common.{◌≡◌, ◌∙◌, Some, ap, slice_get, sym}
use Rattle.std.specs.Option.{option_copied}
use Rattle.board.specs.Boards.{view_of}
use Rattle.desk.proofs.WorkLaws.{work_for}
use Rattle.history.specs.Histories.{object_of}
use Rattle.tasks.proofs.tasks.Tasks.work_of.Goals as goal

pub invariant_of-result : goal.invariant_of-result
invariant_of-result g c =
    let board = view_of c.args.self.now.board in
    let piece = c.args.piece in
    let at : slice_get board.notes piece.number ≡ Some c.in-Some.note.now = sym c.note.ensures ∙ ap option_copied c.in-Some.is in
    record {
      work = ∣ work_for board.tasks piece c.requires.piece ∣₁;
      makes = ap object_of c.again.ensures ∙ (sym (c.args.self.now.told piece.number c.in-Some.note.now at) ∙ c.requires.piece.needs.makes);
    }
