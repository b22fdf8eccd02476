-- Each note tells the object of its slot still.
use Rattle.std.proofs.Common.{◌∙◌, sym}
use Rattle.std.proofs.lemmas.List.{length-map}
use Rattle.board.specs.Boards.{view_of}
use Rattle.stages.specs.Slots.{task_of}
use Rattle.board.specs.Events.{issued}
use Rattle.desk.proofs.DeskLaws.{told-after}
use Rattle.desk.proofs.IdleLaws.{idle_after, idle_issued}
use Rattle.desk.proofs.placing.issue.Goals as goal

pub returns-in-Ok : goal.returns-in-Ok
returns-in-Ok g c =
    let slots = c.args.board.now.slots.slots.items in
    record {
      told = told-after g.N.Noted.told (view_of c.args.board.now) (view_of c.issue.new.self) c.issue.result c.args.note c.args.recipe c.in-Some.places c.args.inputs.now
          c.issue.ensures.issued c.issue.ensures.refused c.issue.ensures.accepted
          (length-map slots (λ s. s.note) ∙ sym (length-map slots (task_of {N = _}))) c.requires.told c.in-Some.ensures c.requires.object;
      cuts = c.issue.ensures.cuts;
      idle = λ idle. idle_after (view_of c.args.board.now) (view_of c.issue.new.self) (issued (view_of c.args.board.now) c.args.note c.args.recipe c.in-Some.places) c.issue.result
          c.issue.ensures.issued c.issue.ensures.refused (idle_issued (view_of c.args.board.now) c.args.note c.args.recipe c.in-Some.places idle) idle;
    }
