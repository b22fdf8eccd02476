-- Each note tells the object of its slot still.
use Rattle.std.proofs.Common.{◌∙◌, ap, sym}
use Rattle.std.proofs.lemmas.List.{length-map}
use Rattle.board.specs.Boards.{view_of}
use Rattle.stages.specs.Slots.{task_of}
use Rattle.calls.specs.declared.recipe.Recipe.{Recipe}
use Rattle.desk.specs.Desks.{object_in}
use Rattle.board.specs.Events.{placed}
use Rattle.desk.proofs.DeskLaws.{told-after_given}
use Rattle.desk.proofs.IdleLaws.{idle_after, idle_placed}
use Rattle.runner.specs.Tickets.{made_by}
use Rattle.desk.proofs.placing.place.Goals as goal

pub returns-in-Given : goal.returns-in-Given
returns-in-Given g c =
    let slots = c.args.board.now.slots.slots.items in
    record {
      told = told-after_given g.N.Noted.told (view_of c.args.board.now) (view_of c.issue_given.new.self) c.issue_given.result c.args.note c.in-Given.given c.args.inputs.now
          c.issue_given.ensures.placed c.issue_given.ensures.refused
          (length-map slots (λ s. s.note) ∙ sym (length-map slots (task_of {N = _}))) c.requires.told
          (c.requires.object ∙ ap (λ (r : Recipe). made_by (object_in g.N.Noted.told) r c.args.inputs.now) c.in-Given.is);
      cuts = c.issue_given.ensures.cuts;
      idle = λ idle. idle_after (view_of c.args.board.now) (view_of c.issue_given.new.self) (placed (view_of c.args.board.now) c.args.note c.in-Given.given) c.issue_given.result
          c.issue_given.ensures.placed c.issue_given.ensures.refused (idle_placed (view_of c.args.board.now) c.args.note c.in-Given.given idle) idle;
    }
