use Rattle.std.proofs.Common.{ap, arith, length}
use Rattle.board.specs.Boards.{shown}
use Rattle.board.proofs.ScheduleLaws.{during-end, during-right, during-start, during-step}
use Rattle.board.proofs.board.Board.run.Goals as goal

pub loop-event-init : goal.loop-event-init
loop-event-init g c = (
  during-start (shown c.args.self.now) c.args.events.items _ _ c.requires c.into_iter-event-iterator.ensures.into_iter_gives.0 c.in_ok-answers.ensures.items,
  omega (arith, c.in_ok-answers.ensures.len, ap length c.into_iter-event-iterator.ensures.into_iter_gives.0, c.in_ok-answers.ensures.capacity, c.len.ensures),
)

pub answer-requires : goal.answer-requires
answer-requires g c = (during-right _ _ _ _ _ _ c.in-Some.event c.loop-event.invariant.0 c.in-Some.ensures.steps.0).0

pub push_reserved-requires : goal.push_reserved-requires
push_reserved-requires g c = omega (arith, c.loop-event.invariant.1, ap length c.in-Some.ensures.steps.0)

pub loop-event-preserved : goal.loop-event-preserved
loop-event-preserved g c = (
  during-step _ _ _ _ _ _ c.in-Some.event _ _ c.answer.result c.loop-event.invariant.0 c.in-Some.ensures.steps.0 c.answer.ensures c.push_reserved.ensures.items,
  omega (arith, c.loop-event.invariant.1, ap length c.in-Some.ensures.steps.0, c.push_reserved.ensures.len, c.push_reserved.ensures.capacity),
)

pub returns-clause-answers : goal.returns-clause-answers
returns-clause-answers g c = during-end _ _ _ _ _ c.loop-event.invariant.0 (omega (arith, c.in-None.ensures.steps.0, c.loop-event.event-iterator.rest.ok))
