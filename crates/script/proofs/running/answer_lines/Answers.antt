-- Each turn of the loop answers one line more; what is written at any time is whole answers.
use Rattle.std.proofs.Common.{◌≡◌, rules, arith, sym, subst, []}
use Rattle.std.proofs.lemmas.List.{append-nil, nil_from_length}
use Rattle.model.specs.Marks.{first_state}
use Rattle.script.specs.Named.{state_in}
use Rattle.script.proofs.TextLaws.{on_err}
use Rattle.script.proofs.RunLaws.{IsUnderWay, ran-all, ran-so_far, under_way-start, under_way-turn}
use Rattle.script.proofs.running.answer_lines.Goals as goal

pub returns-in_err-text-clause-err : goal.returns-in_err-text-clause-err
returns-in_err-text-clause-err g c =
    on_err c.from_residual.result (ran-so_far (g.S.Sources.held c.args.sources.now) c.args.script.now c.args.script.now first_state 1 c.args.out.now.items c.args.out.now.items (under_way-start (g.S.Sources.held c.args.sources.now) c.args.script.now c.args.out.now.items))

pub loop-rest-init : goal.loop-rest-init
loop-rest-init g c = record {
  way = subst (λ state. IsUnderWay (g.S.Sources.held c.args.sources.now) c.args.script.now c.args.script.now state 1 c.args.out.now.items c.args.out.now.items) (sym c.new-environment.ensures.state) (under_way-start (g.S.Sources.held c.args.sources.now) c.args.script.now c.args.out.now.items);
  made = rw c.new-environment.ensures.made (omega arith);
  numbered = omega arith;
}

pub returns-in_err-append_answer-clause-err : goal.returns-in_err-append_answer-clause-err
returns-in_err-append_answer-clause-err g c =
    let kept : c.append_answer.new.out.items ≡ c.loop-rest.out.items = search rules in
    rw kept (on_err c.from_residual-in_err-append_answer.result (ran-so_far (g.S.Sources.held c.args.sources.now) c.args.script.now c.loop-rest.rest.now (state_in c.loop-rest.environment) c.loop-rest.number c.args.out.now.items c.loop-rest.out.items c.loop-rest.invariant.way))

pub loop-rest-preserved : goal.loop-rest-preserved
loop-rest-preserved g c =
    let (text, grown, says) = c.in_ok-append_answer.ensures.says in
    record {
      way = rw grown (under_way-turn (g.S.Sources.held c.args.sources.now) c.args.script.now c.loop-rest.rest.now c.first_line.result.1.now c.first_line.result.0.now (state_in c.loop-rest.environment) (state_in c.append_answer.new.environment)
          c.loop-rest.number c.args.out.now.items c.loop-rest.out.items text c.first_line.ensures.lines (simp append-nil at says) c.loop-rest.invariant.way);
      made = omega (arith, c.in_ok-append_answer.ensures.made);
      numbered = omega arith;
    }

pub returns-clause-ok : goal.returns-clause-ok
returns-clause-ok g c =
    let ended : c.loop-rest.rest.now ≡ [] = nil_from_length c.loop-rest.rest.now (search rules) in
    ran-all (g.S.Sources.held c.args.sources.now) c.args.script.now (state_in c.loop-rest.environment) c.loop-rest.number c.args.out.now.items c.loop-rest.out.items (rw ended at c.loop-rest.invariant.way)

pub append_answer-requires : goal.append_answer-requires
append_answer-requires g c = omega arith
