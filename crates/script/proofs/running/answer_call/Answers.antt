-- The first line and the data lines of the call; or the refusal alone.
use Rattle.std.proofs.Common.{refl}
use Rattle.model.specs.Grammar.{Called}
use Rattle.model.specs.Renamed.{renamed}
use Rattle.script.specs.Named.{state_in}
use Rattle.script.proofs.TurnLaws.{says-ok, says-refused}
use Rattle.script.proofs.running.answer_call.Goals as goal

pub returns-in-Ok-clause-says : goal.returns-in-Ok-clause-says
returns-in-Ok-clause-says g c =
    let call = renamed (λ name. name.now) (λ name. name.now) c.args.call in
    says-ok (Called call) call c.args.number (state_in c.args.environment.now) (state_in c.perform.new.self) c.perform.new.text.items
    refl c.in-Ok.ensures.ends
    (rw (c.in-Ok.ensures.lines, c.in_ok-write_status.ensures, c.requires.empty) refl)

pub returns-in-Err-clause-says : goal.returns-in-Err-clause-says
returns-in-Err-clause-says g c =
    let call = renamed (λ name. name.now) (λ name. name.now) c.args.call in
    says-refused c.write_status-in-Err.result (Called call) call c.args.number (state_in c.args.environment.now) (state_in c.perform.new.self) c.in-Err.status c.write_status-in-Err.new.out.items
    refl c.in-Err.ensures.ends
    (rw c.clear.ensures.items at c.write_status-in-Err.ensures)
