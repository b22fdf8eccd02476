-- The first line and the lines of the object are behind what was written; or all is as it was, and the refusal is left.
use Rattle.std.proofs.Common.{◌≡◌, ◌++◌, ◌∙◌, ap, append_assoc, length, refl, rules, take}
use Rattle.std.specs.List.{flat_map}
use Rattle.std.proofs.Math.Seq.{take-append_seam}
use Rattle.std.proofs.lemmas.List.{append-nil}
use Rattle.model.specs.declared.call.Act.TheVariants.{Print}
use Rattle.model.specs.declared.call.Call.{Call}
use Rattle.model.specs.declared.call.Call.TheVariants.{On}
use Rattle.model.specs.declared.status.Status.TheVariants as status
use Rattle.model.specs.Grammar.{Called, Name}
use Rattle.model.specs.Run.{data_lines_of, on_objects}
use Rattle.model.specs.Text.{ended}
use Rattle.script.specs.Named.{environment_in, state_in}
use Rattle.script.proofs.TurnLaws.{says-apart, says-ok, says-refused, status_line}
use Rattle.script.proofs.running.answer_print.Goals as goal

pub returns-in-Ok-clause-says : goal.returns-in-Ok-clause-says
returns-in-Ok-clause-says g c =
    let call : Call Name Name = On c.args.object.now Print in
    let out = c.args.out.now.items in
    let line = status_line c.args.number status.Ok in
    let lines = flat_map ended (data_lines_of (on_objects (environment_in c.args.environment.now) call)) in
    let first : c.write_status.new.out.items ≡ line = c.in_ok-write_status.ensures ∙ rw c.requires.empty refl in
    let begun : c.extend_from_slice.new.self.items ≡ out ++ c.write_status.new.out.items = search rules in
    let put : c.print.new.text.items ≡ out ++ (line ++ lines) = c.in-Ok.ensures.answered.lines ∙ rw (begun, first) (append_assoc out line lines) in (
      line ++ lines,
      put,
      rw (c.clear.ensures.items, append-nil (line ++ lines))
          (says-ok (Called call) call c.args.number (state_in c.args.environment.now) (state_in c.print.new.self) (line ++ lines) refl c.in-Ok.ensures.answered.ends refl),
    )

pub returns-in-Err-clause-says : goal.returns-in-Err-clause-says
returns-in-Err-clause-says g c =
    let call : Call Name Name = On c.args.object.now Print in
    let out = c.args.out.now.items in
    let begun : c.extend_from_slice.new.self.items ≡ out ++ c.write_status.new.out.items = search rules in
    let kept : c.print.new.text.items ≡ c.extend_from_slice.new.self.items = search rules in
    let cut : c.truncate.new.self.items ≡ take (length out) c.print.new.text.items = search rules in
    let back : c.truncate.new.self.items ≡ out = cut ∙ ap (take (length out)) (kept ∙ begun) ∙ take-append_seam out c.write_status.new.out.items in
    rw back (says-apart c.write_status-in-Err.result (Called call) c.args.number (state_in c.args.environment.now) (state_in c.print.new.self) out c.write_status-in-Err.new.out.items
    (says-refused c.write_status-in-Err.result (Called call) call c.args.number (state_in c.args.environment.now) (state_in c.print.new.self) c.in-Err.status c.write_status-in-Err.new.out.items
    refl c.in-Err.ensures.answered.ends (rw c.clear.ensures.items at c.write_status-in-Err.ensures)))
