-- What is written is one answer to what the line is read as.
use Rattle.std.proofs.Common.{◌≡◌, ◌∙◌, [], ap, refl, rules, sym}
use Rattle.std.proofs.lemmas.List.{append-nil}
use Rattle.model.specs.declared.call.Act.TheVariants.{Print}
use Rattle.model.specs.declared.call.Call.{Call}
use Rattle.model.specs.declared.call.Call.TheVariants.{On, Operate}
use Rattle.model.specs.declared.call.Operation.{Operation}
use Rattle.model.specs.declared.call.Operation.TheVariants.{OfTwo}
use Rattle.model.specs.declared.call.Out.{Out}
use Rattle.model.specs.Grammar.{Called, Loads, Malformed, Name, reading_of}
use Rattle.model.specs.Loads.{file_in, with_file}
use Rattle.model.specs.Renamed.{renamed, renamed_out}
use Rattle.script.specs.Named.{state_in}
use Rattle.script.proofs.LoadLaws.{answered_with}
use Rattle.script.proofs.TurnLaws.{refused-load, says-apart, says-load, says-nothing, says-operated, says-malformed, says-refused, says-unread}
use Rattle.script.proofs.running.answer_line.Goals.{in-Ok, in-Err}
use Rattle.script.proofs.running.answer_line.Goals as goal

pub returns-in-Ok-Silent-clause-says : goal.returns-in-Ok-Silent-clause-says
returns-in-Ok-Silent-clause-says g c = ([], sym (append-nil c.args.out.now.items), says-nothing (with_file (g.S.Sources.held c.args.sources.now) (reading_of c.args.line.now)) c.args.number (state_in c.args.environment.now) c.args.text.now.items (search rules) c.requires.empty)

pub returns-in-None-clause-says : goal.returns-in-None-clause-says
returns-in-None-clause-says g c =
    let call : Call Name Name = renamed (λ name. name.now) (λ name. name.now) c.in-Ok-Call.call in
    let held = g.S.Sources.held c.args.sources.now in
    let said : reading_of c.args.line.now ≡ Called call = search rules in
    let read : with_file held (reading_of c.args.line.now) ≡ Called call = ap (with_file held) said in
    rw read (says-apart c.answer_call.result (Called call) c.args.number (state_in c.args.environment.now) (state_in c.answer_call.new.environment) c.args.out.now.items c.answer_call.new.text.items c.answer_call.ensures.says)

pub returns-in-Err-Syntax-clause-says : goal.returns-in-Err-Syntax-clause-says
returns-in-Err-Syntax-clause-says g c =
    says-apart _ _ _ _ _ c.args.out.now.items _ (says-malformed c.write_status-in-Err-Syntax.result (with_file (g.S.Sources.held c.args.sources.now) (reading_of c.args.line.now)) c.args.number (state_in c.args.environment.now) c.write_status-in-Err-Syntax.new.out.items
    (let read : reading_of c.args.line.now ≡ Malformed = search rules in ap (with_file (g.S.Sources.held c.args.sources.now)) read)
    (rw c.requires.empty at c.write_status-in-Err-Syntax.ensures))

pub returns-in-Err-NoMemory-clause-says : goal.returns-in-Err-NoMemory-clause-says
returns-in-Err-NoMemory-clause-says g c =
    says-apart _ _ _ _ _ c.args.out.now.items _ (says-unread c.write_status-in-Err-NoMemory.result (with_file (g.S.Sources.held c.args.sources.now) (reading_of c.args.line.now)) c.args.number (state_in c.args.environment.now) c.write_status-in-Err-NoMemory.new.out.items
    (answered_with (g.S.Sources.held c.args.sources.now) (reading_of c.args.line.now) (search rules))
    (rw c.requires.empty at c.write_status-in-Err-NoMemory.ensures))

pub returns-in-Ok-load-clause-says : goal.returns-in-Ok-load-clause-says
returns-in-Ok-load-clause-says g c =
    let load = c.in-Ok-Load.load in
    let read : reading_of c.args.line.now ≡ Loads load.name.now load.domain load.file.now = search rules in
    says-apart _ _ _ _ _ c.args.out.now.items _ (says-load c.write_status-in-Ok-load.result (with_file (g.S.Sources.held c.args.sources.now) (reading_of c.args.line.now)) load.name.now load.domain (file_in (g.S.Sources.held c.args.sources.now) load.domain load.file.now)
    c.args.number (state_in c.args.environment.now) (state_in c.load.new.self) c.write_status-in-Ok-load.new.out.items
    (ap (with_file (g.S.Sources.held c.args.sources.now)) read) c.in-Ok-load.ensures.ends (rw c.requires.empty at c.write_status-in-Ok-load.ensures))

pub returns-in-Err-load-clause-says : goal.returns-in-Err-load-clause-says
returns-in-Err-load-clause-says g c =
    let load = c.in-Ok-Load.load in
    let read : reading_of c.args.line.now ≡ Loads load.name.now load.domain load.file.now = search rules in
    says-apart _ _ _ _ _ c.args.out.now.items _ (refused-load c.write_status-in-Err-load.result (with_file (g.S.Sources.held c.args.sources.now) (reading_of c.args.line.now)) load.name.now load.domain (file_in (g.S.Sources.held c.args.sources.now) load.domain load.file.now)
    c.args.number (state_in c.args.environment.now) (state_in c.load.new.self) c.in-Err-load.status c.write_status-in-Err-load.new.out.items
    (ap (with_file (g.S.Sources.held c.args.sources.now)) read) c.in-Err-load.ensures.ends (rw c.requires.empty at c.write_status-in-Err-load.ensures))

pub returns-in-Ok-Call-Operate-default-OfTwo-clause-says : goal.returns-in-Ok-Call-Operate-default-OfTwo-clause-says
returns-in-Ok-Call-Operate-default-OfTwo-clause-says g c =
    let o = c.in-Ok-Call-Operate-default-OfTwo in
    let out : Out Name = renamed_out (λ name. name.now) o.out in
    let operation : Operation Name = OfTwo o.computes o.a.now o.b.now in
    let held = g.S.Sources.held c.args.sources.now in
    let before = state_in c.args.environment.now in
    let after = state_in c.join.new.self in
    let said : reading_of c.args.line.now ≡ Called (Operate out operation) = search rules in
    let read : with_file held (reading_of c.args.line.now) ≡ Called (Operate out operation) =
    ap (with_file held) said in
    elim c.match-join.branch [
      | in-Ok w ↦ rw (w.result-is, w.text-is) (says-apart _ _ _ _ _ c.args.out.now.items _ (says-operated w.write_status.result (with_file held (reading_of c.args.line.now)) out operation c.args.number before after w.write_status.new.out.items
          read (rw w.in-Ok.is at c.join.ensures.ends) (rw c.requires.empty at w.write_status.ensures)))
      | in-Err w ↦ rw (w.result-is, w.text-is) (says-apart _ _ _ _ _ c.args.out.now.items _ (says-refused w.write_status-in-Err.result (with_file held (reading_of c.args.line.now)) (Operate out operation) c.args.number before after w.in-Err.status w.write_status-in-Err.new.out.items
          read (rw w.in-Err.is at c.join.ensures.ends) (rw c.requires.empty at w.write_status-in-Err.ensures)))
    ]

pub returns-in-Some-clause-says : goal.returns-in-Some-clause-says
returns-in-Some-clause-says g c =
    let call : Call Name Name = renamed (λ name. name.now) (λ name. name.now) c.in-Ok-Call.call in
    let said : reading_of c.args.line.now ≡ Called call = search rules in
    let is : call ≡ On c.in-Some.object.now Print = rw c.in-Some.ensures refl in
    let read : reading_of c.args.line.now ≡ Called (On c.in-Some.object.now Print) = said ∙ ap Called is in
    rw read c.answer_print.ensures.says
