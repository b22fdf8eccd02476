-- The object is there, since the call was accepted, and its store too.
use Rattle.std.proofs.Common.{◌∙◌, ap, length}
use Rattle.model.specs.declared.call.Act.TheVariants.{Nvals}
use Rattle.model.specs.Entries.{entries_of}
use Rattle.model.specs.Object.{Object, cols_of, rows_of}
use Rattle.model.specs.Run.{Environment, object_at}
use Rattle.calls.specs.declared.obj.Obj.{Obj}
use Rattle.session.specs.Performed.{count_in, environment_of}
use Rattle.session.proofs.AcceptedLaws.{act-there}
use Rattle.session.proofs.PerformedLaws.{late-none, performed-read, read-kept}
use Rattle.session.proofs.ResultLaws.{stored-entries}
use Rattle.session.proofs.sessions.Session.nvals.Goals as goal

pub finish-requires : goal.finish-requires
finish-requires g c = record { there = act-there (count_in c.args.self.now) ((environment_of c.args.self.now).find_object c.args.object) Nvals c.in_ok-check_there.ensures.nvals }

pub returns-clause-performed : goal.returns-clause-performed
returns-clause-performed g c =
    performed-read c.args.self.now c.finish.new.self c.args.object Nvals _ tt c.in_ok-check_there.ensures.nvals
    (late-none c.args.self.now c.finish.new.self c.args.object Nvals tt) c.in_ok-finish.ensures.ends c.finish.ensures.made

pub returns-clause-number : goal.returns-clause-number
returns-clause-number g c =
    let kept = read-kept c.args.self.now c.finish.new.self c.args.object c.in_ok-finish.ensures.ends in
    c.nvals.ensures ∙ ap length (stored-entries (object_at (environment_of c.finish.new.self) c.args.object) c.store.result.now c.store.ensures.object c.store.ensures.store)
    ∙ ap (λ (env : Environment Obj). let o : Object = object_at env c.args.object in length (entries_of (rows_of o.shape) (cols_of o.shape) o.content)) kept
