-- The object of an act is there, since no fault was found early.
use Rattle.std.proofs.Common.{◌≡◌, ◌∙◌, ap, subst, sym, Option}
use Rattle.std.specs.Prelude.{IfOk}
use Rattle.model.specs.declared.status.Status.{Status}
use Rattle.model.specs.Fault.{fault_by_values, late_fault}
use Rattle.model.specs.Object.{Object}
use Rattle.model.specs.Run.{seen}
use Rattle.plain.specs.Environments.{environment_of, named}
use Rattle.plain.specs.Evaluated.{input_of}
use Rattle.plain.proofs.FaultLaws.{late-found}
use Rattle.plain.proofs.environment.PlainEnvironment.late_fault.Goals as goal

pub returns-in-On : goal.returns-in-On
returns-in-On c =
    let env = environment_of c.args.self.now in
    let act = c.in-On.act in
    let same : late_fault (input_of c.object.result) act ≡ fault_by_values (seen env (named c.args.call.now)) =
    ap (λ (o : Object). late_fault o act) c.object.ensures
    ∙ late-found env c.in-On.object.now act (rw c.in-On.is at c.requires)
    ∙ ap (λ call. fault_by_values (seen env (named call))) (sym c.in-On.is) in
    subst (λ (s : Option Status). IfOk c.late_fault.result (λ fault. fault ≡ s)) same c.late_fault.ensures
