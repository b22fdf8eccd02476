-- The session prints the object that the name stands for.
use Rattle.std.proofs.Common.{◌≡◌, Some, refl, rules}
use Rattle.model.specs.declared.call.Act.TheVariants.{Print}
use Rattle.model.specs.declared.call.Call.TheVariants.{On}
use Rattle.script.proofs.PrintLaws.{printed, unnamed_print}
use Rattle.script.proofs.ReplyLaws.{stays_there}
use Rattle.script.specs.Named.{number_in}
use Rattle.script.proofs.environment.Environment.print.Goals as goal

pub returns-in_default-clause-answered : goal.returns-in_default-clause-answered
returns-in_default-clause-answered g c = unnamed_print c.args.self.now c.args.name.now c.args.text.now.items (search rules)

pub invariant_of-self : goal.invariant_of-self
invariant_of-self g c =
    let names = c.args.self.now in
    record {
      distinct = names.distinct;
      there = stays_there (number_in names) names.session c.print.new.session (On c.in-Some.object Print) c.print.result refl names.there c.print.ensures.performed;
    }

pub returns-clause-answered : goal.returns-clause-answered
returns-clause-answered g c =
    let names = c.args.self.now in
    let is : number_in names c.args.name.now ≡ Some c.in-Some.object = search rules in
    printed names _ c.args.name.now c.in-Some.object c.args.text.now.items c.print.new.text.items c.print.result c.requires names.distinct is refl c.print.ensures.performed c.print.ensures.lines
