-- The session does the call on the numbers that the names stand for.
use Rattle.std.proofs.Common.{refl}
use Rattle.model.specs.Renamed.{renamed}
use Rattle.model.proofs.RenamedLaws.{found_some}
use Rattle.script.specs.Named.{number_in}
use Rattle.script.proofs.ReplyLaws.{known_named, missing_named, replied_named, stays_there}
use Rattle.session.specs.Performed.{numbered}
use Rattle.script.proofs.environment.Environment.reply.Goals as goal

pub returns-in_default : goal.returns-in_default
returns-in_default g c = missing_named (λ name. name.now) c.args.self.now c.args.call c.requires.known c.in_default.ensures

pub invariant_of-self : goal.invariant_of-self
invariant_of-self g c =
    let names = c.args.self.now in
    let is = found_some (renamed (λ name. number_in names name.now) (λ name. name) c.args.call) c.in-Some.call c.in-Some.ensures in
    record {
      distinct = names.distinct;
      there = stays_there (number_in names) names.session c.perform_by.new.self (numbered names.session c.in-Some.call) c.perform_by.result
          (known_named (λ name. name.now) (number_in names) names.session c.args.call c.in-Some.call c.requires.known is) names.there c.perform_by.ensures.performed;
    }

pub returns : goal.returns
returns g c =
    let is = found_some (renamed (λ name. number_in c.args.self.now name.now) (λ name. name) c.args.call) c.in-Some.call c.in-Some.ensures in
    replied_named (λ name. name.now) c.args.self.now _ c.args.call c.in-Some.call c.perform_by.result c.requires.made c.requires.known c.requires.textless c.args.self.now.distinct refl is
    c.perform_by.ensures.performed c.perform_by.ensures.answer
