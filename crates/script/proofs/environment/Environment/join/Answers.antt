-- The session does the operation on the numbers that the names stand for.
use Rattle.std.proofs.Common.{Bor, List, refl, subst, sym, ℕ, ◌≡◌, Some}
use Rattle.calls.specs.declared.obj.Obj.{Obj}
use Rattle.model.specs.declared.call.Call.{Call}
use Rattle.model.specs.declared.call.Call.TheVariants.{Operate}
use Rattle.model.specs.declared.call.Operation.TheVariants.{OfTwo}
use Rattle.model.specs.Renamed.{found, renamed}
use Rattle.model.proofs.RenamedLaws.{found_some}
use Rattle.script.specs.Named.{number_in}
use Rattle.script.proofs.ReplyLaws.{joined_named, missing_joined, stays_there}
use Rattle.session.specs.Performed.{IsPerformed}
use Rattle.session.proofs.PerformedLaws.{numbered-operate}
use Rattle.script.proofs.environment.Environment.join.Goals as goal

pub returns-in_default : goal.returns-in_default
returns-in_default g c =
    missing_joined (λ name. name.now) c.args.self.now (Operate c.args.out.now (OfTwo c.args.computes c.args.a c.args.b)) refl
    (rw (← c.in_default.ensures) refl)

pub returns-in_default-find : goal.returns-in_default-find
returns-in_default-find g c =
    missing_joined (λ name. name.now) c.args.self.now (Operate c.args.out.now (OfTwo c.args.computes c.args.a c.args.b)) refl
    (rw (← c.in-Some.ensures, ← c.in_default-find.ensures) refl)

pub returns-in_default-find-2 : goal.returns-in_default-find-2
returns-in_default-find-2 g c =
    missing_joined (λ name. name.now) c.args.self.now (Operate c.args.out.now (OfTwo c.args.computes c.args.a c.args.b)) refl
    (rw (← c.in-Some.ensures, ← c.in-Some-find.ensures, ← c.in_default-find-2.ensures) refl)

pub invariant_of-self : goal.invariant_of-self
invariant_of-self g c =
    let names = c.args.self.now in
    record {
      distinct = names.distinct;
      there = stays_there (number_in names) names.session c.of_two.new.self (Operate c.in-Some.out (OfTwo c.args.computes c.in-Some-find.a c.in-Some-find-2.b)) c.of_two.result
          refl names.there c.of_two.ensures;
    }

pub returns : goal.returns
returns g c =
    let names = c.args.self.now in
    let call : Call (Bor (List ℕ)) (Bor (List ℕ)) = Operate c.args.out.now (OfTwo c.args.computes c.args.a c.args.b) in
    let known : Call Obj (Bor (List ℕ)) = Operate c.in-Some.out (OfTwo c.args.computes c.in-Some-find.a c.in-Some-find-2.b) in
    let is : Some known ≡ found (renamed (λ name. number_in names name.now) (λ name. name) call) =
    rw (← c.in-Some.ensures, ← c.in-Some-find.ensures, ← c.in-Some-find-2.ensures) refl in
    joined_named (λ name. name.now) names _ call known c.of_two.result c.requires refl names.distinct refl
    (found_some (renamed (λ name. number_in names name.now) (λ name. name) call) known is)
    (subst (λ (call : Call Obj Obj). IsPerformed names.session c.of_two.new.self call c.of_two.result)
    (sym (numbered-operate names.session known c.in-Some.out (OfTwo c.args.computes c.in-Some-find.a c.in-Some-find-2.b) refl)) c.of_two.ensures)
