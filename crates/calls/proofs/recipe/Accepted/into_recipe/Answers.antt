-- What an operation gives, its recipe gives of turned inputs.
use Rattle.std.proofs.Common.{◌∙◌, ap, sym}
use Rattle.calls.proofs.TurnLaws.{accepted-exchanged, accepted-transposed, known-exchanged, known-transposed, matrices-transposed, meaning-exchanged, meaning-transposed}
use Rattle.calls.proofs.recipe.Accepted.into_recipe.Goals as goal
use Rattle.model.specs.Object.{Content}

pub invariant_of-new : goal.invariant_of-new
invariant_of-new c = rw c.straight_out-out.ensures (record {
  accepted = accepted-exchanged c.args.self.out c.args.self.operation c.in-Some.operation (sym c.in-Some.ensures) c.args.self.accepted;
})

pub returns-in-Some-clause-known : goal.returns-in-Some-clause-known
returns-in-Some-clause-known c role = c.straight.ensures.known role
    ∙ rw (c.in_ok-exchanged.ensures.ok, c.straight_out-out.ensures) (known-exchanged c.args.self.out c.args.self.operation c.in-Some.operation (sym c.in-Some.ensures) c.args.self.accepted role)

pub returns-in-Some-clause-meaning : goal.returns-in-Some-clause-meaning
returns-in-Some-clause-meaning c maps i j = ap (λ (m : Content). m i j) (c.straight.ensures.meaning _)
    ∙ rw (c.in_ok-exchanged.ensures.ok, c.straight_out-out.ensures) (meaning-exchanged c.args.self.out c.args.self.operation c.in-Some.operation (sym c.in-Some.ensures) c.args.self.accepted maps i j)

pub invariant_of-new-2 : goal.invariant_of-new-2
invariant_of-new-2 c = rw (c.straight_out-out.ensures, c.transposed-operation.ensures) (record {
  accepted = accepted-transposed c.args.self.out c.args.self.operation c.args.self.accepted;
})

pub returns-clause-known : goal.returns-clause-known
returns-clause-known c role = c.straight-2.ensures.known role
    ∙ rw (c.in_ok-transposed.ensures.ok, c.straight_out-out.ensures, c.transposed-operation.ensures, c.turns_of-turns.ensures)
    (known-transposed c.args.self.out c.args.self.operation role)

pub returns-clause-meaning : goal.returns-clause-meaning
returns-clause-meaning c maps i j = ap (λ (m : Content). m i j) (c.straight-2.ensures.meaning _)
    ∙ rw (c.in_ok-transposed.ensures.ok, c.straight_out-out.ensures, c.transposed-operation.ensures, c.turns_of-turns.ensures)
    (meaning-transposed c.args.self.out c.args.self.operation maps i j)

pub returns-clause-matrices : goal.returns-clause-matrices
returns-clause-matrices c = rw c.turns_of-turns.ensures (matrices-transposed c.args.self.out c.args.self.operation)
