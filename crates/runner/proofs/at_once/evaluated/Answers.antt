-- The stores of the tickets take the roles, and what is evaluated of them is what the recipe makes.
use Rattle.std.specs.Arc.{arc_value}
use Rattle.calls.specs.Roles.{role_of}
use Rattle.runner.proofs.TicketLaws.{made-alike, takes-ticket}
use Rattle.runner.proofs.at_once.evaluated.Goals as goal

pub evaluate-requires : goal.evaluate-requires
evaluate-requires c = record { inputs = λ role. rw (← c.requires role, c.stores_of.ensures role) (takes-ticket (role_of c.args.tickets.now role)) }

pub returns-clause-object : goal.returns-clause-object
returns-clause-object c =
    made-alike c.args.tickets.now c.stores_of.result c.stores_of.ensures c.args.recipe.now c.signature-of.result c.in_ok-store.store (arc_value c.in_ok-store-2.store)
    c.signature-of.ensures c.in_ok-store-2.ensures.ok c.in_ok-store.ensures.content
