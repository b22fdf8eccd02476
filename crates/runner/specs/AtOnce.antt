-- What tickets that are stores stand for.
use Rattle.std.specs.Arc.{arc_value}
use Rattle.calls.specs.Stores.{object_with}
use Rattle.model.specs.Object.{Object}
use Rattle.runner.specs.declared.ticket.Ticket.{Ticket}
use Rattle.store.specs.Stored.{content_of}

-- the object that has the ticket's store
abbrev pub object_in : Ticket → Object
object_in t = object_with t.of (content_of (arc_value t.store))
