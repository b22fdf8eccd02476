-- The table has one name more; or the object went again.
use Rattle.std.specs.String.{string_bytes}
use Rattle.std.proofs.lemmas.Map.Text.{hash_map_updates_text}
use Rattle.script.proofs.FreeLaws.{is_freed}
use Rattle.session.specs.Performed.{count_in, state_of}
use Rattle.script.proofs.environment.put.Goals as goal

pub returns-clause-named : goal.returns-clause-named
returns-clause-named g c n =
    hash_map_updates_text (string_bytes c.args.name) c.args.numbers.now c.insert.new.self _ c.in_default.ensures.updates n

pub returns-in-Err-clause-gone : goal.returns-in-Err-clause-gone
returns-in-Err-clause-gone g c =
    is_freed (state_of c.args.session.now) (state_of c.free.new.self) (count_in c.args.session.now) c.args.object c.free.result c.requires c.free.ensures.there c.free.ensures.performed.ends
