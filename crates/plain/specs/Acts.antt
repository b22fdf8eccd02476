-- What acts leave of their objects, as the plain evaluator finds it.
use Rattle.std.specs.Prelude.{Bool, true, Option, Some, None}
use Rattle.std.specs.Option.{option_map_or}
use Rattle.algebra.specs.Operators.{combines_by, offers}
use Rattle.model.specs.declared.call.Act.{Act}
use Rattle.model.specs.declared.call.Act.TheVariants.{Clear, Resize, Build, Set, Remove, Reduce}
use Rattle.model.specs.declared.shape.Signature.{Signature}
use Rattle.model.specs.Object.{Content, Object, no_content}
use Rattle.model.specs.Run.{changed_by}
use Rattle.plain.specs.Evaluated.{accumulator_offered}

-- whether there are the operators that an act names
abbrev pub are_act_operators : Act → Bool
are_act_operators (Build dup tuples) = accumulator_offered dup
are_act_operators (Reduce monoid) = offers (combines_by monoid.kind) monoid.domain
are_act_operators _ = true

-- what is known of an object that an act changes, as it is then
abbrev pub known_left : Act → Signature → Option Signature
known_left (Resize shape) o = Some (record o { shape = shape })
known_left Clear o = Some o
known_left (Build dup tuples) o = Some o
known_left (Set place value) o = Some o
known_left (Remove place) o = Some o
known_left _ o = None

-- the map of the object then, of which another shape leaves what is inside it
abbrev pub content_left : Act → Object → Content
content_left (Resize shape) o = o.content
content_left act o = option_map_or (λ o. o.content) (changed_by act o) no_content
