-- Objects that are lent.
use Rattle.kernel.specs.declared.input.Input.{Input}
use Rattle.model.specs.declared.shape.Signature.{Signature}
use Rattle.model.specs.Object.{Object}
use Rattle.store.specs.Stored.{content_of}

-- what is known of a lent object
abbrev pub known_of : Input → Signature
known_of input = input.signature

-- the object, with the map of its store
abbrev pub object_of : Input → Object
object_of input = record {
  domain = input.signature.domain;
  shape = input.signature.shape;
  content = content_of input.store.now;
}
