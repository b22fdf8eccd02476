-- What is written back of what operations compute that transpose no input.
use Rattle.std.specs.Prelude.{if◌then◌else◌, is_none, None}
use Rattle.model.specs.declared.call.Operation.{Operation}
use Rattle.model.specs.declared.call.Out.{Out}
use Rattle.model.specs.Object.{Content, Object, in_domain, signature_of}
use Rattle.model.specs.Operations.{computed, is_written_by}

-- what an operation computes, in the output's domain
abbrev pub computed_in : Out Object → Operation Object → Content
computed_in out inputs = in_domain out.c.domain (computed (signature_of out.c) inputs)

-- What is written back at every position: at those that the operation writes what it computes, and at the others
-- what is there stays, as it does by itself where there is an accumulator.
abbrev pub spread : Out Object → Operation Object → Content
spread out inputs = λ i j.
    if is_written_by out.c.shape inputs i j then computed_in out inputs i j
    else if is_none out.accum then out.c.content i j
    else None
