-- The inputs have what is known of them.
use Rattle.calls.specs.declared.role.Role.TheVariants.{First, Second}
use Rattle.runner.proofs.submitting.submit_transposed.Goals as goal

pub transposed_if-requires-clause-known : goal.transposed_if-requires-clause-known
transposed_if-requires-clause-known g c = c.requires.known First

pub submit_second_transposed-submitted-requires-clause-known : goal.submit_second_transposed-submitted-requires-clause-known
submit_second_transposed-submitted-requires-clause-known g c = c.requires.known Second
