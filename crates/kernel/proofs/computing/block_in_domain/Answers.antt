-- Words of the domain stay as they are.
use Rattle.std.proofs.Common.{◌≡◌, rules, true}
use Rattle.algebra.specs.Value.{same_domain}
use Rattle.model.proofs.ObjectLaws.{cast_word-own}
use Rattle.store.specs.Stored.{block_content}
use Rattle.kernel.proofs.computing.block_in_domain.Goals as goal

pub returns-else-not-is_same-clause-content : goal.returns-else-not-is_same-clause-content
returns-else-not-is_same-clause-content c i j words =
    let same : same_domain c.args.from c.args.to ≡ true = search rules in
    cast_word-own c.args.from c.args.to (block_content c.args.block i j) same words
