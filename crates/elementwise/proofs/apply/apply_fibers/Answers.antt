-- A function of words alone looks at no position.
use Rattle.std.proofs.Common.{◌≡◌, rules}
use Rattle.algebra.specs.IndexOperators.{scalar_domain}
use Rattle.algebra.specs.Operators.{eval_of}
use Rattle.algebra.specs.Value.{word_of}
use Rattle.elementwise.specs.Mapped.{as_they_lie, mapped}
use Rattle.elementwise.proofs.MappedLaws.{words_as_they_lie}
use Rattle.elementwise.proofs.apply.apply_fibers.Goals as goal

pub returns-in-First-clause-entries : goal.returns-in-First-clause-entries
returns-in-First-clause-entries c =
    let op = c.in-First.op in
    let es = c.args.fibers.now.entries in
    let value : c.wrapped-value.result ≡ word_of op.domain c.in-First.value = search rules in
    let same : mapped (λ _ _. eval_of op.kind op.domain c.wrapped-value.result) es ≡ mapped (as_they_lie c.args.is_column (λ _ _. eval_of op.kind op.domain (word_of op.domain c.in-First.value))) es =
    rw value (words_as_they_lie c.args.is_column (eval_of op.kind op.domain (word_of op.domain c.in-First.value)) es) in
    rw c.in-First.is (rw same at c.map_fibers-in-First.ensures.entries)

pub returns-in-Second-clause-entries : goal.returns-in-Second-clause-entries
returns-in-Second-clause-entries c =
    let op = c.in-Second.op in
    let es = c.args.fibers.now.entries in
    let value : c.wrapped-value-in-Second.result ≡ word_of op.domain c.in-Second.value = search rules in
    let same : mapped (λ _ _ word. eval_of op.kind op.domain word c.wrapped-value-in-Second.result) es ≡ mapped (as_they_lie c.args.is_column (λ _ _ word. eval_of op.kind op.domain word (word_of op.domain c.in-Second.value))) es =
    rw value (words_as_they_lie c.args.is_column (λ word. eval_of op.kind op.domain word (word_of op.domain c.in-Second.value)) es) in
    rw c.in-Second.is (rw same at c.map_fibers-in-Second.ensures.entries)

pub returns-in-Index-clause-entries : goal.returns-in-Index-clause-entries
returns-in-Index-clause-entries c =
    let op = c.in-Index.op in
    let scalar : c.wrapped-s.result ≡ word_of (scalar_domain op.kind op.domain) c.in-Index.scalar = search rules in
    rw c.in-Index.is (rw scalar at c.index_fibers.ensures.entries)
