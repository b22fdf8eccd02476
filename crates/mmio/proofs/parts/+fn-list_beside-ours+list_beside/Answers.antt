-- Both parts of a text list what the text does.
use Rattle.std.proofs.Common.{◌≡◌, ◌+◌, ◌++◌, List}
use Rattle.std.proofs.lemmas.Result.{IfOk-at_ok, IfOk-weaker}
use Rattle.mmio.specs.declared.listing.Listed.{Listed}
use Rattle.mmio.specs.Listing.{Lists}
use Rattle.model.specs.declared.entry.Entry.{Entry}
use Rattle.mmio.proofs.PartLaws.{lists-parts}
use Rattle.mmio.proofs.parts.+fn-list_beside-ours+list_beside.Goals as goal

pub returns-in-Ok-Ok : goal.returns-in-Ok-Ok
returns-in-Ok-Ok g t c =
    let domain = c.args.domain in
    let h = c.args.heading in
    let text = c.args.text.now in
    let front = c.cut.result.0.now in
    let back = c.cut.result.1.now in
    let listed = c.in-Ok-Ok.listed in
    let others = c.in-Ok-Ok.others in
    let first = IfOk-at_ok (λ l. Lists domain h front l.entries l.lines) {r = c.join-others.result.1} c.in-Ok-Ok.is-0 c.join-others.ensures.second in
    let second = IfOk-at_ok (λ l. Lists domain h back l.entries l.lines) {r = c.join-others.result.0} c.in-Ok-Ok.is-1 c.join-others.ensures.first in
    let both : Listed (List Entry) → Type 0 = λ l. (l.lines ≡ listed.lines + others.lines) × (l.entries ≡ listed.entries ++ others.entries) in
    IfOk-weaker c.both.result both (λ l. Lists domain h text l.entries l.lines)
    (λ all (lines, entries). rw (lines, entries) (lists-parts domain h text front back _ _ listed.lines others.lines c.cut.ensures.words first second))
    c.both.ensures
