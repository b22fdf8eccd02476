use Rattle.std.proofs.Common.{◌≡◌, ◌+◌, ◌++◌, ◌<◌, ◌∙◌, ℕ, List, ap, drop, length, arith, length-append, length-take}
use Rattle.std.specs.Prelude.{replicate}
use Rattle.std.proofs.lemmas.List.{length-replicate}
use Rattle.store.specs.Puts.{missing}
use Rattle.store.proofs.PutLaws.{some_rows}
use Rattle.store.proofs.putting.put_column.Goals as goal

pub returns-clause-some : goal.returns-clause-some
returns-clause-some c =
    let old = c.args.lists.now.inner.items in
    let rows = c.args.column.now.inner.items in
    let new = c.lengthen.new.lists.inner in
    let merged : List ℕ = c.merge_back.new.inner in
    let n = c.count_missing-count.result in
    let count : n ≡ missing old rows = rw (c.deref.ensures.value, c.deref-2.ensures.value) at c.count_missing-count.ensures in
    let room : 0 < length old + missing old rows = some_rows old rows c.requires.some in
    let whole : length new.items ≡ length old + n = ap length c.in_ok-lengthen.ensures.inner ∙ length-append old (replicate n 0) ∙ ap (λ k. length old + k) (length-replicate n 0) in
    let made : length c.deref_mut.result.now ≡ length new.items = ap length c.deref_mut.ensures.value in
    let long : length merged ≡ length c.deref_mut.result.now = c.merge_back.ensures.inner_length in
    let len : length c.deref_mut.result.now ≡ new.len = c.deref_mut.ensures.len in
    let rest = drop (length merged) new.items in
    omega (arith, length-take new.len (merged ++ rest), length-append merged rest)
