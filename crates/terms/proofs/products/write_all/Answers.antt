use Rattle.std.proofs.Common.{◌≡◌, ◌∷◌, [], ◌∙◌, ◌++◌, ◌+◌, ◌<◌, ap, append_assoc, arith, get_or, length, set, take}
use Rattle.std.proofs.lemmas.List.{length-set, take_all, take_more_set}
use Rattle.model.specs.Entries.{entry_at}
use Rattle.store.specs.Fibers.{entries_along}
use Rattle.store.proofs.Places.{length_row, row_at}
use Rattle.terms.specs.Terms.{term_at, times_row}
use Rattle.terms.proofs.Terms.{times_more}
use Rattle.terms.proofs.products.write_all.Goals as goal

pub loop-k-preserved : goal.loop-k-preserved
loop-k-preserved c =
    let s = c.loop-k in
    let row = entries_along 0 c.args.cols.now c.args.words.now in
    let d = entry_at 0 0 0 in
    let long = length_row 0 c.args.cols.now c.args.words.now c.requires.lengths in
    let within : s.k < length row = omega (arith, c.loop-k-test.true) in
    let at = row_at 0 c.args.cols.now c.args.words.now s.k d c.requires.lengths c.loop-k-test.true in
    let more = times_more c.args.multiply c.args.word row s.k d within in
    let same = s.invariant.length_is in
    let room : c.args.start + s.k < length s.terms = omega (arith, c.requires.room, c.loop-k-test.true) in
    let term = term_at (get_or c.args.cols.now s.k 0) c.eval.result in
    let next : c.args.start + (s.k + 1) ≡ (c.args.start + s.k) + 1 = omega arith in
    let put : take (c.args.start + (s.k + 1)) (set s.terms (c.args.start + s.k) term) ≡ take (c.args.start + s.k) s.terms ++ term ∷ [] =
    rw next (take_more_set s.terms (c.args.start + s.k) term room) in
    record {
      length_is = length-set s.terms (c.args.start + s.k) term ∙ same;
      terms = put ∙ rw (s.invariant.terms, more, at, c.eval.ensures) (simp append_assoc);
    }

pub returns-clause-terms : goal.returns-clause-terms
returns-clause-terms c =
    let s = c.loop-k in
    let row = entries_along 0 c.args.cols.now c.args.words.now in
    let long = length_row 0 c.args.cols.now c.args.words.now c.requires.lengths in
    let all = take_all s.k row (omega (arith, c.loop-k-test.false)) in
    let end : c.args.start + length c.args.cols.now ≡ c.args.start + s.k = omega (arith, c.loop-k-test.false, s.auto.k-end) in
    rw end (s.invariant.terms ∙ ap (λ es. take c.args.start c.args.terms.now ++ times_row c.args.multiply c.args.word es) all)
