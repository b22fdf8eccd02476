use Rattle.std.proofs.Common.{◌≡◌, ◌∷◌, [], ◌∙◌, ◌++◌, ◌+◌, ◌<◌, ◌≤◌, ap, arith, get_or, length, refl, sym, take}
use Rattle.std.proofs.lemmas.List.{length-set, take_all}
use mir.Val.{bool_byte}
use Rattle.model.specs.Entries.{entry_at}
use Rattle.store.specs.Fibers.{entries_along}
use Rattle.store.proofs.Places.{length_row, row_at}
use Rattle.masks.proofs.MarkedLaws.{one_at_most}
use Rattle.terms.specs.Marked.{keeps_marked}
use Rattle.terms.specs.Terms.{kept_terms, term_at, times_row}
use Rattle.terms.proofs.Terms.{times_more}
use Rattle.terms.proofs.Written.{written_one}
use Rattle.terms.proofs.products.write_kept.Goals as goal

pub loop-k-preserved : goal.loop-k-preserved
loop-k-preserved c =
    let s = c.loop-k in
    let row = entries_along 0 c.args.cols.now c.args.words.now in
    let d = entry_at 0 0 0 in
    let keeps = keeps_marked c.args.mask in
    let front = take c.args.start c.args.terms.now in
    let done = times_row c.args.multiply c.args.word (take s.k row) in
    let term = term_at (get_or c.args.cols.now s.k 0) c.eval.result in
    let long = length_row 0 c.args.cols.now c.args.words.now c.requires.lengths in
    let within : s.k < length row = omega (arith, c.loop-k-test.true) in
    let at = row_at 0 c.args.cols.now c.args.words.now s.k d c.requires.lengths c.loop-k-test.true in
    let more : times_row c.args.multiply c.args.word (take (s.k + 1) row) ≡ done ++ term ∷ [] =
    times_more c.args.multiply c.args.word row s.k d within ∙ rw (at, c.eval.ensures) refl in
    let same = s.invariant.length_is in
    let high = s.invariant.high in
    let room : s.end < length s.terms = omega (arith, c.requires.room, c.loop-k-test.true) in
    let is : c.from-end.result ≡ bool_byte (keeps term.col) = c.from-end.ensures ∙ ap bool_byte c.lets_row-is_kept.ensures in
    let few : c.from-end.result ≤ 1 = rw is (one_at_most bool_byte (keeps term.col) refl refl) in
    record {
      length_is = length-set s.terms s.end term ∙ same;
      high = omega arith;
      terms =
          written_one keeps bool_byte s.terms front done s.end c.from-end.result term room s.invariant.terms is refl refl
          ∙ ap (λ ts. front ++ kept_terms keeps ts) (sym more);
    }

pub returns-clause-terms : goal.returns-clause-terms
returns-clause-terms c =
    let s = c.loop-k in
    let row = entries_along 0 c.args.cols.now c.args.words.now in
    let long = length_row 0 c.args.cols.now c.args.words.now c.requires.lengths in
    let all = take_all s.k row (omega (arith, c.loop-k-test.false)) in
    s.invariant.terms
    ∙ ap (λ es. take c.args.start c.args.terms.now ++ kept_terms (keeps_marked c.args.mask) (times_row c.args.multiply c.args.word es)) all
