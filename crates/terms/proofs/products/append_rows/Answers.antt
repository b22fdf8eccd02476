use Rattle.std.proofs.Common.{◌∙◌, Bool, arith, get_or, refl, rules, sym, take}
use Rattle.std.proofs.lemmas.List.{take_all}
use Rattle.std.proofs.lemmas.List.Elements.{filter-append}
use Rattle.store.specs.Fibers.{entries_along}
use Rattle.terms.specs.Marked.{lets_marked}
use Rattle.terms.specs.declared.term.Term.{Term}
use Rattle.terms.specs.Terms.{terms_of_row, times_row}
use Rattle.terms.proofs.Terms.{row_more}
use Rattle.terms.proofs.products.append_rows.Goals as goal

pub loop-listed-init : goal.loop-listed-init
loop-listed-init c =
    let all = take_all c.len-end.result c.args.terms.now.items (omega (arith, c.len-end.ensures)) in
    record {
      terms = c.in_ok-make_room.ensures.before ∙ all ∙ c.requires.terms.are_those;
      room = omega (arith, c.in_ok-make_room.ensures.room);
      low = omega arith;
      high = omega (arith, c.requires.more);
      more = λ le. refl;
    }

pub loop-listed-preserved : goal.loop-listed-preserved
loop-listed-preserved c =
    let s = c.loop-listed in
    let mul = c.args.semiring.multiply in
    let row = c.args.row in
    let line = c.row_near-hint in
    let keeps : Term → Bool = λ t. lets_marked c.args.mask t.col in
    let before = terms_of_row mul (take s.listed.done (entries_along row.index row.cols.now row.words.now)) c.args.b.now in
    let more = row_more mul c.args.b.now row.index row.cols.now row.words.now s.listed.done line.result.0.now line.result.1.now c.requires.lengths (omega (arith, c.loop-listed-test.true)) line.ensures.entries in
    let kept = filter-append keeps before (times_row mul (get_or row.words.now s.listed.done 0) (entries_along 0 line.result.0.now line.result.1.now)) in
    record {
      terms = c.in_ok-end.ensures.terms ∙ rw (s.invariant.terms, more) (sym kept);
      room = search rules;
      low = omega (arith, s.invariant.low);
      high = omega (arith, c.loop-listed-test.true);
      more = λ le. absurd (omega (arith, s.invariant.low));
    }
