use Rattle.std.proofs.Common.{◌≡◌, ◌∙◌, arith, false, inl, inr, sym}
use Rattle.std.proofs.lemmas.Bool.{cases_lt}
use Rattle.store.specs.Stored.{content_of}
use Rattle.shapes.specs.Places.{is_in, nth_index}
use Rattle.shapes.proofs.SpanLaws.{listed_none, listed_part, listed_passed}
use Rattle.shapes.proofs.assigning.place_listed.Goals as goal
use Rattle.shapes.proofs.assigning.place_listed.Goals.{then-not-leads_into+in_ok-place_part, else-not-leads_into}

pub loop-k-init : goal.loop-k-init
loop-k-init c =
    let a = c.args.a.now in
    record {
      up = omega arith;
      leads = λ p from less. absurd (omega arith);
      is = rw c.new-entries.ensures.items (listed_none c.args.rows.now c.args.cols.now c.args.range.now.start c.args.range.now.end a.cols (content_of a));
    }

pub loop-k-preserved : goal.loop-k-preserved
loop-k-preserved c =
    let a = c.args.a.now in
    let rows = c.args.rows.now in
    let cols = c.args.cols.now in
    let first = c.args.range.now.start in
    let past = c.args.range.now.end in
    let k = c.loop-k.k in
    let low = c.loop-k.low in
    let here = c.loop-k.invariant in
    elim c.if-not-leads_into.branch [
      | then-not-leads_into+in_ok-place_part w ↦
          let out : is_in first past (nth_index rows k) ≡ false = sym c.leads_into.ensures ∙ w.if-not-leads_into.true in
          let part = listed_part rows cols first past a.cols low k (content_of a) c.loop-k.entries.items here.up here.leads here.is in
          rw (w.low-is, w.entries-is) (record {
            up = omega arith;
            leads = λ p from less. absurd (omega arith);
            is = listed_passed rows cols first past a.cols k (content_of a) w.place_part.new.entries.items out (w.in_ok-place_part.ensures ∙ part);
          })
      | else-not-leads_into w ↦
          let up = here.up in
          rw (w.low-is, w.entries-is) (record {
            up = omega arith;
            leads = λ p from less. elim (cases_lt p k) [
              | inl before ↦ here.leads p from before
              | inr behind ↦ let same : p ≡ k = omega arith in rw same (sym c.leads_into.ensures ∙ w.if-not-leads_into.false)
            ];
            is = here.is;
          })
    ]

pub returns : goal.returns
returns c =
    let a = c.args.a.now in
    let here = c.loop-k.invariant in
    let up = here.up in
    let most = c.loop-k.auto.k-end in
    let end : c.loop-k.k ≡ a.rows = omega (arith, c.loop-k-test.false, most, c.rows-k-end.ensures.rows) in
    rw c.rows.ensures.rows at c.in_ok-place_part-2.ensures
    ∙ listed_part c.args.rows.now c.args.cols.now c.args.range.now.start c.args.range.now.end a.cols c.loop-k.low a.rows (content_of a) c.loop-k.entries.items (omega arith) (λ p from less. here.leads p from (omega arith)) here.is
