use Rattle.std.proofs.Common.{◌++◌, ◌<◌, ap, map, subst, sym}
use Rattle.std.proofs.lemmas.List.{append-nil}
use Rattle.std.proofs.lemmas.List.Elements.{All-weaker}
use Rattle.model.specs.Entries.{entries_between}
use Rattle.store.specs.Stored.{AreIn, content_of}
use Rattle.store.proofs.RowEntries.{entries_between-inside}
use Rattle.store.proofs.Walks.{rest_shorter}
use Rattle.shapes.specs.Places.{Reaches, moved_entry}
use Rattle.shapes.proofs.SpanLaws.{between_none, moved_more}
use Rattle.shapes.proofs.Walked.{first_inside}
use Rattle.shapes.proofs.assigning.place_part.Goals as goal

pub returns-then-part : goal.returns-then-part
returns-then-part c =
    let a = c.args.a.now in
    rw (between_none c.args.part.start c.args.part.end a.cols (content_of a) c.if-part.true) (sym (append-nil c.args.entries.now.items))

pub loop-row-init : goal.loop-row-init
loop-row-init c =
    let a = c.args.a.now in
    let all = c.rows_in-rest.ensures.entries in
    record {
      inside = subst (AreIn c.args.part.start c.args.part.end a.cols) (sym all) (entries_between-inside c.args.part.start c.args.part.end a.cols (content_of a));
      is = rw c.reserve.ensures.items (ap (λ es. c.args.entries.now.items ++ map (moved_entry c.args.rows.now c.args.cols.now) es) all);
    }

pub nth_index-index-requires : goal.nth_index-index-requires
nth_index-index-requires c =
    let row = c.in-Some.row in
    c.requires.rows row.index (first_inside c.args.part.start c.args.part.end c.args.a.now.cols row.index row.cols.now row.words.now c.loop-row.rest.entries c.in-Some.others.entries c.loop-row.invariant.inside c.in-Some.ensures).high

pub place_row-requires-clause-cols : goal.place_row-requires-clause-cols
place_row-requires-clause-cols c =
    let row = c.in-Some.row in
    let cols = c.args.a.now.cols in
    All-weaker (λ col. col < cols) (Reaches c.args.cols.now) (λ col less. c.requires.cols col less) row.cols.now
    (first_inside c.args.part.start c.args.part.end cols row.index row.cols.now row.words.now c.loop-row.rest.entries c.in-Some.others.entries c.loop-row.invariant.inside c.in-Some.ensures).inside

pub loop-row-smaller : goal.loop-row-smaller
loop-row-smaller c =
    let row = c.in-Some.row in
    rest_shorter row.index row.cols.now row.words.now c.loop-row.rest.entries c.in-Some.others.entries c.in-Some.ensures

pub loop-row-preserved : goal.loop-row-preserved
loop-row-preserved c =
    let a = c.args.a.now in
    let row = c.in-Some.row in
    let first = c.args.part.start in
    let past = c.args.part.end in
    let rest = c.loop-row.rest.entries in
    let others = c.in-Some.others.entries in
    let here = c.loop-row.invariant in
    let all = c.args.entries.now.items ++ map (moved_entry c.args.rows.now c.args.cols.now) (entries_between first past a.cols (content_of a)) in
    record {
      inside = (first_inside first past a.cols row.index row.cols.now row.words.now rest others here.inside c.in-Some.ensures).left;
      is = rw (c.in_ok-place_row.ensures, c.nth_index-index.ensures) (moved_more c.args.rows.now c.args.cols.now row.index row.cols.now row.words.now c.loop-row.entries.items rest others all c.in-Some.ensures.whole here.is);
    }
