use Rattle.std.proofs.Common.{◌∙◌, ◌++◌, ◌-◌, ◌<◌, ◌^◌, append_assoc, map, subst, sym}
use Rattle.std.specs.List.{All}
use Rattle.std.proofs.lemmas.List.{map-append}
use Rattle.std.proofs.lemmas.List.Concat.{flat_map-append}
use Rattle.model.specs.Text.{ended, entry_line}
use Rattle.store.specs.Fibers.{entries_along}
use Rattle.store.proofs.Order.{all_append_right}
use Rattle.store.proofs.Walks.{rest_shorter}
use Rattle.mmio.proofs.WriteLaws.{cols_below, index_below}
use Rattle.mmio.proofs.writing.write_rows.Goals as goal

pub write_row-requires-clause-index : goal.write_row-requires-clause-index
write_row-requires-clause-index c =
    let row = c.in-Some.row in
    index_below (2 ^ 64 - 1) row.index row.cols.now row.words.now c.loop-row.rest.entries c.in-Some.others.entries c.in-Some.ensures c.loop-row.invariant.left

pub write_row-requires-clause-cols : goal.write_row-requires-clause-cols
write_row-requires-clause-cols c =
    let row = c.in-Some.row in
    cols_below (2 ^ 64 - 1) row.index row.cols.now row.words.now c.loop-row.rest.entries c.in-Some.others.entries c.in-Some.ensures c.loop-row.invariant.left

pub loop-row-smaller : goal.loop-row-smaller
loop-row-smaller c =
    let row = c.in-Some.row in
    rest_shorter row.index row.cols.now row.words.now c.loop-row.rest.entries c.in-Some.others.entries c.in-Some.ensures

pub loop-row-preserved : goal.loop-row-preserved
loop-row-preserved c =
    let row = c.in-Some.row in
    let starts = c.in-Some.ensures in
    let here = c.loop-row.invariant in
    let new = entries_along row.index row.cols.now row.words.now in
    let line = entry_line c.args.domain in
    record {
      done = here.done ++ new;
      split = here.split ∙ rw starts.whole (sym (append_assoc here.done new c.in-Some.others.entries));
      out = c.in_ok-write_row.ensures.ok ∙ rw (here.out, map-append line here.done new, flat_map-append ended (map line here.done) (map line new)) (simp append_assoc);
      left = all_append_right (λ e. (e.row < 2 ^ 64 - 1) × (e.col < 2 ^ 64 - 1)) new c.in-Some.others.entries (subst (All (λ e. (e.row < 2 ^ 64 - 1) × (e.col < 2 ^ 64 - 1))) starts.whole here.left);
    }
