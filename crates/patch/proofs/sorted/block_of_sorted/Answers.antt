use Rattle.std.proofs.Common.{◌≡◌, ◌∙◌, List, ap}
use Rattle.std.specs.Option.{option_map}
use Rattle.algebra.specs.OperatorNames.{op_named}
use Rattle.model.specs.Builds.{gathered}
use Rattle.model.specs.declared.entry.Entry.{Entry}
use Rattle.model.specs.Entries.{word_at}
use Rattle.store.specs.Stored.{AreIn, along}
use Rattle.runs.specs.Runs.{runs_of}
use Rattle.patch.proofs.GatherLaws.{along-inside, along_order, along_twice, along-words}
use Rattle.patch.proofs.sorted.block_of_sorted.Goals as goal

pub join_runs-requires : goal.join_runs-requires
join_runs-requires c =
    let range = c.args.range in
    rw (c.deref.ensures.value, c.lay_along-entries.ensures) (along_order range.start range.end c.args.cols c.args.entries.items c.requires.order c.requires.inside)

pub of_fibers-requires-clause-inside : goal.of_fibers-requires-clause-inside
of_fibers-requires-clause-inside c =
    let joins = option_map op_named c.args.joins in
    let cols = c.args.cols in
    let es = c.args.entries.items in
    let range = c.args.range in
    let kept = c.shrink_to_fit.ensures in
    let inside : AreIn range.start range.end cols (along cols (along cols es)) = rw (along_twice cols es) c.requires.inside in
    rw (kept.ends, kept.inner, kept.words, c.in_ok-lists.ensures.entries, c.deref.ensures.value, c.lay_along-entries.ensures) (along-inside joins range.start range.end cols (along cols es) inside)

pub returns-clause-words : goal.returns-clause-words
returns-clause-words c i j =
    let joins = option_map op_named c.args.joins in
    let cols = c.args.cols in
    let es = c.args.entries.items in
    let range = c.args.range in
    let kept = c.shrink_to_fit.ensures in
    let lies : c.deref.result.now ≡ along cols es = c.deref.ensures.value ∙ c.lay_along-entries.ensures in
    let order = along_order range.start range.end cols es c.requires.order c.requires.inside in
    let entries : c.of_fibers.result.entries ≡ along cols (runs_of joins (along cols es)) = c.of_fibers.ensures.entries ∙ rw (kept.ends, kept.inner, kept.words) (ap (along cols) (c.in_ok-lists.ensures.entries ∙ ap (runs_of joins) lies)) in
    ap (λ (es : List Entry). word_at es i j) entries
    ∙ along-words joins cols (along cols es) order i j
    ∙ ap (λ (es : List Entry). gathered joins es i j) (along_twice cols es)
