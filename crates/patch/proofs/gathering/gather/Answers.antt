use Rattle.std.proofs.Common.{◌≡◌, ◌∙◌, ℕ, ◌<◌, ◌≤◌, rules}
use Rattle.std.specs.Option.{option_map}
use Rattle.std.proofs.lemmas.Fn.{always_returns_same}
use Rattle.std.proofs.lemmas.List.Sorted.{All-permutation}
use Rattle.std.proofs.lemmas.Result.{IfOk-weaker}
use Rattle.algebra.specs.OperatorNames.{op_named}
use Rattle.model.specs.Builds.{gathered}
use Rattle.model.specs.declared.entry.Entry.{Entry}
use Rattle.model.proofs.SortedLaws.{IsNarrow, key_of, order_from_sorted}
use Rattle.store.specs.Stored.{Block, block_content}
use Rattle.patch.proofs.GatherLaws.{are_narrow, gathered-sorted}
use Rattle.patch.proofs.gathering.gather.Goals as goal

pub block_of_sorted-requires-clause-order : goal.block_of_sorted-requires-clause-order
block_of_sorted-requires-clause-order c =
    let range = c.args.range in
    let entries = c.args.entries.items in
    let sorted = c.sort_by_key.new.self.items in
    let narrow = All-permutation IsNarrow entries sorted c.in_ok-sort_by_key.ensures.permutation (are_narrow range.start range.end c.args.cols entries c.ranges.cols.fits c.requires) in
    order_from_sorted sorted narrow (c.in_ok-sort_by_key.ensures.sorted key_of (always_returns_same _ _ _ (λ a r f' k. search rules)))

pub block_of_sorted-requires-clause-inside : goal.block_of_sorted-requires-clause-inside
block_of_sorted-requires-clause-inside c =
    let range = c.args.range in
    All-permutation (λ (e : Entry). ((range.start ≤ e.row) × (e.row < range.end)) × (e.col < c.args.cols)) c.args.entries.items c.sort_by_key.new.self.items c.in_ok-sort_by_key.ensures.permutation c.requires

pub returns-clause-words : goal.returns-clause-words
returns-clause-words c =
    let joins = option_map op_named c.args.joins in
    let range = c.args.range in
    let entries = c.args.entries.items in
    let sorted = c.sort_by_key.new.self.items in
    let before = are_narrow range.start range.end c.args.cols entries c.ranges.cols.fits c.requires in
    let after = All-permutation IsNarrow entries sorted c.in_ok-sort_by_key.ensures.permutation before in
    let stable = c.in_ok-sort_by_key.ensures.stable key_of (always_returns_same _ _ _ (λ a r f' k. search rules)) in
    IfOk-weaker c.block_of_sorted.result
    (λ (b : Block). (i j : ℕ) → block_content b i j ≡ gathered joins sorted i j)
    (λ (b : Block). (i j : ℕ) → block_content b i j ≡ gathered joins entries i j)
    (λ b h i j. h i j ∙ gathered-sorted joins entries sorted before after stable i j)
    c.block_of_sorted.ensures.words
