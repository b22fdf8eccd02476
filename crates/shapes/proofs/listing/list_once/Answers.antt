use Rattle.std.proofs.Common.{◌≡◌, ◌∙◌, ◌<◌, ◌≤◌, ℕ, Bool, true, Vec, Global, arith, is_some}
use Rattle.model.specs.Indices.{place_in}
use Rattle.shapes.specs.Lists.{AreOnce, IsPartIn}
use Rattle.shapes.proofs.Going.{if_ok}
use Rattle.shapes.proofs.ListLaws.{every_has, sorted_has, sorted_rises}
use Rattle.shapes.proofs.listing.list_once.Goals as goal

pub part_in-requires : goal.part_in-requires
part_in-requires c = sorted_rises c.args.indices.now c.in-Some.sorted.now c.in-Some.ensures

pub returns-in-Some : goal.returns-in-Some
returns-in-Some c =
    let first = c.args.range.start in
    let past = c.args.range.end in
    let indices = c.args.indices.now in
    let part = c.part_in.ensures.part in
    if_ok (λ (list : Vec ℕ Global). (first past : ℕ) (has : ℕ → Bool) → IsPartIn first past has c.part_in.result.now → AreOnce first past has list.items)
    (λ (list : Vec ℕ Global). (size : ℕ) → past ≤ size → AreOnce first past (λ i. is_some (place_in size indices i)) list.items) c.copy_once.result
    (λ list once size within. once first past (λ i. is_some (place_in size indices i)) (record {
      inside = part.inside;
      members = λ i low high. part.members i low high ∙ sorted_has size i indices c.in-Some.sorted.now c.in-Some.ensures;
    })) c.copy_once.ensures

pub returns-in-None : goal.returns-in-None
returns-in-None c =
    let first = c.args.range.start in
    let past = c.args.range.end in
    let indices = c.args.indices.now in
    if_ok (λ (list : Vec ℕ Global). (has : ℕ → Bool) → ((i : ℕ) → i < past → has i ≡ true) → AreOnce first past has list.items)
    (λ (list : Vec ℕ Global). (size : ℕ) → past ≤ size → AreOnce first past (λ i. is_some (place_in size indices i)) list.items) c.count_up.result
    (λ list once size within. once (λ i. is_some (place_in size indices i)) (λ i less. every_has size i indices c.in-None.ensures (omega arith))) c.count_up.ensures
