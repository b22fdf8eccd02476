use Rattle.std.proofs.Common.{◌≡◌, ◌<◌, ◌-◌, ◌∙◌, arith, get_or, length, length-set}
use Rattle.std.proofs.lemmas.List.{take_all}
use Rattle.masks.proofs.FullLaws.{put_none, put_one}
use Rattle.masks.proofs.full.put_words.Goals as goal

pub loop-k-init : goal.loop-k-init
loop-k-init c = record {
  long = rw c.requires.start c.requires.full_words;
  joined_are = λ outer f made. rw c.requires.start (put_none f outer c.args.full.inner.now c.args.full.words.now c.requires.full_words c.requires.full_rises);
}

pub loop-k-preserved : goal.loop-k-preserved
loop-k-preserved c =
    let full = c.args.full.inner.now in
    let fw = c.args.full.words.now in
    let ys = c.args.other.inner.now in
    let yw = c.args.other.words.now in
    let s = c.loop-k in
    let some = c.loop-k-test.true in
    let y = get_or ys s.k 0 in
    let p = y - get_or full 0 0 in
    let v = get_or c.args.joined.now s.k 0 in
    let lies = c.requires.around.inside s.k 0 some in
    let low = lies.0 in
    let high = lies.1 in
    let inside : p < length full = omega (arith, low, high) in
    let same : get_or full p 0 ≡ y = omega (arith, c.requires.around.steps p inside, low) in
    record {
      long = length-set s.words p v ∙ s.invariant.long;
      joined_are = λ outer f made. put_one f outer full fw ys yw s.k p s.words v c.requires.full_words c.requires.other_words s.invariant.long c.requires.full_rises c.requires.other_rises some inside same (made s.k some)
          (s.invariant.joined_are outer f made);
    }

pub returns : goal.returns
returns c = λ outer f made.
    let ys = c.args.other.inner.now in
    let yw = c.args.other.words.now in
    let s = c.loop-k in
    let all = take_all s.k ys (omega (arith, c.loop-k-test.false)) in
    let all_words = take_all s.k yw (omega (arith, c.loop-k-test.false, c.requires.other_words)) in
    (rw (all, all_words) at (s.invariant.joined_are outer f made))
