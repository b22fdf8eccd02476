-- The block's fibers stand behind those so far.
use Rattle.std.proofs.Common.{◌≡◌, ◌++◌, ◌+◌, ◌<◌, length, length-append, arith}
use Rattle.pieces.proofs.JointLaws.{attached, ends_fit, words_more}
use Rattle.pieces.specs.Joints.{entries_of, words_in}
use Rattle.store.specs.Fibers.{entries_in}
use Rattle.store.specs.Stored.{AreIn, along}
use Rattle.store.proofs.AttachLaws.{IsAttached}
use Rattle.store.proofs.PartLaws.{part_behind}
use Rattle.pieces.proofs.joint.Joint.put.Goals as goal
use Rattle.pieces.proofs.joint.Joint.put.Goals.{After-drop-ends-2}

pub put_ends-requires : goal.put_ends-requires
put_ends-requires c =
    let l = c.into_lists-ends in
    let sum = c.in-Some.ensures in
    let fits = sum.0 in
    let room : c.args.self.now.count + length l.result.inner.items < 18446744073709551616 = omega (arith, c.len.ensures, l.result.inner.ok) in
    rw c.deref.ensures.value (ends_fit c.args.self.now.count 18446744073709551616 l.result.ends.items l.result.inner.items l.result.words.items l.ensures.flat room)

made : (c : After-drop-ends-2)
    → IsAttached c.put_ends.new.ends.items c.args.self.now.ends.items c.into_lists-ends.result.ends.items (words_in c.args.self.now.inner.items) (words_in c.args.self.now.words.items) c.into_lists-ends.result.inner.items c.into_lists-ends.result.words.items
made c =
    let old = c.args.self.now in
    let b = c.args.block in
    let l = c.into_lists-ends in
    let inside : AreIn b.first b.past b.cols (along b.cols (entries_in l.result)) = rw l.ensures.entries l.ensures.inside in
    attached old.ends.items l.result.ends.items c.put_ends.new.ends.items (words_in old.inner.items) (words_in old.words.items) l.result.inner.items l.result.words.items
    c.requires.fibers.flat l.ensures.flat
    (part_behind 0 b.first b.past b.cols (entries_of old) (entries_in l.result) c.requires.front inside)
    (rw (c.deref.ensures.value, c.requires.fibers.counted) at c.in_ok-put_ends.ensures)

pub returns : goal.returns
returns c =
    let old = c.args.self.now in
    let l = c.into_lists-ends in
    let is = made c in
    let inner : words_in c.push.new.self.items ≡ words_in old.inner.items ++ l.result.inner.items = rw c.in_ok-push.ensures.items (words_more old.inner.items l.result.inner) in
    let words : words_in c.push-2.new.self.items ≡ words_in old.words.items ++ l.result.words.items = rw c.in_ok-push-2.ensures.items (words_more old.words.items l.result.words) in
    record {
      fibers = record {
        flat = rw (inner, words) is.flat;
        counted = rw inner (let sum = c.in-Some.ensures in let is = sum.1 in omega (arith, c.len.ensures, c.requires.fibers.counted, l.result.inner.ok, length-append (words_in old.inner.items) l.result.inner.items));
      };
      part = entries_in l.result;
      whole = rw (inner, words) is.entries;
      entries = l.ensures.entries;
      inside = l.ensures.inside;
    }
