use Rattle.std.proofs.Common.{◌≡◌, ◌+◌, ◌-◌, ◌≤◌, ◌++◌, ◌∙◌, ap, arith, drop, length, length-drop, length-take, refl, take}
use borrow.Rule.Slice.PartMut.{put_mid}
use Rattle.std.proofs.lemmas.List.{with_items_is}
use Rattle.masks.proofs.FiberMerges.{length_put, put_take}
use Rattle.spgemm.proofs.keep.keep_sums.Goals as goal

pub returns : goal.returns
returns c =
    let a = c.args.start in
    let k = (a + c.args.part.end) - a in
    let kept = c.keep_fiber-kept.result in
    let inner = c.deref_mut.result.now in
    let words = c.deref_mut-2.result.now in
    let new_inner = c.keep_fiber-kept.new.inner in
    let new_words = c.keep_fiber-kept.new.words in
    let inner_is = c.deref_mut.ensures.value in
    let words_is = c.deref_mut-2.ensures.value in
    let high = c.requires.high in
    let same = c.requires.lengths in
    let room : a + k ≤ length inner = rw inner_is (omega arith) in
    let words_room : a + k ≤ length words = rw words_is (omega arith) in
    let put_inner = c.keep_fiber-kept.ensures.inner_length in
    let put_words = c.keep_fiber-kept.ensures.words_length in
    let bound = c.keep_fiber-kept.ensures.bound in
    let inner_long : length new_inner ≡ k = omega (arith, length-take k (drop a inner), length-drop a inner) in
    let words_long : length new_words ≡ k = omega (arith, length-take k (drop a words), length-drop a words) in
    let few : kept ≤ k = omega (arith, length-take k (drop a inner), length-drop a inner) in
    let end : k ≡ c.args.part.end = omega arith in
    record {
      kept = take kept new_inner;
      kept_words = take kept new_words;
      lengths = omega (arith, length-take kept new_inner, length-take kept new_words);
      entries = λ row. rw (end, inner_is, words_is) at (c.keep_fiber-kept.ensures.kept row);
      inner = c.truncate.ensures.items ∙ ap (take (a + kept)) (with_items_is c.args.lists.now.inner (put_mid a k inner new_inner) (length_put a k inner new_inner room inner_long ∙ c.deref_mut.ensures.len)) ∙ put_take a k kept inner new_inner (omega arith) (omega arith) ∙ ap (λ xs. take a xs ++ take kept new_inner) inner_is;
      words_are = c.truncate-2.ensures.items ∙ ap (take (a + kept)) (with_items_is c.args.lists.now.words (put_mid a k words new_words) (length_put a k words new_words words_room words_long ∙ c.deref_mut-2.ensures.len)) ∙ put_take a k kept words new_words (omega arith) (omega arith) ∙ ap (λ xs. take a xs ++ take kept new_words) words_is;
      ends = refl;
    }
