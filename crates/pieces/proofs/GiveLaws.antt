-- A block that is given for a piece.
use Rattle.std.proofs.Common.{◌≡◌, ◌∙◌, ℕ, ◌<◌, ◌≤◌, ◌+◌, ◌-◌, ◌&&◌, Bool, true, false, List, [], length, replicate, arith}
use Rattle.std.proofs.Common.{Ok, Err, Some, None, cond, refl, slice_get, sym, ap, subst}
use Rattle.std.proofs.lemmas.Bool.{lt-ltb}
use Rattle.std.proofs.lemmas.List.{length-replicate}
use Rattle.std.proofs.lemmas.Option.{slice_get_within}
use Rattle.kernel.specs.declared.block.Block.{Block}
use Rattle.kernel.specs.Covers.{Covers}
use Rattle.pieces.specs.declared.part.Part.{Part}
use Rattle.pieces.specs.declared.part.Part.TheVariants.{Due, Given, Joined}
use Rattle.pieces.specs.declared.pieces.Refused.TheVariants.{Stranger}
use Rattle.pieces.specs.Parts.{IsKept, Parts, after_give, all_given, blocks_in, end_of, given_to, has_rows, is_out}
use Rattle.pieces.specs.Parts.{parts_of}
use Rattle.pieces.specs.Parts.{start_of, to_come, was_given_at, with_block}
use Rattle.pieces.proofs.CoverLaws.{covers_from}
use Rattle.pieces.proofs.PartLaws.{each_block, due_at, due_there, get_replicate, get_set, get_set_other, given_not_due, joined_open, length_set}
use Rattle.pieces.proofs.PartLaws.{none_due, some_due, to_come_joined, to_come_put}

-- a block that hasn't the rows of its piece
pub answer_other : (p : Parts) (k : ℕ) (block : Block) → was_given_at p.parts k ≡ false
    → has_rows (start_of p.ends k) (end_of p.ends k) block ≡ false → Err Stranger ≡ given_to p k block
answer_other p k block free other = rw (free, other) (go (is_out p k))
  where
    go : (b : Bool) → Err Stranger ≡ cond (b && false) (Ok (cond (all_given (with_block p k block)) (Some (blocks_in (with_block p k block))) None)) (Err Stranger)
    go true = refl
    go false = refl

-- a block is accepted
pub record IsAccepted (p : Parts) (left : ℕ) (room : List Block) (capacity k : ℕ) (block : Block) : Type 0 where
  pub kept : IsKept p left room capacity
  pub free : was_given_at p.parts k ≡ false
  pub taken : k < p.taken
  pub rows : has_rows (start_of p.ends k) (end_of p.ends k) block ≡ true

-- ..as calls tell it, which saw the lists
pub accepted : (ends seen_ends : List ℕ) (taken : ℕ) (parts seen_parts : List Part) (left : ℕ) (room : List Block) (capacity k : ℕ) (block : Block)
    (given fits : Bool) → IsKept (parts_of ends taken parts) left room capacity → seen_parts ≡ parts → given ≡ was_given_at seen_parts k
    → given ≡ false → k < taken → seen_ends ≡ ends → fits ≡ has_rows (start_of seen_ends k) (end_of seen_ends k) block → fits ≡ true
    → IsAccepted (parts_of ends taken parts) left room capacity k block
accepted ends seen_ends taken parts seen_parts left room capacity k block given fits kept same_parts told_given free below same_ends told_fits rows = record {
  kept = kept;
  free = ap (λ ps. was_given_at ps k) (sym same_parts) ∙ (sym told_given ∙ free);
  taken = below;
  rows = ap (λ es. has_rows (start_of es k) (end_of es k) block) (sym same_ends) ∙ (sym told_fits ∙ rows);
}

module _ {p : Parts} {left : ℕ} {room : List Block} {capacity k : ℕ} {block : Block} (a : IsAccepted p left room capacity k block) where
  due : slice_get p.parts k ≡ Some Due
  due = due_there p.parts k (omega (arith, a.taken, a.kept.parts.within, a.kept.parts.sized)) a.free

  pub left_more : to_come (with_block p k block) + 1 ≡ left
  left_more = to_come_put p.parts k block due ∙ sym a.kept.counted

  pub sized_with : length (with_block p k block) ≡ length p.ends
  sized_with = length_set p.parts k (Given block) ∙ a.kept.parts.sized

  not_joined : (j : ℕ) → slice_get (with_block p k block) j ≡ Some Joined → ⊥
  not_joined j is = get_set p.parts k j (Given block) Joined is (λ at e. cc (e))
      (λ at e. let f : Some Due ≡ Some Joined = sym due ∙ a.kept.parts.joined j k e (omega (arith, a.taken, a.kept.parts.within)) in cc (f))

  fits_with : (j : ℕ) (b : Block) → slice_get (with_block p k block) j ≡ Some (Given b) → has_rows (start_of p.ends j) (end_of p.ends j) b ≡ true
  fits_with j b is = get_set p.parts k j (Given block) (Given b) is
      (λ at e. let f : block ≡ b = cc (e) in subst (λ n. has_rows (start_of p.ends n) (end_of p.ends n) b ≡ true) (sym at)
      (subst (λ c. has_rows (start_of p.ends k) (end_of p.ends k) c ≡ true) f a.rows))
      (λ at e. a.kept.parts.fits j b e)

  -- a piece that nobody took
  due_with : (j : ℕ) → p.taken ≤ j → j < length p.ends → slice_get (with_block p k block) j ≡ Some Due
  due_with j above low = get_set_other p.parts k j (Given block) (λ e. omega (arith, e, a.taken, above)) ∙ a.kept.parts.due j above low

  -- ---- other blocks are to come

  module _ (more : 0 < left - 1) where
    not_all : all_given (with_block p k block) ≡ false
    not_all = some_due (with_block p k block) (omega (arith, left_more, more))

    pub kept_more : IsKept (record p { parts = with_block p k block }) (left - 1) room capacity
    kept_more = record {
      parts = record {
        several = a.kept.parts.several;
        last = a.kept.parts.last;
        rising = a.kept.parts.rising;
        sized = sized_with;
        within = a.kept.parts.within;
        due = due_with;
        fits = fits_with;
        joined = λ i j is. absurd (not_joined i is);
        pending = not_all;
      };
      counted = omega (arith, left_more);
      empty = a.kept.empty;
      roomy = λ h. a.kept.roomy (omega (arith, left_more));
    }

    pub answer_more : Ok None ≡ given_to p k block
    answer_more = rw (a.free, lt-ltb k p.taken a.taken, due_at p.parts k due, a.rows, not_all)

    pub after_more : record p { parts = with_block p k block } ≡ after_give p k block
    after_more = rw not_all

  -- ---- it is the last

  module _ (last : left - 1 ≤ 0) where
    all : all_given (with_block p k block) ≡ true
    all = none_due (with_block p k block) not_joined (omega (arith, left_more, last))

    pub kept_last : (parts : List Part) (empty : List Block) (capacity' : ℕ) → parts ≡ replicate (length p.ends) Joined → empty ≡ []
        → IsKept (record p { parts = parts }) (left - 1) empty capacity'
    kept_last parts empty capacity' are is = subst (λ ps. IsKept (record p { parts = ps }) (left - 1) empty capacity') (sym are) (record {
      parts = record {
        several = a.kept.parts.several;
        last = a.kept.parts.last;
        rising = a.kept.parts.rising;
        sized = length-replicate (length p.ends) Joined;
        within = a.kept.parts.within;
        due = λ j above low. absurd (given_not_due (with_block p k block) j all (due_with j above low));
        fits = λ j b at. absurd (joined_only j (Given b) at (λ e. cc (e)));
        joined = λ i j at low. get_replicate (length p.ends) j Joined low;
        pending = joined_open (length p.ends) (omega (arith, a.kept.parts.several));
      };
      counted = omega (arith, to_come_joined (length p.ends), last);
      empty = is;
      roomy = λ h. absurd (omega (arith, h, last));
    })
      where
        joined_only : (j : ℕ) (part : Part) → slice_get (replicate (length p.ends) Joined) j ≡ Some part → (Joined ≡ part → ⊥) → ⊥
        joined_only j part at other =
            let low : j < length p.ends = omega (arith, slice_get_within (replicate (length p.ends) Joined) j part at, length-replicate (length p.ends) Joined) in
            let e : Some Joined ≡ Some part = sym (get_replicate (length p.ends) j Joined low) ∙ at in
            other (cc (e))

    pub answer_last : Ok (Some (blocks_in (with_block p k block))) ≡ given_to p k block
    answer_last = rw (a.free, lt-ltb k p.taken a.taken, due_at p.parts k due, a.rows, all)

    pub after_last : record p { parts = replicate (length p.ends) Joined } ≡ after_give p k block
    after_last = rw all

    pub each_last : length (blocks_in (with_block p k block)) ≡ length p.ends
    each_last = each_block (with_block p k block) all ∙ sized_with

    pub covers_last : Covers 0 p.rows (blocks_in (with_block p k block))
    covers_last = covers_from p a.kept.parts 0 (with_block p k block) (omega (arith, sized_with)) (λ j b at.
        let e : j ≡ 0 + j = omega arith in
        subst (λ n. has_rows (start_of p.ends n) (end_of p.ends n) b ≡ true) e (fits_with j b at)) all
