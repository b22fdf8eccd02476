use Rattle.std.proofs.Common.{◌≡◌, ◌∙◌, ◌++◌, ◌∷◌, [], Some, ap, arith, drop, refl, replicate, slice_get, slice_set, sym}
use Rattle.std.proofs.lemmas.Option.{slice_get_read}
use Rattle.pieces.specs.declared.part.Part.TheVariants.{Joined}
use Rattle.pieces.proofs.PartLaws.{behind_joined, blocks_more, blocks_same, joined_more, not_given}
use Rattle.pieces.proofs.part.hand_out.Goals as goal
use Rattle.pieces.proofs.part.hand_out.Goals.{in-Given, in_default}

pub loop-place-preserved : goal.loop-place-preserved
loop-place-preserved c =
    let ps = c.args.parts.now in
    let k = c.loop-place.place in
    let same : c.index-parts-place.result ≡ c.replace.result = c.index-parts-place.is ∙ sym c.replace.ensures.value in
    let here : slice_get ps k ≡ Some c.replace.result =
    sym (behind_joined ps k (omega arith)) ∙ (ap (λ l. slice_get l k) (sym c.loop-place.invariant.joined)
    ∙ (slice_get_read c.loop-place.parts _ k c.index-parts-place.result refl (omega arith) c.index-parts-place.is ∙ ap Some same)) in
    record {
      blocks = elim c.match-replace.branch [
        | in-Given w ↦ ap (λ v. v.items) w.blocks-is ∙ (w.push_reserved.ensures.items
            ∙ (ap (λ l. l ++ w.in-Given.block ∷ []) c.loop-place.invariant.blocks ∙ sym (blocks_more ps k w.in-Given.block (here ∙ ap Some w.in-Given.is))))
        | in_default w ↦ ap (λ v. v.items) w.blocks-is
            ∙ (c.loop-place.invariant.blocks ∙ sym (blocks_same ps k c.replace.result here (not_given c.replace.result w.in_default.not-Given)))
      ];
      joined = ap (λ l. slice_set l k c.replace.new.dest) c.loop-place.invariant.joined
          ∙ (ap (slice_set (replicate k Joined ++ drop k ps) k) c.replace.ensures.after ∙ joined_more ps k (omega arith));
      room = elim c.match-replace.branch [ in-Given w ↦ rw w.blocks-is (omega (arith, w.push_reserved.ensures.capacity)) | in_default w ↦ rw w.blocks-is (omega arith) ];
      within = elim c.match-replace.branch [ in-Given w ↦ rw w.blocks-is (omega (arith, w.push_reserved.ensures.len)) | in_default w ↦ rw w.blocks-is (omega arith) ];
    }
