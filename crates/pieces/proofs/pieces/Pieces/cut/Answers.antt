use Rattle.std.proofs.Common.{◌≡◌, ◌∙◌, ◌≤◌, [], arith, replicate, sym, vec_capacity}
use Rattle.pieces.specs.declared.part.Part.TheVariants.{Due}
use Rattle.pieces.specs.Parts.{ends_of}
use Rattle.pieces.proofs.CutLaws.{from_ok, kept_cut}
use Rattle.pieces.proofs.pieces.Pieces.cut.Goals as goal

pub invariant_of-result : goal.invariant_of-result
invariant_of-result c =
    kept_cut c.args.rows c.args.cuts.now c.in_ok-ends.ends.items c.in_ok-parts.parts.items c.in_ok-room.room.items c.len-count.result _
    (from_ok (λ v. v.items ≡ ends_of c.args.rows c.args.cuts.now) _ c.in_ok-ends.ends c.ends_of.ensures (sym c.ok.ensures.value ∙ c.in_ok-ends.was))
    (from_ok (λ v. v.items ≡ replicate c.len-count.result Due) _ c.in_ok-parts.parts c.all_due.ensures (sym c.ok-2.ensures.value ∙ c.in_ok-parts.was))
    (omega arith) (omega arith)
    (from_ok (λ v. v.items ≡ []) _ c.in_ok-room.room c.with_capacity.ensures.items (sym c.ok-3.ensures.value ∙ c.in_ok-room.was))
    (from_ok (λ v. c.len-count.result ≤ vec_capacity v) _ c.in_ok-room.room c.with_capacity.ensures.capacity (sym c.ok-3.ensures.value ∙ c.in_ok-room.was))

pub returns-clause-sound : goal.returns-clause-sound
returns-clause-sound c =
    let kept =
    kept_cut c.args.rows c.args.cuts.now c.in_ok-ends.ends.items c.in_ok-parts.parts.items c.in_ok-room.room.items c.len-count.result _
    (from_ok (λ v. v.items ≡ ends_of c.args.rows c.args.cuts.now) _ c.in_ok-ends.ends c.ends_of.ensures (sym c.ok.ensures.value ∙ c.in_ok-ends.was))
    (from_ok (λ v. v.items ≡ replicate c.len-count.result Due) _ c.in_ok-parts.parts c.all_due.ensures (sym c.ok-2.ensures.value ∙ c.in_ok-parts.was))
    (omega arith) (omega arith)
    (from_ok (λ v. v.items ≡ []) _ c.in_ok-room.room c.with_capacity.ensures.items (sym c.ok-3.ensures.value ∙ c.in_ok-room.was))
    (from_ok (λ v. c.len-count.result ≤ vec_capacity v) _ c.in_ok-room.room c.with_capacity.ensures.capacity (sym c.ok-3.ensures.value ∙ c.in_ok-room.was)) in
    kept.parts
