use Rattle.std.proofs.Common.{◌≡◌, ◌∙◌, ap, arith, length, replicate}
use Rattle.pieces.specs.declared.part.Part.TheVariants.{Joined}
use Rattle.pieces.specs.Parts.{parts_of}
use Rattle.pieces.proofs.GiveLaws.{accepted, after_last, after_more, answer_last, answer_more, covers_last, each_last, kept_last, kept_more, left_more}
use Rattle.pieces.proofs.GiveLaws.{sized_with}
use Rattle.std.proofs.lemmas.List.{length-replicate}
use Rattle.pieces.proofs.PartLaws.{take_first}
use Rattle.pieces.proofs.pieces.Pieces.give.Goals as goal

pub overflow_sub-self : goal.overflow_sub-self
overflow_sub-self c =
    let a = accepted _ _ _ _ _ _ _ _ c.args.piece c.args.block _ _ c.self.invariant c.deref.ensures.value c.was_given.ensures c.if-was_given.false
    (omega arith) c.deref-else-place-self.ensures.value c.fits.ensures c.if-not-fits.false in
    omega (arith, left_more a)

pub invariant_of-self : goal.invariant_of-self
invariant_of-self c =
    let a = accepted _ _ _ _ _ _ _ _ c.args.piece c.args.block _ _ c.self.invariant c.deref.ensures.value c.was_given.ensures c.if-was_given.false
    (omega arith) c.deref-else-place-self.ensures.value c.fits.ensures c.if-not-fits.false in
    kept_more a c.if-self-gt0.true

pub returns-then-self-gt0-clause-answer : goal.returns-then-self-gt0-clause-answer
returns-then-self-gt0-clause-answer c =
    let a = accepted _ _ _ _ _ _ _ _ c.args.piece c.args.block _ _ c.self.invariant c.deref.ensures.value c.was_given.ensures c.if-was_given.false
    (omega arith) c.deref-else-place-self.ensures.value c.fits.ensures c.if-not-fits.false in
    rw (← c.self.view_is) (answer_more a c.if-self-gt0.true)

pub returns-then-self-gt0-clause-given : goal.returns-then-self-gt0-clause-given
returns-then-self-gt0-clause-given c =
    let a = accepted _ _ _ _ _ _ _ _ c.args.piece c.args.block _ _ c.self.invariant c.deref.ensures.value c.was_given.ensures c.if-was_given.false
    (omega arith) c.deref-else-place-self.ensures.value c.fits.ensures c.if-not-fits.false in
    rw (← c.self.view_is) (after_more a c.if-self-gt0.true)

pub hand_out-requires-clause-room : goal.hand_out-requires-clause-room
hand_out-requires-clause-room c =
    let a = accepted _ _ _ _ _ _ _ _ c.args.piece c.args.block _ _ c.self.invariant c.deref.ensures.value c.was_given.ensures c.if-was_given.false
    (omega arith) c.deref-else-place-self.ensures.value c.fits.ensures c.if-not-fits.false in
    rw (c.replace-room.ensures.value, c.deref_mut.ensures.value)
    (omega (arith, sized_with a, c.self.invariant.roomy (omega (arith, left_more a))))

pub invariant_of-self-2 : goal.invariant_of-self-2
invariant_of-self-2 c =
    let a = accepted _ _ _ _ _ _ _ _ c.args.piece c.args.block _ _ c.self.invariant c.deref.ensures.value c.was_given.ensures c.if-was_given.false
    (omega arith) c.deref-else-place-self.ensures.value c.fits.ensures c.if-not-fits.false in
    let sized = sized_with a in
    let count : length c.deref_mut.result.now ≡ length c.self.inside.ends.items = ap length c.deref_mut.ensures.value ∙ sized in
    let all : c.hand_out.new.parts ≡ replicate (length c.self.inside.ends.items) Joined = c.hand_out.ensures.joined ∙ ap (λ n. replicate n Joined) count in
    let len : c.self.inside.parts.len ≡ length c.hand_out.new.parts
    = omega (arith, ap length all, length-replicate (length c.self.inside.ends.items) Joined, c.self.invariant.parts.sized, c.self.inside.parts.ok.0) in
    let are = take_first c.hand_out.new.parts _ _ len ∙ all in
    kept_last a c.if-self-gt0.false _ _ _ are (ap (λ v. v.items) c.replace-room.ensures.after ∙ c.new.ensures.items)

pub returns-clause-answer : goal.returns-clause-answer
returns-clause-answer c =
    let a = accepted _ _ _ _ _ _ _ _ c.args.piece c.args.block _ _ c.self.invariant c.deref.ensures.value c.was_given.ensures c.if-was_given.false
    (omega arith) c.deref-else-place-self.ensures.value c.fits.ensures c.if-not-fits.false in
    rw (c.hand_out.ensures.blocks, c.deref_mut.ensures.value, ← c.self.view_is) (answer_last a c.if-self-gt0.false)

pub returns-clause-given : goal.returns-clause-given
returns-clause-given c =
    let a = accepted _ _ _ _ _ _ _ _ c.args.piece c.args.block _ _ c.self.invariant c.deref.ensures.value c.was_given.ensures c.if-was_given.false
    (omega arith) c.deref-else-place-self.ensures.value c.fits.ensures c.if-not-fits.false in
    let sized = sized_with a in
    let count : length c.deref_mut.result.now ≡ length c.self.inside.ends.items = ap length c.deref_mut.ensures.value ∙ sized in
    let all : c.hand_out.new.parts ≡ replicate (length c.self.inside.ends.items) Joined = c.hand_out.ensures.joined ∙ ap (λ n. replicate n Joined) count in
    let len : c.self.inside.parts.len ≡ length c.hand_out.new.parts
    = omega (arith, ap length all, length-replicate (length c.self.inside.ends.items) Joined, c.self.invariant.parts.sized, c.self.inside.parts.ok.0) in
    let are = take_first c.hand_out.new.parts _ _ len ∙ all in
    rw (← c.self.view_is) (ap (λ ps. parts_of c.self.inside.ends.items c.self.inside.taken ps) are ∙ after_last a c.if-self-gt0.false)

pub returns-clause-covers : goal.returns-clause-covers
returns-clause-covers c =
    let a = accepted _ _ _ _ _ _ _ _ c.args.piece c.args.block _ _ c.self.invariant c.deref.ensures.value c.was_given.ensures c.if-was_given.false
    (omega arith) c.deref-else-place-self.ensures.value c.fits.ensures c.if-not-fits.false in
    rw (c.hand_out.ensures.blocks, c.deref_mut.ensures.value, ← c.self.view_is) (covers_last a c.if-self-gt0.false)

pub returns-then-self-gt0-clause-sound : goal.returns-then-self-gt0-clause-sound
returns-then-self-gt0-clause-sound c =
    let a = accepted _ _ _ _ _ _ _ _ c.args.piece c.args.block _ _ c.self.invariant c.deref.ensures.value c.was_given.ensures c.if-was_given.false
    (omega arith) c.deref-else-place-self.ensures.value c.fits.ensures c.if-not-fits.false in
    (kept_more a c.if-self-gt0.true).parts

pub returns-clause-sound : goal.returns-clause-sound
returns-clause-sound c =
    let a = accepted _ _ _ _ _ _ _ _ c.args.piece c.args.block _ _ c.self.invariant c.deref.ensures.value c.was_given.ensures c.if-was_given.false
    (omega arith) c.deref-else-place-self.ensures.value c.fits.ensures c.if-not-fits.false in
    let sized = sized_with a in
    let count : length c.deref_mut.result.now ≡ length c.self.inside.ends.items = ap length c.deref_mut.ensures.value ∙ sized in
    let all : c.hand_out.new.parts ≡ replicate (length c.self.inside.ends.items) Joined = c.hand_out.ensures.joined ∙ ap (λ n. replicate n Joined) count in
    let len : c.self.inside.parts.len ≡ length c.hand_out.new.parts
    = omega (arith, ap length all, length-replicate (length c.self.inside.ends.items) Joined, c.self.invariant.parts.sized, c.self.inside.parts.ok.0) in
    let are = take_first c.hand_out.new.parts _ _ len ∙ all in
    (kept_last a c.if-self-gt0.false _ _ 0 are (ap (λ v. v.items) c.replace-room.ensures.after ∙ c.new.ensures.items)).parts

pub returns-clause-each : goal.returns-clause-each
returns-clause-each c =
    let a = accepted _ _ _ _ _ _ _ _ c.args.piece c.args.block _ _ c.self.invariant c.deref.ensures.value c.was_given.ensures c.if-was_given.false
    (omega arith) c.deref-else-place-self.ensures.value c.fits.ensures c.if-not-fits.false in
    rw (c.hand_out.ensures.blocks, c.deref_mut.ensures.value, ← c.self.view_is) (each_last a c.if-self-gt0.false)
