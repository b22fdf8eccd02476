use Rattle.std.proofs.Common.{◌≡◌, ◌<◌, ◌∙◌, ap, arith, length}
use Rattle.std.proofs.lemmas.List.{get_or_read}
use Rattle.pieces.specs.Parts.{end_of, parts_of, start_of}
use Rattle.pieces.proofs.CoverLaws.{end_inside, piece_part}
use Rattle.pieces.proofs.pieces.Pieces.next.Goals as goal

pub returns-clause-inside : goal.returns-clause-inside
returns-clause-inside c =
    let p = parts_of c.self.inside.ends.items c.self.inside.taken c.self.inside.parts.items in
    let low : c.self.inside.taken < length c.self.inside.ends.items = omega arith in
    let end : c.index-end.result.now ≡ end_of c.self.inside.ends.items c.self.inside.taken = get_or_read _ _ _ low c.index-end.ensures 0 in
    rw (end, ← c.self.view_is) (end_inside p c.self.invariant.parts c.self.inside.taken low)

pub returns-clause-part : goal.returns-clause-part
returns-clause-part c =
    let p = parts_of c.self.inside.ends.items c.self.inside.taken c.self.inside.parts.items in
    let low : c.self.inside.taken < length c.self.inside.ends.items = omega arith in
    let end : c.index-end.result.now ≡ end_of c.self.inside.ends.items c.self.inside.taken = get_or_read _ _ _ low c.index-end.ensures 0 in
    let start : c.start_of-start.result ≡ start_of c.self.inside.ends.items c.self.inside.taken
    = c.start_of-start.ensures ∙ ap (λ es. start_of es c.self.inside.taken) c.deref.ensures.value in
    rw (start, end, ← c.self.view_is) (piece_part p c.self.invariant.parts c.self.inside.taken low)
