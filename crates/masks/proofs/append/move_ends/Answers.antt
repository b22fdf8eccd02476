use Rattle.std.proofs.Common.{◌∙◌, ◌<◌, length, get_or, arith, map}
use Rattle.std.proofs.lemmas.List.{append-nil, drop_all, get_or_default, take_all}
use Rattle.std.proofs.lemmas.List.Edits.{map_over_more}
use Rattle.std.proofs.lemmas.Simd.{map-map}
use Rattle.store.specs.Fibers.{end_at, end_back, end_on}
use Rattle.masks.proofs.append.move_ends.Goals as goal

pub loop-fiber-preserved : goal.loop-fiber-preserved
loop-fiber-preserved c =
    let ends = c.loop-fiber.ends in
    let at = c.loop-fiber.fiber-index in
    let one = get_or ends at (end_at 0 0) in
    let within : at < length ends = omega arith in
    map_over_more (λ r. end_on c.args.to (end_back c.args.from r)) c.args.ends.now ends at one (omega arith) c.loop-fiber.invariant (get_or_default ends at (end_at 0 0) one within)

pub returns : goal.returns
returns c =
    let old = c.args.ends.now in
    let at = c.loop-fiber.fiber-index in
    rw (map-map (end_on c.args.to) (end_back c.args.from) old)
    (c.loop-fiber.invariant ∙ rw (take_all at old (omega arith), drop_all at old (omega arith)) (append-nil (map (λ r. end_on c.args.to (end_back c.args.from r)) old)))
