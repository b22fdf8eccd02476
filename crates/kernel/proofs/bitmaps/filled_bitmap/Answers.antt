-- The region has all positions.
use Rattle.std.proofs.Common.{◌≡◌, ◌*◌, replicate, refl, rules, arith}
use Rattle.std.proofs.lemmas.List.{get_or-replicate}
use Rattle.kernel.proofs.BitmapLaws.{filled-all}
use Rattle.kernel.proofs.bitmaps.filled_bitmap.Goals as goal

pub returns-clause-all : goal.returns-clause-all
returns-clause-all c =
    let n = c.saturating_mul-places.result in
    let word = c.args.word in
    let words = c.in_ok-words.words.items in
    let items : words ≡ replicate n word = search rules in
    let places : n ≡ c.rows-rows.result * c.cols-cols.result = search rules in
    let all = c.if-not-has_all.ensures in
    let full = c.in-Ok.ensures in
    rw (c.rows-rows.ensures, c.cols-cols.ensures) at (filled-all c.rows-rows.result c.cols-cols.result word c.args.region.now words c.in-Ok.bitmap
    (all.rows refl) (all.cols refl) full.rows full.cols c.rows.ensures.inside
    (λ at below. rw items (get_or-replicate n at word 0 (omega (arith, places, below))))
    full.content)
