-- What is sought next isn't behind the place of the last row.
use Rattle.std.proofs.Common.{◌≡◌, ◌-◌, add-zero, get_or, refl, true, false, arith}
use Rattle.store.specs.Puts.{has}
use Rattle.store.proofs.PutLaws.{behind_absent, behind_found, count_step, has_absent, has_found, rises_first}
use Rattle.std.proofs.Common.{take}
use Rattle.store.proofs.putting.count_missing.Goals as goal

pub loop-k-preserved-in-Ok : goal.loop-k-preserved-in-Ok
loop-k-preserved-in-Ok c =
    let list = c.args.list.now in
    let rows = c.args.rows.now in
    let l = c.loop-k in
    let at = c.in-Ok.at in
    let row = get_or rows (l.k - 1) 0 in
    let low = l.invariant.low in
    let found = c.in-Ok.ensures.found in
    let high = found.high in
    let there : has (take l.left list) row ≡ true = has_found row at l.left list low found in
    rw add-zero at
    (count_step list rows l.left (l.k - 1) l.k l.count at 0 c.requires.rows l.invariant (omega arith) (omega arith) (behind_found row at l.left list low (rises_first l.left list low c.requires.list) found) (rw there refl))

pub loop-k-preserved : goal.loop-k-preserved
loop-k-preserved c =
    let list = c.args.list.now in
    let rows = c.args.rows.now in
    let l = c.loop-k in
    let at = c.in-Err.at in
    let row = get_or rows (l.k - 1) 0 in
    let low = l.invariant.low in
    let absent = c.in-Err.ensures.absent in
    let none : has (take l.left list) row ≡ false = has_absent row at l.left list low absent in
    count_step list rows l.left (l.k - 1) l.k l.count at 1 c.requires.rows l.invariant (omega arith) absent.high (behind_absent row at l.left list low absent) (rw none refl)
