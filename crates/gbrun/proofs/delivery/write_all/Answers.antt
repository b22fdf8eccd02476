use Rattle.std.proofs.Common.{◌≡◌, ℕ, ◌-◌, List, ◌++◌, length, take, drop, sym, ap, ◌∙◌, append_assoc, take-append-drop}
use Rattle.std.proofs.lemmas.List.{take_rest}
use Rattle.std.proofs.KnownBytes.{Appends-trans, Appends-kept}
use Rattle.gbrun.proofs.delivery.write_all.Goals.{in-Ok, in-Err}
use Rattle.gbrun.proofs.delivery.write_all.Goals as goal

moved : (all done rest : List ℕ) (n : ℕ) → all ≡ done ++ rest
    → all ≡ (done ++ take n rest) ++ take (length rest - n) (drop n rest)
moved all done rest n split =
    split ∙ ap (λ l. done ++ l) (sym (take-append-drop n rest)) ∙ sym (append_assoc done (take n rest) (drop n rest)) ∙ ap (λ l. (done ++ take n rest) ++ l) (sym (take_rest rest n))

pub loop-preserved : goal.loop-preserved
loop-preserved g c =
    let (done, split, appended) = c.loop.invariant in
    let rest = c.loop.rest.now in
    elim c.match-write.branch [
      | in-Ok w ↦ (
        done ++ take w.in-Ok.count rest,
        moved _ done rest w.in-Ok.count split ∙ ap (λ l. (done ++ take w.in-Ok.count rest) ++ l) (sym (ap (λ part. part.now) w.rest-is)),
        Appends-trans _ _ _ _ _ appended w.in-Ok.ensures.bytes,
      )
      | in-Err w ↦ (
        done,
        split ∙ ap (λ l. done ++ l) (sym (ap (λ part. part.now) w.rest-is)),
        Appends-kept _ _ _ done appended w.in-Err.ensures.bytes,
      )
    ]
