-- Another store in the place of one that is there.
use Rattle.std.proofs.Common.{◌≡◌, ◌∙◌, ◌+◌, ℕ, zero, suc, true, false, List, [], ◌∷◌, map, Option, Some, None, slice_get, slice_set, refl, sym, ap, subst}
use Rattle.std.specs.Prelude.{slice_index}
use Rattle.std.proofs.lemmas.List.{map-set, set-set}
use Rattle.store.specs.Stored.{Stored}
use Rattle.runner.specs.Tickets.{IsStoreFor}
use Rattle.stages.specs.Progress.{Made, Progress, is_begun}
use Rattle.board.specs.Sound.{IsKeptAt, IsSound}
use Rattle.stages.specs.Stages.{has_store, is_gone, progress_of, recipe_in, stored_in}
use Rattle.stages.specs.Tasks.{Task, object_at}
use Rattle.stages.specs.declared.stage.Stage.{Stage}
use Rattle.stages.specs.declared.stage.Stage.TheVariants as stage
use Rattle.board.proofs.SoundLaws.{kept_set, progress_at, sound_of}

-- a slot that has a store was made
done_at : (o : Option Stage) → has_store o ≡ true
    → (st : Stage) × (o ≡ Some st) × (progress_of st ≡ Made) × (has_store (Some st) ≡ true)
done_at None has = absurd cc
done_at (Some (stage.Untaken r)) has = absurd cc
done_at (Some stage.Running) has = absurd cc
done_at (Some stage.Joining) has = absurd cc
done_at (Some (stage.Done s)) has = (stage.Done s, refl, refl, refl)
done_at (Some stage.Gone) has = absurd cc
done_at (Some stage.Moved) has = absurd cc
done_at (Some stage.Failed) has = absurd cc

same_set : (ps : List Progress) (k : ℕ) (p : Progress) → slice_get ps k ≡ Some p → slice_set ps k p ≡ ps
same_set [] k p is = refl
same_set (q ∷ ps) zero p is = let same : p ≡ q = cc (is) in ap (λ r. r ∷ ps) same
same_set (q ∷ ps) (suc k) p is = ap (λ rest. q ∷ rest) (same_set ps k p is)

pub record IsRenewed (ts : List Task) (stages next : List Stage) (holds reads : List ℕ) (readers : List (List ℕ))
    (ready : List ℕ) (room : ℕ) : Type 0 where
  pub sound : IsSound ts next holds reads readers ready room
  pub progress : map progress_of next ≡ map progress_of stages

pub renewed : (ts : List Task) (stages : List Stage) (holds reads : List ℕ) (readers : List (List ℕ)) (ready : List ℕ)
    (room k : ℕ) (done : Stage) (mid next : List Stage) → IsSound ts stages holds reads readers ready room
    → has_store (slice_get stages k) ≡ true → progress_of done ≡ Made → recipe_in done ≡ None → is_gone done ≡ false
    → ((s : Stored) → stored_in done ≡ Some s → IsStoreFor (object_at ts k) s) → mid ≡ slice_set stages k stage.Moved
    → next ≡ slice_set mid k done → IsRenewed ts stages next holds reads readers ready room
renewed ts stages holds reads readers ready room k done mid next sound has made recipe there right taken put =
    let old = done_at (slice_get stages k) has in
    let was = old.0 in
    let at : slice_get stages k ≡ Some was = old.1 in
    let begun : progress_of was ≡ progress_of done = old.2 ∙ sym made in
    let is : next ≡ slice_set stages k done = put ∙ ap (λ l. slice_set l k done) taken ∙ set-set stages k stage.Moved done in
    let same : map progress_of (slice_set stages k done) ≡ map progress_of stages =
    map-set progress_of stages k done ∙ same_set (map progress_of stages) k (progress_of done) (progress_at stages k was at ∙ ap Some begun) in
    let kept = sound.kept k was at in
    let mine : IsKeptAt ts k (slice_index holds k + slice_index reads k) done = record {
      recipe = λ r some. let no : None ≡ Some r = sym recipe ∙ some in absurd cc;
      right = right;
      used = λ _. kept.used old.3;
      gone = λ yes. let no : false ≡ true = sym there ∙ yes in absurd cc;
      object = λ started. kept.object (ap is_begun begun ∙ started);
    } in
    record {
      sound = subst (λ l. IsSound ts l holds reads readers ready room) (sym is)
          (sound_of ts (slice_set stages k done) holds reads readers ready room (map progress_of stages) same sound.flows sound.fits sound.counted (kept_set ts stages holds reads k done sound.kept mine) sound.waked sound.offers sound.roomy);
      progress = ap (map progress_of) is ∙ same;
    }
