-- Slots that fail with others.
use Rattle.std.specs.Prelude.{ℕ, zero, suc, ◌≡◌, ◌&&◌, not, Bool, true, false, List, length, if◌then◌else◌, slice_get}
use Rattle.std.specs.Prelude.{slice_set}
use Rattle.std.specs.Option.{option_map_or}
use Rattle.stages.specs.Places.{each}
use Rattle.stages.specs.Progress.{Progress, Failed, is_failed, is_made, is_unfinished, is_untaken}
use Rattle.stages.specs.Tasks.{Task}
use Rattle.stages.specs.Views.{is_ready}

-- whether a slot is unfinished, and an input of it has failed
abbrev pub falls : List Task → List Progress → ℕ → Bool
falls ts ps k = option_map_or is_unfinished (slice_get ps k) false
    && option_map_or (λ t. not (each (λ i. not (is_failed (slice_get ps i))) t.inputs)) (slice_get ts k) false

-- then it fails
abbrev pub fall_at : List Task → ℕ → List Progress → List Progress
fall_at ts k ps = if falls ts ps k then slice_set ps k Failed else ps

-- slots below n, from the lowest on
abbrev pub fallen_below : List Task → ℕ → List Progress → List Progress
fallen_below ts zero ps = ps
fallen_below ts (suc n) ps = fall_at ts n (fallen_below ts n ps)

-- all slots: those that are unfinished and rest on a failed one have failed
unfoldable pub fallen : List Task → List Progress → List Progress
fallen ts ps = fallen_below ts (length ts) ps

-- slots are made, and can be taken, as they were
pub record KeepsReady (ts : List Task) (before after : List Progress) : Type 0 where
  pub made : (k : ℕ) → is_made (slice_get after k) ≡ is_made (slice_get before k)
  pub untaken : (k : ℕ) → is_untaken (slice_get after k) ≡ true → is_untaken (slice_get before k) ≡ true
  pub ready : (k : ℕ) → is_ready ts after k ≡ is_ready ts before k
