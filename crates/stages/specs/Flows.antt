-- How far the inputs of slots have come, and who waits for them.
use Rattle.std.specs.Prelude.{ℕ, ◌≡◌, ◌||◌, ◌&&◌, nat_lt, nat_le, true, List, length, Some, slice_get}
use Rattle.stages.specs.Numbers.{has_in}
use Rattle.stages.specs.Places.{each}
use Rattle.stages.specs.Progress.{Progress, Untaken, allows, is_failed, is_made, is_unfinished}
use Rattle.stages.specs.Tasks.{Task}

-- slots rest on slots before them, which have come as far as they must
pub record Flows (ts : List Task) (ps : List Progress) : Type 0 where
  pub sized : length ps ≡ length ts
  pub lower : (k : ℕ) (t : Task) → slice_get ts k ≡ Some t → each (λ i. nat_lt i k) t.inputs ≡ true
  pub allowed : (k : ℕ) (t : Task) (p : Progress) → slice_get ts k ≡ Some t → slice_get ps k ≡ Some p
      → each (λ i. allows p (slice_get ps i)) t.inputs ≡ true

-- ..but that those from n on that are unfinished may have inputs that failed
pub record FlowsBelow (n : ℕ) (ts : List Task) (ps : List Progress) : Type 0 where
  pub sized : length ps ≡ length ts
  pub lower : (k : ℕ) (t : Task) → slice_get ts k ≡ Some t → each (λ i. nat_lt i k) t.inputs ≡ true
  pub allowed : (k : ℕ) (t : Task) (p : Progress) → slice_get ts k ≡ Some t → slice_get ps k ≡ Some p
      → each (λ i. allows p (slice_get ps i) || (nat_le n k && (is_unfinished p && is_failed (slice_get ps i))))
      t.inputs ≡ true

-- a slot that waits for another is among those that are looked at when that one was made
pub record IsWaked (ts : List Task) (ps : List Progress) (readers : List (List ℕ)) : Type 0 where
  pub sized : length readers ≡ length ts
  pub waits : (k : ℕ) (t : Task) → slice_get ts k ≡ Some t → slice_get ps k ≡ Some Untaken
      → each (λ i. is_made (slice_get ps i) || has_in k (slice_get readers i)) t.inputs ≡ true

-- each list has what it had
pub record Grows (before after : List (List ℕ)) : Type 0 where
  pub sized : length after ≡ length before
  pub still : (k j : ℕ) → has_in k (slice_get before j) ≡ true → has_in k (slice_get after j) ≡ true
