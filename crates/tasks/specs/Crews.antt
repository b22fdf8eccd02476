-- Who of the threads of a pool sleeps.
use Rattle.std.specs.Prelude.{ℕ, ◌≡◌, ◌+◌, ◌-◌, ◌<◌, ◌^◌}
use Rattle.tasks.specs.declared.crew.Crew.{Crew}

-- one worker more sleeps, unless they can't be counted any more
pub record Sleeps (before after : Crew) : Type 0 where
  pub sleeping : before.sleeping + 1 < 2 ^ 64 → after.sleeping ≡ before.sleeping + 1
  pub called : after.called ≡ before.called
  pub closing : after.closing ≡ before.closing
  pub awaited : after.awaited ≡ before.awaited

-- a worker that sleeps rises: one that was called, where there is one
pub record Rises (before after : Crew) : Type 0 where
  pub called : after.called ≡ before.called - 1
  pub sleeping : before.called ≡ 0 → after.sleeping ≡ before.sleeping - 1
  pub other : 0 < before.called → after.sleeping ≡ before.sleeping
  pub closing : after.closing ≡ before.closing
  pub awaited : after.awaited ≡ before.awaited

-- so many that sleep are called, and nothing else changes
pub record Calls (before after : Crew) (count : ℕ) : Type 0 where
  pub sleeping : after.sleeping + count ≡ before.sleeping
  pub closing : after.closing ≡ before.closing
  pub awaited : after.awaited ≡ before.awaited
