-- How far a slot has come.
use Rattle.std.specs.Prelude.{Bool, true, false, ◌&&◌, ◌||◌, not, Option, Some, None}

pub data Progress : Type 0 where
  -- nobody works on it
  Untaken : Progress
  -- its piece is out
  Running : Progress
  -- its piece was given
  Joining : Progress
  -- its store was made
  Made : Progress
  -- its store was made, and given to the one task that still read it
  Moved : Progress
  Failed : Progress

abbrev pub is_unfinished : Progress → Bool
is_unfinished Untaken = true
is_unfinished Running = true
is_unfinished Joining = true
is_unfinished Made = false
is_unfinished Moved = false
is_unfinished Failed = false

-- somebody began to work on it
abbrev pub is_begun : Progress → Bool
is_begun Untaken = false
is_begun Running = true
is_begun Joining = true
is_begun Made = true
is_begun Moved = true
is_begun Failed = false

-- ---- where there is a slot

abbrev pub is_untaken : Option Progress → Bool
is_untaken (Some Untaken) = true
is_untaken (Some Running) = false
is_untaken (Some Joining) = false
is_untaken (Some Made) = false
is_untaken (Some Moved) = false
is_untaken (Some Failed) = false
is_untaken None = false

abbrev pub is_running : Option Progress → Bool
is_running (Some Running) = true
is_running (Some Untaken) = false
is_running (Some Joining) = false
is_running (Some Made) = false
is_running (Some Moved) = false
is_running (Some Failed) = false
is_running None = false

abbrev pub is_joining : Option Progress → Bool
is_joining (Some Joining) = true
is_joining (Some Untaken) = false
is_joining (Some Running) = false
is_joining (Some Made) = false
is_joining (Some Moved) = false
is_joining (Some Failed) = false
is_joining None = false

-- somebody works on it
abbrev pub is_underway : Option Progress → Bool
is_underway p = is_running p || is_joining p

-- its store was made
abbrev pub is_made : Option Progress → Bool
is_made (Some Made) = true
is_made (Some Moved) = true
is_made (Some Untaken) = false
is_made (Some Running) = false
is_made (Some Joining) = false
is_made (Some Failed) = false
is_made None = false

abbrev pub is_failed : Option Progress → Bool
is_failed (Some Failed) = true
is_failed (Some Untaken) = false
is_failed (Some Running) = false
is_failed (Some Joining) = false
is_failed (Some Made) = false
is_failed (Some Moved) = false
is_failed None = false

abbrev pub is_moved : Option Progress → Bool
is_moved (Some Moved) = true
is_moved (Some Untaken) = false
is_moved (Some Running) = false
is_moved (Some Joining) = false
is_moved (Some Made) = false
is_moved (Some Failed) = false
is_moved None = false

-- how far an input of a slot may have come: it hasn't failed where the slot hasn't, its store is there still where
-- nobody began, and it was made where somebody did
abbrev pub allows : Progress → Option Progress → Bool
allows Untaken input = not (is_failed input) && not (is_moved input)
allows Running input = is_made input
allows Joining input = is_made input
allows Made input = is_made input
allows Moved input = is_made input
allows Failed input = true
