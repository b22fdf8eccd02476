-- The files that a script loads.
use Rattle.std.specs.Prelude.{ℕ, ◌≡◌, List, Bool, is_some, true}
use Rattle.std.specs.BTreeMap.{get_by}
use Rattle.std.specs.Cmp.Lexicographic.{slice_cmp}
use Rattle.std.specs.Option.{option_and_then, option_map}
use Rattle.std.specs.Ordering.{nat_cmp}
use Rattle.model.specs.Loads.{Sources}
use Rattle.gbrun.specs.declared.loaded.Loaded.{Loaded}

-- the bytes of each file that was read, by its name
abbrev pub held_in : Loaded → Sources
held_in loaded name = option_and_then (λ bytes. option_map (λ bytes. bytes.items) bytes)
    (get_by (λ key. slice_cmp nat_cmp name key.now) loaded.by_name)

-- whether the file of a name was tried to be read
abbrev pub is_tried : Loaded → List ℕ → Bool
is_tried loaded name = is_some (get_by (λ key. slice_cmp nat_cmp name key.now) loaded.by_name)

-- each file that was tried is there, if it is known that it can be read
abbrev pub HasTried : (List ℕ → Type 0) → Loaded → Type 0
HasTried readable loaded =
    (name : List ℕ) → is_tried loaded name ≡ true → readable name → is_some (held_in loaded name) ≡ true
