use Rattle.std.proofs.Common.{◌≡◌, ◌⊎◌, ℕ, List, Option, length, true}
use Rattle.gbrun.specs.Known.{AreFiles, IsLoaded}
use Rattle.gbrun.specs.Loaded.{HasTried, held_in, is_tried}
use Rattle.gbrun.specs.declared.loaded.Loaded.{Loaded}
use Rattle.gbrun.proofs.loaded.Loaded.read.Given as goal

-- what was read so far is what the files hold, and the file of each line before these was tried
pub record ReadSoFar (content : List ℕ → Option (List ℕ)) (readable : List ℕ → Type 0) (script rest : List ℕ) (loaded : Loaded) : Type 0 where
  pub files : AreFiles content (held_in loaded)
  pub tried : HasTried readable loaded
  pub lines : (name : List ℕ) → IsLoaded script name → IsLoaded rest name ⊎ (is_tried loaded name ≡ true)

abbrev pub invariant-loop-rest : goal.invariant-loop-rest
invariant-loop-rest g l = ReadSoFar (g.F.FileSource.content l.files) (g.F.FileSource.readable l.files) l.script l.rest l.loaded

abbrev pub decreases-loop-rest : goal.decreases-loop-rest
decreases-loop-rest g l = length l.rest
