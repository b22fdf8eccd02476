-- The blocks of a task that is cut, among what there is of its pieces.
use Rattle.std.proofs.Common.{◌≡◌, ℕ, zero, suc, List, [], ◌∷◌, Some, slice_get, slice_set, refl, subst, sym}
use Rattle.std.specs.List.{All}
use Rattle.std.proofs.lemmas.List.Elements.{All-cons, All-nil}
use Rattle.kernel.specs.declared.block.Block.{Block}
use Rattle.pieces.specs.Parts.{blocks_in}
use Rattle.pieces.specs.declared.part.Part.{Part}
use Rattle.pieces.specs.declared.part.Part.TheVariants.{Due, Given, Joined}
use Rattle.stages.proofs.ListLaws.{get_set}

-- what holds of each block that was given holds of all of them in order
pub all_in : {P : Block → Type 0} (parts : List Part)
    → ((j : ℕ) (b : Block) → slice_get parts j ≡ Some (Given b) → P b) → All P (blocks_in parts)
all_in {P = P} [] each = All-nil P
all_in {P = P} (Due ∷ parts) each = all_in parts (λ j b at. each (suc j) b at)
all_in {P = P} (Joined ∷ parts) each = all_in parts (λ j b at. each (suc j) b at)
all_in {P = P} (Given block ∷ parts) each =
    All-cons P block (blocks_in parts) (each zero block refl) (all_in parts (λ j b at. each (suc j) b at))

-- ..and where one was given besides
pub all_told : {P : Block → Type 0} (parts : List Part) (k : ℕ) (block : Block) (blocks : List Block)
    → blocks ≡ blocks_in (slice_set parts k (Given block)) → P block
    → ((j : ℕ) (b : Block) → slice_get parts j ≡ Some (Given b) → P b) → All P blocks
all_told {P = P} parts k block blocks are new old =
    subst (All P) (sym are) (all_in (slice_set parts k (Given block)) (λ j b at.
    get_set parts k j (Given block) (Given b) at
    (λ here e. let same : block ≡ b = cc (e) in subst P same new)
    (λ far before. old j b before)))
