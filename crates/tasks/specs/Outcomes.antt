-- What comes of work, and what it is of the object of its task.
use Rattle.std.specs.Arc.{arc_value}
use Rattle.std.specs.List.{All}
use Rattle.std.specs.Prelude.{◌≡◌, List}
use Rattle.calls.specs.declared.recipe.Recipe.{Recipe}
use Rattle.calls.specs.Recipes.{known_of}
use Rattle.kernel.specs.Covers.{Covers, IsPartOf}
use Rattle.kernel.specs.declared.block.Block.{Block}
use Rattle.model.specs.Object.{IsObject, Object, cols_of, rows_of}
use Rattle.tasks.specs.declared.work.Outcome.{Outcome}
use Rattle.tasks.specs.declared.work.Outcome.TheVariants.{Joined, Made, Part, Refused}
use Rattle.runner.specs.Tickets.{IsStoreFor}

-- an object has the shape of what a recipe makes
pub record IsFrom (o : Object) (recipe : Recipe) : Type 0 where
  pub is_object : IsObject o
  pub shape : o.shape ≡ (known_of recipe).shape

-- a store is the object's, and a block is some rows of it
abbrev pub IsOutcomeOf : Object → Outcome → Type 0
IsOutcomeOf o (Made store) = IsStoreFor o (arc_value store)
IsOutcomeOf o (Joined store) = IsStoreFor o (arc_value store)
IsOutcomeOf o (Part block) = IsPartOf (cols_of o.shape) o.content block
IsOutcomeOf o Refused = Unit {0}

-- beside a block there is its object's recipe
abbrev pub HasRecipe : Object → Recipe → Outcome → Type 0
HasRecipe o recipe (Part block) = IsFrom o recipe
HasRecipe o recipe outcome = Unit {0}

pub record IsOutcomeFor (o : Object) (recipe : Recipe) (outcome : Outcome) : Type 0 where
  pub of : IsOutcomeOf o outcome
  pub from : HasRecipe o recipe outcome

-- blocks that follow one another are all of an object
pub record AreAll (o : Object) (blocks : List Block) : Type 0 where
  pub covers : Covers 0 (rows_of o.shape) blocks
  pub parts : All (IsPartOf (cols_of o.shape) o.content) blocks

-- ..with its recipe
pub record AreParts (o : Object) (recipe : Recipe) (blocks : List Block) : Type 0 where
  pub all : AreAll o blocks
  pub from : IsFrom o recipe
