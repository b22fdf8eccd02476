-- What recipes give are objects, and the store of all rows has it everywhere.
use Rattle.std.proofs.Common.{◌≡◌, ◌∙◌, ℕ, true, refl}
use Rattle.calls.specs.declared.recipe.Recipe.{Recipe}
use Rattle.calls.specs.declared.recipe.Recipe.TheVariants.{New, Given, Patch, Resized, Transposed, Computed}
use Rattle.calls.specs.declared.role.Role.{Role}
use Rattle.calls.specs.declared.role.Role.TheVariants.{Old, First}
use Rattle.calls.specs.Recipes.{known_by, known_of, meaning_of}
use Rattle.calls.specs.Stores.{object_with}
use Rattle.kernel.specs.declared.block.Block.{Block}
use Rattle.kernel.specs.declared.block.Block.TheVariants.{Rows, Whole}
use Rattle.kernel.specs.Pieces.{HasAllRows, IfRows, IsPieceOf, cols_in, content_in}
use Rattle.kernel.proofs.TakenLaws.{AreObjects, meaning-is_object, whole-store}
use Rattle.model.specs.declared.shape.Shape.{Shape}
use Rattle.model.specs.declared.shape.Shape.TheVariants.{One, Two}
use Rattle.model.specs.declared.shape.Signature.{Signature}
use Rattle.model.specs.Object.{Content, IsObject, IsWithin, cols_of, is_matrix, rows_of, transposed_content, transposed_shape, transposed_signature}
use Rattle.model.proofs.ObjectLaws.{empty-is_object, transposed-is_object}
use Rattle.model.proofs.RegionLaws.{cut_to-within, cut_to-words}
use Rattle.store.specs.Stored.{Stored, content_of}

transposed_matrix : (known : Signature) (shape : Shape) (map : Content) → is_matrix shape ≡ true
    → IsObject (object_with (record known { shape = shape }) map)
    → IsObject (object_with (transposed_signature (record known { shape = shape })) (transposed_content map))
transposed_matrix known (One n) map matrix is = absurd (cc)
transposed_matrix known (Two m n) map matrix is =
    transposed-is_object (object_with (record known { shape = Two m n }) map) is

-- ..of objects that take its roles
pub recipe-is_object : (recipe : Recipe) (maps : Role → Content) → AreObjects (known_by recipe) maps
    → IsObject (object_with (known_of recipe) (meaning_of recipe maps))
recipe-is_object (New of) maps are = empty-is_object of.value.domain of.value.shape
recipe-is_object (Given given) maps are = given.value.is_store.is_object
recipe-is_object (Patch patch) maps are = patch.value.keeps (maps Old) (are Old)
recipe-is_object (Resized resize) maps are =
    let of = resize.value.of in
    let shape = resize.value.shape in
    let old : IsObject (object_with of (maps Old)) = are Old in
    record {
      within = cut_to-within (rows_of shape) (cols_of shape) (maps Old);
      words = cut_to-words of.domain (rows_of shape) (cols_of shape) (maps Old) old.words;
    }
recipe-is_object (Transposed turn) maps are =
    transposed_matrix turn.value.of turn.value.of.shape (maps First) turn.value.matrix (are First)
recipe-is_object (Computed computation) maps are =
    meaning-is_object computation.accepted.value.out computation.accepted.value.operation maps computation.accepted.value.accepted are

-- the transpose of a matrix has its rows as columns
pub transposed-shape : (shape : Shape) → is_matrix shape ≡ true
    → (rows_of (transposed_shape shape) ≡ cols_of shape) × (cols_of (transposed_shape shape) ≡ rows_of shape)
transposed-shape (One n) matrix = absurd (cc)
transposed-shape (Two m n) matrix = (refl, refl)

-- ---- blocks of all rows

pub piece-rows : (recipe : Recipe) (maps : Role → Content) (block : Block)
    → IsPieceOf recipe maps 0 (rows_of (known_of recipe).shape) block → HasAllRows recipe block
piece-rows recipe maps (Rows block) is = is.past_is
piece-rows recipe maps (Whole store) is = is.rows

pub piece-cols : (recipe : Recipe) (maps : Role → Content) (block : Block)
    → IsPieceOf recipe maps 0 (rows_of (known_of recipe).shape) block
    → cols_in block ≡ cols_of (known_of recipe).shape
piece-cols recipe maps (Rows block) is = is.cols_are
piece-cols recipe maps (Whole store) is = is.cols

pub piece-content : (recipe : Recipe) (maps : Role → Content) (block : Block) (store : Stored)
    → IsObject (object_with (known_of recipe) (meaning_of recipe maps))
    → IsPieceOf recipe maps 0 (rows_of (known_of recipe).shape) block
    → store.rows ≡ rows_of (known_of recipe).shape
    → IfRows block (IsWithin store.rows store.cols (content_of store))
    → ((i j : ℕ) → content_of store i j ≡ content_in block i j)
    → (i j : ℕ) → content_of store i j ≡ meaning_of recipe maps i j
piece-content recipe maps (Rows block) store object is rows within same =
    whole-store (known_of recipe) (meaning_of recipe maps) block store object rows within same is.words
piece-content recipe maps (Whole whole) store object is rows within same = λ i j. same i j ∙ is.content i j
