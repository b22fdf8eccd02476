-- What pieces of work make: blocks of their objects, which are joined to the stores of these.
use Rattle.std.proofs.Common.{inl, inr, ◌≡◌, ◌∙◌, ◌<◌, ◌&&◌, ℕ, true, false, List, ltb, subst, sym, ap}
use Rattle.std.specs.List.{All}
use Rattle.std.proofs.lemmas.Bool.{and_parts, cases_Bool, eqb-true, ltb-true}
use Rattle.board.specs.Pieces.{IsPieceFor, is_whole, maps_in, recipe_of, rows_for}
use Rattle.stages.specs.Tasks.{Task}
use Rattle.board.specs.declared.piece.Piece.{Piece}
use Rattle.calls.specs.declared.recipe.Recipe.{Recipe}
use Rattle.calls.specs.declared.role.Role.{Role}
use Rattle.calls.specs.Recipes.{known_of, meaning_of}
use Rattle.desk.specs.Works.{IsWork, object_by}
use Rattle.kernel.specs.Blocks.{HasRows}
use Rattle.kernel.specs.Covers.{IsPartOf}
use Rattle.kernel.specs.declared.block.Block.{Block}
use Rattle.kernel.specs.declared.block.Block.TheVariants.{Rows, Whole}
use Rattle.kernel.specs.Pieces.{IfRows, IsPieceOf, cols_in, content_in}
use Rattle.kernel.proofs.PieceLaws.{piece-cols, piece-content}
use Rattle.model.specs.declared.shape.Shape.{Shape}
use Rattle.model.specs.Object.{Content, IsObject, IsWithin, Object, cols_of, rows_of}
use Rattle.runner.specs.Tickets.{IsStoreFor}
use Rattle.store.specs.Stored.{Stored, content_of}

-- a slot's piece is work of making its object
pub work_for : (ts : List Task) (p : Piece) → IsPieceFor ts p → IsWork p
work_for ts p is = record {
  rises = is.rises;
  inside = is.inside;
  takes = is.needs.takes;
  is_object = subst IsObject is.needs.makes is.needs.is_object;
}

-- ---- all of a task

module _ (p : Piece) (is : IsWork p) (all : is_whole p ≡ true) (block : Block)
    (piece : IsPieceOf (recipe_of p.recipe) (maps_in p.inputs) p.rows.start p.rows.end block) where
  starts : p.rows.start ≡ 0
  starts = eqb-true p.rows.start 0 (and_parts _ _ all).0

  ends : p.rows.end ≡ rows_for p
  ends = eqb-true p.rows.end (rows_for p) (and_parts _ _ all).1

  started : IsPieceOf (recipe_of p.recipe) (maps_in p.inputs) 0 p.rows.end block
  started = subst (λ n. IsPieceOf (recipe_of p.recipe) (maps_in p.inputs) n p.rows.end block) starts piece

  -- a block is one of all rows
  pub whole : IsPieceOf (recipe_of p.recipe) (maps_in p.inputs) 0 (rows_for p) block
  whole = subst (λ n. IsPieceOf (recipe_of p.recipe) (maps_in p.inputs) 0 n block) ends started

  pub store_for : (store : Stored) → store.rows ≡ rows_for p → store.cols ≡ cols_in block
      → ((i j : ℕ) → content_of store i j ≡ content_in block i j)
      → IfRows block (IsWithin store.rows store.cols (content_of store)) → IsStoreFor (object_by p) store
  store_for store rows cols content within = record {
    rows = rows;
    cols = cols ∙ piece-cols (recipe_of p.recipe) (maps_in p.inputs) block whole;
    content = piece-content (recipe_of p.recipe) (maps_in p.inputs) block store is.is_object whole rows within content;
  }

-- ---- some rows of a task

part_rows : (recipe : Recipe) (maps : Role → Content) (start end : ℕ) (block : Block)
    → IsPieceOf recipe maps start end block → IsPartOf (cols_of (known_of recipe).shape) (meaning_of recipe maps) block
part_rows recipe maps start end (Rows block) is =
    subst (λ n. HasRows n block.past (cols_of (known_of recipe).shape) (meaning_of recipe maps) block) (sym is.first_is)
    (subst (λ n. HasRows start n (cols_of (known_of recipe).shape) (meaning_of recipe maps) block) (sym is.past_is) is)
part_rows recipe maps start end (Whole store) is = (is.cols, is.content)

-- a block of its rows is part of its object
pub part_by : (p : Piece) (block : Block)
    → IsPieceOf (recipe_of p.recipe) (maps_in p.inputs) p.rows.start p.rows.end block
    → IsPartOf (cols_of (object_by p).shape) (object_by p).content block
part_by p block is = part_rows (recipe_of p.recipe) (maps_in p.inputs) p.rows.start p.rows.end block is

-- ---- blocks that are joined

-- a store without entries behind its rows has an object's map where it has that in its rows
same_map : (o : Object) (store : Stored) → IsObject o → store.rows ≡ rows_of o.shape → store.cols ≡ cols_of o.shape
    → ((i j : ℕ) → i < rows_of o.shape → content_of store i j ≡ o.content i j)
    → IsWithin store.rows store.cols (content_of store) → (i j : ℕ) → content_of store i j ≡ o.content i j
same_map o store is rows cols same within i j = elim (cases_Bool (ltb i (rows_of o.shape))) [
  | inl low ↦ same i j (ltb-true i (rows_of o.shape) low)
  | inr high ↦
      let out : (ltb i (rows_of o.shape) && ltb j (cols_of o.shape)) ≡ false =
      ap (λ b. b && ltb j (cols_of o.shape)) high in
      within i j (ap (λ n. ltb i n && ltb j store.cols) rows ∙ ap (λ b. b && ltb j store.cols) high)
      ∙ sym (is.within i j out)
]

-- the store of blocks that have all rows is the object's of which each is part
pub store_joined : (shape : Shape) (blocks : List Block) (store : Stored)
    → store.rows ≡ rows_of shape → store.cols ≡ cols_of shape
    → ((c : Content) → All (IsPartOf (cols_of shape) c) blocks → (i j : ℕ) → i < rows_of shape
    → content_of store i j ≡ c i j)
    → IsWithin store.rows store.cols (content_of store)
    → (o : Object) → IsObject o → o.shape ≡ shape → All (IsPartOf (cols_of o.shape) o.content) blocks
    → IsStoreFor o store
store_joined shape blocks store rows cols same within o is shapes parts =
    let rows' = rows ∙ ap rows_of (sym shapes) in
    let cols' = cols ∙ ap cols_of (sym shapes) in
    record {
      rows = rows';
      cols = cols';
      content = same_map o store is rows' cols'
          (λ i j low. same o.content (subst (λ (s : Shape). All (IsPartOf (cols_of s) o.content) blocks) shapes parts) i j
          (subst (λ (s : Shape). i < rows_of s) shapes low)) within;
    }
