-- Blocks that are given for pieces of a board's tasks.
use Rattle.std.proofs.Common.{inl, inr, ◌≡◌, ◌≢◌, ◌∙◌, ℕ, zero, suc, ◌<◌, ◌&&◌, Bool, true, false, cond, eqb, ltb, List, length, map, not, Option, Some, None, replicate, slice_get, slice_set, refl, sym, ap, arith, subst}
use Rattle.std.specs.Arc.{arc_value}
use Rattle.std.specs.Global.{Box}
use Rattle.std.specs.Prelude.{IfSome, Result, Ok, Err, is_some}
use Rattle.std.specs.Option.{option_and_then, option_map, option_map_or}
use Rattle.std.proofs.lemmas.Bool.{cases_eq, eq-eqb, ne_eqb}
use Rattle.calls.specs.declared.recipe.Recipe.{Recipe}
use Rattle.calls.specs.Recipes.{known_of}
use Rattle.kernel.specs.declared.block.Block.{Block}
use Rattle.kernel.specs.Covers.{Covers}
use Rattle.model.specs.Object.{Object, rows_of}
use Rattle.pieces.specs.Parts.{Parts, after_give, all_given, blocks_in, with_block}
use Rattle.pieces.specs.declared.part.Part.TheVariants.{Given as WasGiven, Joined as WasJoined}
use Rattle.board.specs.Cuts.{AreBlocksFor, AreCuts, Cutting, IfSeveral, IsCutFor, IsLeftBy, IsShared, Joined, KeepsTask, Parted, after_cut, at_slot, cutting_of, has_more, is_parted, left_view, task_at, task_of_cut, told_blocks, told_by, told_cut, told_on}
use Rattle.board.specs.Events.{with_progress}
use Rattle.stages.specs.Numbers.{numbers}
use Rattle.board.specs.Pieces.{AreFor, IsBlockFor}
use Rattle.stages.specs.Progress.{Progress, Joining, Running, is_running}
use Rattle.stages.specs.Tasks.{Task, object_at}
use Rattle.stages.specs.Views.{View}
use Rattle.board.specs.declared.cut.Cut.{Cut}
use Rattle.board.specs.declared.cut.Cut.TheVariants as cut
use Rattle.board.specs.declared.cut.CutTask.{CutTask}
use Rattle.board.specs.declared.look.Refusal.{Refusal}
use Rattle.board.specs.declared.look.Refusal.TheVariants.{Stranger, Twice}
use Rattle.board.specs.declared.piece.Blocks.{Blocks}
use Rattle.board.specs.declared.piece.Blocks.TheVariants.{One, Several}
use Rattle.board.specs.declared.piece.Given.{Given}
use Rattle.board.specs.declared.piece.Given.TheVariants.{Last, More}
use Rattle.board.proofs.CutLaws.{at_map, cut_same, open_same}
use Rattle.board.proofs.CutListLaws.{all_told}
use Rattle.stages.proofs.ListLaws.{get_set, get_set_other, get_set_same}
use Rattle.stages.proofs.NumberLaws.{numbers_same}
use Rattle.board.proofs.PartedLaws.{opens}

-- ---- a task that is cut

some_at : (o : Option Cut) → is_some (option_map cutting_of o) ≡ true → (c : Cut) × (o ≡ Some c)
some_at None h = absurd cc
some_at (Some c) h = (c, refl)

pub cut_there : (cuts : List (Option Cut)) (k : ℕ) → is_some (at_slot (map (option_map cutting_of) cuts) k) ≡ true → (c : Cut) × (at_slot cuts k ≡ Some c)
cut_there cuts k h = some_at (at_slot cuts k) (sym (ap is_some (at_map cutting_of cuts k)) ∙ h)

-- of joined pieces no block is accepted
joined_told : (n piece : ℕ) (block : Block) (told : Option (List Block)) → told_cut (Joined n) piece block ≡ Ok told → ⊥
joined_told n piece block told is = either (ltb piece n) is
  where
    either : (b : Bool) → cond {A = Result (Option (List Block)) Refusal} b (Err Twice) (Err Stranger) ≡ Ok told → ⊥
    either true h = cc (h)
    either false h = cc (h)

-- no joined piece is a block that is there
none_there : (n j : ℕ) (block : Block) → slice_get (replicate n WasJoined) j ≡ Some (WasGiven block) → ⊥
none_there zero j block h = cc (h)
none_there (suc n) zero block h = cc (h)
none_there (suc n) (suc j) block h = none_there n j block h

module _ (ts : List Task) (ps : List Progress) (cuts after : List (Option Cut)) (k piece : ℕ) (block : Block) (are : AreCuts ts ps cuts)
    (cut_is : is_some (at_slot (map (option_map cutting_of) cuts) k) ≡ true)
    (right : is_parted (at_slot (map (option_map cutting_of) cuts) k) ≡ true → IsBlockFor ts k block) where
  abbrev c : Cut
  c = (cut_there cuts k cut_is).0

  at : at_slot cuts k ≡ Some c
  at = (cut_there cuts k cut_is).1

  seen : at_slot (map (option_map cutting_of) cuts) k ≡ Some (cutting_of c)
  seen = at_map cutting_of cuts k ∙ ap (option_map cutting_of) at

  -- what was answered, of the board
  pub told_part : {N : Type 0} (v : View N) (r : Result (Option (List Block)) Refusal) → IfSome (at_slot cuts k) (λ d. told_cut (cutting_of d) piece block ≡ r)
      → told_on v (map (option_map cutting_of) cuts) k piece block ≡ r
  told_part v r is =
      ap (λ o. told_by v o k piece block) seen ∙ subst (λ (o : Option Cut). IfSome o (λ d. told_cut (cutting_of d) piece block ≡ r)) at is

  module _ (given : Given) (answer : IfSome (at_slot cuts k) (λ d. told_cut (cutting_of d) piece block ≡ Ok (told_blocks given)))
      (left : IfSome (at_slot cuts k) (λ d. option_map cutting_of (at_slot after k) ≡ Some (after_cut (cutting_of d) piece block (told_blocks given))))
      (others : (j : ℕ) → j ≢ k → at_slot after j ≡ at_slot cuts j) where
    -- its pieces are taken and given
    underway : (d : Cut) → at_slot cuts k ≡ Some d → (task : Box CutTask) × (d ≡ cut.Underway task)
    underway (cut.Underway task) is = (task, refl)
    underway (cut.Joined n) is = absurd (joined_told n piece block (told_blocks given) (subst (λ (o : Option Cut). IfSome o (λ d. told_cut (cutting_of d) piece block ≡ Ok (told_blocks given))) is answer))

    abbrev task : Box CutTask
    task = (underway c at).0

    task_is : at_slot cuts k ≡ Some (cut.Underway task)
    task_is = at ∙ ap Some (underway c at).1

    mine : (slice_get ps k ≡ Some Running) × IsShared ts k task.value
    mine = are.each_is k (cut.Underway task) task_is

    seen_task : at_slot (map (option_map cutting_of) cuts) k ≡ Some (Parted task.value.pieces)
    seen_task = at_map cutting_of cuts k ∙ ap (option_map cutting_of) task_is

    block_right : IsBlockFor ts k block
    block_right = right (ap is_parted seen_task)

    pub runs : is_running (slice_get ps k) ≡ true
    runs = ap is_running mine.0

    now : option_map cutting_of (at_slot after k) ≡ Some (after_cut (Parted task.value.pieces) piece block (told_blocks given))
    now = subst (λ (o : Option Cut). IfSome o (λ d. option_map cutting_of (at_slot after k) ≡ Some (after_cut (cutting_of d) piece block (told_blocks given)))) task_is left

    seen_now : at_slot (map (option_map cutting_of) after) k ≡ Some (after_cut (Parted task.value.pieces) piece block (told_blocks given))
    seen_now = at_map cutting_of after k ∙ now

    seen_others : (j : ℕ) → j ≢ k → at_slot (map (option_map cutting_of) after) j ≡ at_slot (map (option_map cutting_of) cuts) j
    seen_others j far = at_map cutting_of after j ∙ (ap (option_map cutting_of) (others j far) ∙ sym (at_map cutting_of cuts j))

    pub left_part : {N : Type 0} (v w : View N) → w ≡ left_view v k (told_blocks given)
        → IsLeftBy v (map (option_map cutting_of) cuts) k piece block (at_slot (map (option_map cutting_of) cuts) k) (told_blocks given) w (map (option_map cutting_of) after)
    left_part v w new = subst (λ (o : Option Cutting). IsLeftBy v (map (option_map cutting_of) cuts) k piece block o (told_blocks given) w (map (option_map cutting_of) after)) (sym seen_task) (
      new,
      λ j. elim (cases_eq j k) [
        | inl e ↦ ap (at_slot (map (option_map cutting_of) after)) e ∙ (seen_now
            ∙ sym (ap (λ b. cond b (Some (after_cut (Parted task.value.pieces) piece block (told_blocks given))) (at_slot (map (option_map cutting_of) cuts) j)) (eq-eqb j k e)))
        | inr far ↦ seen_others j far
            ∙ sym (ap (λ b. cond b (Some (after_cut (Parted task.value.pieces) piece block (told_blocks given))) (at_slot (map (option_map cutting_of) cuts) j)) (ne_eqb j k far))
      ],
    )

    pub all_part : IfSome (task_at cuts k) (λ t. IfSeveral given (Covers 0 t.pieces.rows))
        → IfSome (task_at cuts k) (λ t. IfSeveral given (λ blocks. blocks ≡ blocks_in (slice_set t.pieces.parts piece (WasGiven block))))
        → AreBlocksFor ts k given
    all_part covers among = go given
        (subst (λ (o : Option CutTask). IfSome o (λ t. IfSeveral given (Covers 0 t.pieces.rows))) (ap (option_and_then task_of_cut) task_is) covers)
        (subst (λ (o : Option CutTask). IfSome o (λ t. IfSeveral given (λ blocks. blocks ≡ blocks_in (slice_set t.pieces.parts piece (WasGiven block))))) (ap (option_and_then task_of_cut) task_is) among)
      where
        rows_are : task.value.pieces.rows ≡ rows_of (object_at ts k).shape
        rows_are = mine.1.rows ∙ ap (λ (o : Object). rows_of o.shape) (sym mine.1.needs.makes)

        go : (g : Given) → IfSeveral g (Covers 0 task.value.pieces.rows) → IfSeveral g (λ blocks. blocks ≡ blocks_in (slice_set task.value.pieces.parts piece (WasGiven block)))
            → AreBlocksFor ts k g
        go More covers among = tt
        go (Last (One b)) covers among = tt
        go (Last (Several blocks)) covers among = (
          subst (λ n. Covers 0 n blocks.items) rows_are covers,
          all_told task.value.pieces.parts piece block blocks.items among block_right mine.1.right,
        )

  -- ---- others are to come

  module _ (answer : IfSome (at_slot cuts k) (λ d. told_cut (cutting_of d) piece block ≡ Ok None))
      (left : IfSome (at_slot cuts k) (λ d. option_map cutting_of (at_slot after k) ≡ Some (after_cut (cutting_of d) piece block None)))
      (keeps : KeepsTask (task_at cuts k) (task_at after k)) (others : (j : ℕ) → j ≢ k → at_slot after j ≡ at_slot cuts j) where
    abbrev t : Box CutTask
    t = task More answer left others

    next : (u : Box CutTask) × (at_slot after k ≡ Some (cut.Underway u)) × (u.value.pieces ≡ after_give t.value.pieces piece block)
    next = go (at_slot after k) refl (now More answer left others)
      where
        go : (o : Option Cut) → at_slot after k ≡ o → option_map cutting_of (at_slot after k) ≡ Some (Parted (after_give t.value.pieces piece block))
            → (u : Box CutTask) × (at_slot after k ≡ Some (cut.Underway u)) × (u.value.pieces ≡ after_give t.value.pieces piece block)
        go None is h = absurd (let e = sym (ap (option_map cutting_of) is) ∙ h in cc (e))
        go (Some (cut.Joined n)) is h = absurd (let e = sym (ap (option_map cutting_of) is) ∙ h in cc (e))
        go (Some (cut.Underway u)) is h = let e : Some (Parted u.value.pieces) ≡ Some (Parted (after_give t.value.pieces piece block)) = sym (ap (option_map cutting_of) is) ∙ h in (u, is, cc (e))

    kept : (next.0.value.recipe ≡ t.value.recipe) × (next.0.value.inputs ≡ t.value.inputs)
    kept = subst (λ (o : Option CutTask). KeepsTask o (Some next.0.value)) (ap (option_and_then task_of_cut) (task_is More answer left others))
        (subst (λ (o : Option CutTask). KeepsTask (task_at cuts k) o) (ap (option_and_then task_of_cut) next.1) keeps)

    right_now : (j : ℕ) (b : Block) → slice_get (after_give t.value.pieces piece block).parts j ≡ Some (WasGiven b) → IsBlockFor ts k b
    right_now j b has = either (all_given (with_block t.value.pieces piece block)) has
      where
        either : (all : Bool) → slice_get (cond all (replicate (length t.value.pieces.ends) WasJoined) (with_block t.value.pieces piece block)) j ≡ Some (WasGiven b) → IsBlockFor ts k b
        either true h = absurd (none_there (length t.value.pieces.ends) j b h)
        either false h = get_set t.value.pieces.parts piece j (WasGiven block) (WasGiven b) h
            (λ e same. let f : block ≡ b = cc (same) in subst (IsBlockFor ts k) f (block_right More answer left others))
            (λ far before. (mine More answer left others).1.right j b before)

    shared : IsShared ts k next.0.value
    shared =
        let before = (mine More answer left others).1 in
        let recipe : arc_value next.0.value.recipe ≡ arc_value t.value.recipe = ap (λ r. arc_value r) kept.0 in
        record {
          needs = subst (λ (r : Recipe). AreFor ts k r next.0.value.inputs) (sym recipe) (subst (λ s. AreFor ts k (arc_value t.value.recipe) s) (sym kept.1) before.needs);
          rows = ap (λ (p : Parts). p.rows) next.2 ∙ (before.rows ∙ ap (λ (r : Recipe). rows_of (known_of r).shape) (sym recipe));
          right = λ j b has. right_now j b (ap (λ (p : Parts). slice_get p.parts j) (sym next.2) ∙ has);
        }

    pub cuts_more : length after ≡ length cuts → AreCuts ts ps after
    cuts_more same_size = record {
      sized = let n = are.sized in omega (arith, n, same_size);
      each_is = λ j d has. elim (cases_eq j k) [
        | inl e ↦
            let both : Some (cut.Underway next.0) ≡ Some d = sym (ap (at_slot after) e ∙ next.1) ∙ has in
            let f : cut.Underway next.0 ≡ d = cc (both) in
            subst (λ n. IsCutFor ts (slice_get ps n) n d) (sym e) (subst (λ (x : Cut). IsCutFor ts (slice_get ps k) k x) f ((mine More answer left others).0, shared))
        | inr far ↦ are.each_is j d (sym (others j far) ∙ has)
      ];
    }

    pub parted_more : (parted : List ℕ) (n : ℕ) → parted ≡ numbers (opens cuts) n → parted ≡ numbers (opens after) n
    parted_more parted n is = is ∙ numbers_same (opens cuts) (opens after) n (λ j low. elim (cases_eq j k) [
      | inl e ↦ ap (opens cuts) e ∙ (ap (λ (o : Option Cutting). option_map_or has_more o false) (seen_task More answer left others)
          ∙ sym (ap (opens after) e ∙ ap (λ (o : Option Cutting). option_map_or has_more o false) (seen_now More answer left others)))
      | inr far ↦ sym (open_same (map (option_map cutting_of) cuts) (map (option_map cutting_of) after) j (seen_others More answer left others j far))
    ])

  -- ---- none is to come

  module _ (blocks : Blocks) (answer : IfSome (at_slot cuts k) (λ d. told_cut (cutting_of d) piece block ≡ Ok (told_blocks (Last blocks))))
      (left : IfSome (at_slot cuts k) (λ d. option_map cutting_of (at_slot after k) ≡ Some (after_cut (cutting_of d) piece block (told_blocks (Last blocks)))))
      (others : (j : ℕ) → j ≢ k → at_slot after j ≡ at_slot cuts j) where
    joined : (count : ℕ) × (at_slot after k ≡ Some (cut.Joined count))
    joined = go (at_slot after k) refl (now (Last blocks) answer left others)
      where
        go : (o : Option Cut) → at_slot after k ≡ o → option_map cutting_of (at_slot after k) ≡ Some (Joined (length (task (Last blocks) answer left others).value.pieces.ends)) → (count : ℕ) × (at_slot after k ≡ Some (cut.Joined count))
        go None is h = absurd (let e = sym (ap (option_map cutting_of) is) ∙ h in cc (e))
        go (Some (cut.Underway u)) is h = absurd (let e = sym (ap (option_map cutting_of) is) ∙ h in cc (e))
        go (Some (cut.Joined n)) is h = (n, is)

    pub kept_last : {N : Type 0} (v w : View N) (parted next_list : List ℕ) → v.tasks ≡ ts → v.progress ≡ ps → length after ≡ length cuts → w ≡ with_progress v k Joining
        → parted ≡ numbers (opens cuts) (length ts) → k < length ts
        → ((p : ℕ → Bool) (m : ℕ) → parted ≡ numbers p m → k < m → next_list ≡ numbers (λ j. p j && not (eqb j k)) m)
        → AreCuts w.tasks w.progress after × (next_list ≡ numbers (opens after) (length w.tasks))
    kept_last {N = N} v w parted next_list tasks progress same_size new is low withdraws = (
      subst (λ (u : View N). AreCuts u.tasks u.progress after) (sym new)
          (subst (λ (x : List Task). AreCuts x (slice_set v.progress k Joining) after) (sym tasks) (subst (λ (x : List Progress). AreCuts ts (slice_set x k Joining) after) (sym progress) cuts_last)),
      withdraws (opens cuts) (length ts) is low ∙ (numbers_same (λ j. opens cuts j && not (eqb j k)) (opens after) (length ts) here
          ∙ (ap (λ (x : List Task). numbers (opens after) (length x)) (sym tasks) ∙ ap (λ (u : View N). numbers (opens after) (length u.tasks)) (sym new))),
    )
      where
        cuts_last : AreCuts ts (slice_set ps k Joining) after
        cuts_last = record {
          sized = let n = are.sized in omega (arith, n, same_size);
          each_is = λ j d has. elim (cases_eq j k) [
            | inl e ↦
                let both : Some (cut.Joined joined.0) ≡ Some d = sym (ap (at_slot after) e ∙ joined.1) ∙ has in
                let f : cut.Joined joined.0 ≡ d = cc (both) in
                subst (λ n. IsCutFor ts (slice_get (slice_set ps k Joining) n) n d) (sym e)
                (subst (λ (x : Cut). IsCutFor ts (slice_get (slice_set ps k Joining) k) k x) f (get_set_same ps k Joining Running (mine (Last blocks) answer left others).0))
            | inr far ↦ cut_same ts (slice_get ps j) (slice_get (slice_set ps k Joining) j) j d (are.each_is j d (sym (others j far) ∙ has)) (get_set_other ps k j Joining far)
          ];
        }

        and_true : (b : Bool) → (b && true) ≡ b
        and_true true = refl
        and_true false = refl

        and_false : (b : Bool) → (b && false) ≡ false
        and_false true = refl
        and_false false = refl

        here : (j : ℕ) → j < length ts → (opens cuts j && not (eqb j k)) ≡ opens after j
        here j under = elim (cases_eq j k) [
          | inl e ↦ ap (λ b. opens cuts j && not b) (eq-eqb j k e) ∙ (and_false (opens cuts j)
              ∙ sym (ap (opens after) e ∙ ap (λ (o : Option Cutting). option_map_or has_more o false) (at_map cutting_of after k ∙ ap (option_map cutting_of) joined.1)))
          | inr far ↦ ap (λ b. opens cuts j && not b) (ne_eqb j k far) ∙ (and_true (opens cuts j)
              ∙ sym (open_same (map (option_map cutting_of) cuts) (map (option_map cutting_of) after) j (seen_others (Last blocks) answer left others j far)))
        ]
