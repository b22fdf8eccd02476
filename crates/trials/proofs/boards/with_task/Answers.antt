-- The one task is the store, which has no entries.
use Rattle.std.proofs.Common.{◌≡◌, ◌∙◌, ℕ, List, [], ◌∷◌, ◌++◌, ap, slice_get, subst}
use Rattle.std.specs.Arc.{arc_value}
use Rattle.board.proofs.GivenLaws.{given_object, given_right}
use Rattle.board.specs.Boards.{view_of}
use Rattle.stages.specs.Tasks.{Task, object_at}
use Rattle.stages.specs.Views.{View}
use Rattle.calls.specs.declared.recipe.Recipe.TheVariants.{Given}
use Rattle.calls.specs.declared.role.Roles.{Roles}
use Rattle.calls.specs.Roles.{no_roles}
use Rattle.trials.specs.Tries.{matrix}
use Rattle.model.specs.Object.{Object, no_content}
use Rattle.runner.specs.Tickets.{IsStoreFor}
use Rattle.store.specs.Stored.{content_of}
use Rattle.trials.proofs.boards.with_task.Goals as goal

pub returns : goal.returns
returns c =
    let given = c.in_ok-given.given in
    let tasks : (view_of c.issue.new.self).tasks ≡ record { recipe = Given given; inputs = no_roles } ∷ [] =
    ap (λ (v : View ℕ). v.tasks) c.in-Ok.ensures.issued
    ∙ ap (λ (v : View ℕ). v.tasks ++ record { recipe = Given given; inputs = c.none.result } ∷ []) c.new-board.ensures.view
    ∙ ap (λ (i : Roles ℕ). record { recipe = Given given; inputs = i } ∷ []) c.none.ensures in
    let at = ap (λ (l : List Task). slice_get l 0) tasks in
    let map : content_of (arc_value given.value.store) ≡ no_content = λ x i j. c.in_ok-given.ensures.empty i j x in
    let object : object_at (view_of c.issue.new.self).tasks 0 ≡ matrix =
    given_object (view_of c.issue.new.self).tasks 0 given at
    ∙ (λ x. record { domain = c.in_ok-given.ensures.domain x; shape = c.in_ok-given.ensures.shape x; content = map x }) in
    let right = given_right (view_of c.issue.new.self).tasks 0 given at in
    record {
      object = object;
      store = subst (λ (o : Object). IsStoreFor o (arc_value c.in_ok-store.store)) object (rw (c.in_ok-store.ensures, c.deref.ensures) right);
    }
