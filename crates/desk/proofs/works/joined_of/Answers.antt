-- The store has what each block has in its rows.
use Rattle.std.proofs.Common.{subst, sym}
use Rattle.calls.specs.Recipes.{known_of}
use Rattle.desk.proofs.WorkLaws.{store_joined}
use Rattle.runner.specs.Tickets.{IsStoreFor}
use Rattle.store.specs.Stored.{Stored}
use Rattle.desk.proofs.works.joined_of.Goals as goal

pub returns : goal.returns
returns g c = λ o is shapes parts.
    subst (λ (s : Stored). IsStoreFor o s) (sym c.in_ok-new.ensures.ok)
    (store_joined (known_of c.args.recipe.now).shape c.args.blocks.items c.in_ok-store.store c.in_ok-store.ensures.rows c.in_ok-store.ensures.cols
    c.in_ok-store.ensures.content c.in_ok-store.ensures.within o is shapes parts)
