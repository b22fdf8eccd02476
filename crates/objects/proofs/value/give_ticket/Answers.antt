-- The ticket stands for the store that is there.
use Rattle.std.proofs.Common.{◌≡◌, ◌∙◌, ap, rules, sym}
use Rattle.std.specs.Arc.{arc_value}
use Rattle.calls.specs.declared.recipe.Given.{Given}
use Rattle.calls.specs.Stores.{IsStoreOf, object_with}
use Rattle.model.specs.Object.{Object, signature_of}
use Rattle.patch.specs.Edits.{edited}
use Rattle.store.specs.Stored.{Stored, content_of}
use Rattle.objects.proofs.value.give_ticket.Goals as goal

pub invariant_of-new : goal.invariant_of-new
invariant_of-new g c =
    let sound : IsStoreOf c.args.of (arc_value c.in-Here.store) = (rw c.in-Here.is at c.requires.sound).0 in
    let shared : arc_value c.in_ok-shared.shared ≡ arc_value c.in-Here.store = search rules in
    record { is_store = rw shared sound }

pub returns-clause-map : goal.returns-clause-map
returns-clause-map g c edits =
    let own : arc_value c.in_ok-store.store ≡ arc_value c.in-Here.store = search rules in
    rw c.in-Here.is (ap (λ (s : Stored). edited edits (content_of s)) own)

pub returns-clause-sound : goal.returns-clause-sound
returns-clause-sound g c =
    let sound : IsStoreOf c.args.of (arc_value c.in-Here.store) = (rw c.in-Here.is at c.requires.sound).0 in
    let own : arc_value c.in_ok-store.store ≡ arc_value c.in-Here.store = search rules in
    let shared : arc_value c.in_ok-shared.shared ≡ arc_value c.in-Here.store = search rules in
    let is : g.R.Runner.object_of c.in_ok-ticket.ticket ≡ object_with c.args.of (content_of (arc_value c.in_ok-shared.shared)) = c.in_ok-ticket.ensures.object ∙ ap (λ (given : Given). object_with given.of (content_of (arc_value given.store))) c.in_ok-given.ensures.ok in (
      rw own sound,
      (
        c.in_ok-ticket.ensures.is_object,
        ap signature_of is,
        λ i j. ap (λ (o : Object). o.content i j) is ∙ ap (λ (s : Stored). content_of s i j) (shared ∙ sym own),
      ),
    )
