-- The step adds what the recipe makes, which is an object since its inputs are.
use Rattle.std.proofs.Common.{◌≡◌, ◌∙◌, ◌==◌, ◌++◌, ◌∷◌, [], ap, rules, subst, sym, true}
use Rattle.history.specs.declared.made.Made.{Made}
use Rattle.history.specs.Histories.{made_from, object_in, object_of}
use Rattle.history.proofs.Adding.{added, adds_moves, place_added}
use Rattle.history.proofs.MadeLaws.{made-is_object, made-object}
use Rattle.model.specs.Object.{IsObject}
use Rattle.runner.specs.Tickets.{made_by}
use Rattle.history.proofs.history.History.note.Given as given
use Rattle.history.proofs.history.History.note.Goals as goal

pub compare_exchange-found-requires : goal.compare_exchange-found-requires
compare_exchange-found-requires g c =
    let h = c.self.invariant.0 in
    let offer = c.plain-offer.ensures in
    let pen = c.no_pen-pen.ensures in (
      ap (λ w. w.tracked) h,
      sym (ap (λ w. w.book) h),
      pen.0 ∙ sym (ap (λ w. w.book) h),
      offer.0,
      rw (ap (λ w. w.key) h, pen.1, offer.3) (adds_moves c.self.inside.seen.log c.plain-offer.result.ask c.self.inside.next (sym c.self.invariant.1)),
    )

-- what was added, in all that is seen afterwards
grown : (g : given.Over) (c : goal.After-again g) → c.again.result.log ≡ c.self.inside.seen.log ++ made_from (made_by object_of c.args.recipe.now c.args.inputs) ∷ []
grown g c =
    let found : (c.compare_exchange-found.result == c.self.inside.next) ≡ true = search rules in
    let log : c.again.result.log ≡ c.compare_exchange-found.new.seen.log = search rules in
    log
    ∙ added c.compare_exchange-found.result c.self.inside.next c.self.inside.seen.log c.compare_exchange-found.new.seen.log c.plain-offer.result.ask found c.compare_exchange-found.ensures.7
    ∙ ap (λ (e : Made). c.self.inside.seen.log ++ e ∷ []) c.plain-offer.ensures.1

pub invariant_of-result : goal.invariant_of-result
invariant_of-result g c =
    let made = made_by object_of c.args.recipe.now c.args.inputs in
    let is : IsObject made = made-is_object object_of c.args.recipe.now c.args.inputs c.requires.fits c.are_sound.ensures in
    let at = place_added c.self.inside.next c.self.inside.seen.log c.again.result.log (made_from made) c.self.invariant.1 (grown g c) in
    (search rules, at.1, subst IsObject (sym (ap object_in at.0 ∙ made-object made is)) is)

pub returns-clause-object : goal.returns-clause-object
returns-clause-object g c =
    let made = made_by object_of c.args.recipe.now c.args.inputs in
    let is : IsObject made = made-is_object object_of c.args.recipe.now c.args.inputs c.requires.fits c.are_sound.ensures in
    let at = place_added c.self.inside.next c.self.inside.seen.log c.again.result.log (made_from made) c.self.invariant.1 (grown g c.before.before) in
    ap object_in at.0 ∙ made-object made is

pub returns-clause-is_object : goal.returns-clause-is_object
returns-clause-is_object g c =
    let made = made_by object_of c.args.recipe.now c.args.inputs in
    let is : IsObject made = made-is_object object_of c.args.recipe.now c.args.inputs c.requires.fits c.are_sound.ensures in
    let at = place_added c.self.inside.next c.self.inside.seen.log c.again.result.log (made_from made) c.self.invariant.1 (grown g c.before.before) in
    subst IsObject (sym (ap object_in at.0 ∙ made-object made is)) is
