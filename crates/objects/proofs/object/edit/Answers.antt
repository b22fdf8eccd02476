-- The edit is inside the object, and its word is one of the domain.
use Rattle.std.proofs.Common.{rules, subst, sym}
use Rattle.model.specs.Object.{Object, cols_of, rows_of}
use Rattle.objects.proofs.WaitingLaws.{pushed-inside, pushed-words}
use Rattle.objects.specs.Waiting.{IsEditOf}
use Rattle.patch.specs.Edits.{IsInside}
use Rattle.objects.proofs.object.edit.Goals as goal

pub invariant_of-object-clause-inside : goal.invariant_of-object-clause-inside
invariant_of-object-clause-inside g c =
    let kept = c.make_room.new.object in
    let inside : IsInside (rows_of kept.of.shape) (cols_of kept.of.shape) c.args.edit =
    subst (λ (o : Object). IsInside (rows_of o.shape) (cols_of o.shape) c.args.edit) (sym c.make_room.ensures.object) c.requires.inside in
    pushed-inside c.push.result kept.edits.items c.push.new.self.items (rows_of kept.of.shape) (cols_of kept.of.shape) c.args.edit (search rules) (search rules) inside kept.inside

pub invariant_of-object-clause-words : goal.invariant_of-object-clause-words
invariant_of-object-clause-words g c =
    let kept = c.make_room.new.object in
    let word : IsEditOf kept.of.domain c.args.edit = subst (λ (o : Object). IsEditOf o.domain c.args.edit) (sym c.make_room.ensures.object) c.requires.word in
    pushed-words c.push.result kept.of.domain kept.edits.items c.push.new.self.items c.args.edit (search rules) (search rules) word kept.words
