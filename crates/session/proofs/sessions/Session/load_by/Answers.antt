-- The store has what the entries make, which is an object; there is a number after the next one.
use Rattle.std.proofs.Common.{◌∙◌, ◌+◌, ap, subst, sym}
use Rattle.calls.specs.Stores.{IsStoreOf, object_with}
use Rattle.model.specs.declared.shape.Shape.TheVariants.{Two}
use Rattle.model.specs.declared.shape.Signature.{Signature}
use Rattle.calls.specs.declared.obj.Obj.{Obj}
use Rattle.model.specs.Marks.{State, Unmarked, with_mark}
use Rattle.model.specs.MatrixMarket.{Matrix}
use Rattle.model.specs.Object.{Object}
use Rattle.model.specs.Run.{with_object}
use Rattle.model.proofs.SettlesLaws.{settles-same}
use Rattle.objects.specs.Tables.{same_object}
use Rattle.session.specs.Performed.{environment_of, next_object, state_of}
use Rattle.session.proofs.AcceptedLaws.{number_left}
use Rattle.session.proofs.NumberLaws.{not_there}
use Rattle.session.proofs.PerformedLaws.{unmade-as}
use Rattle.session.proofs.ResultLaws.{read-is_store}
use Rattle.store.specs.Stored.{Stored, content_of}
use Rattle.session.proofs.sessions.Session.load_by.Goals as goal

pub insert-requires-clause-left : goal.insert-requires-clause-left
insert-requires-clause-left g c =
    number_left c.args.self.now.next (environment_of c.args.self.now).count c.args.domain (Two c.args.rows c.args.cols) c.in_ok-check_create.ensures

pub insert-requires-clause-value : goal.insert-requires-clause-value
insert-requires-clause-value g c =
    let m : Matrix = record { rows = c.args.rows; cols = c.args.cols; entries = c.args.entries } in
    let of : Signature = record { domain = c.args.domain; shape = Two c.args.rows c.args.cols } in
    let read = read-is_store c.args.domain m c.in_ok-store.store c.requires.built_in c.requires.inside c.requires.words c.in_ok-store.ensures.rows c.in_ok-store.ensures.cols c.in_ok-store.ensures.content in
    (subst (IsStoreOf of) (sym c.in_ok-store-2.ensures) read.0, tt)

pub returns-in_err-object-clause-loaded : goal.returns-in_err-object-clause-loaded
returns-in_err-object-clause-loaded g c =
    unmade-as c.args.self.now c.insert.new.self _ c.from_residual-in_err-object.result c.from_residual-in_err-object.ensures.1 c.in_err-object.ensures.kept c.in_err-object.ensures.unmade

pub returns-clause-loaded : goal.returns-clause-loaded
returns-clause-loaded g c =
    let session = c.args.self.now in
    let m : Matrix = record { rows = c.args.rows; cols = c.args.cols; entries = c.args.entries } in
    let of : Signature = record { domain = c.args.domain; shape = Two c.args.rows c.args.cols } in
    let read = read-is_store c.args.domain m c.in_ok-store.store c.requires.built_in c.requires.inside c.requires.words c.in_ok-store.ensures.rows c.in_ok-store.ensures.cols c.in_ok-store.ensures.content in
    let put : Object → State Obj = λ o. with_mark same_object (state_of session) (with_object same_object (environment_of session) (next_object session) o ((environment_of session).count + 1)) (next_object session) Unmarked in
    record {
      ends = (
        c.in_ok-check_create.ensures,
        settles-same _ (state_of c.insert.new.self) (c.in_ok-object.ensures.put ∙ ap (λ (s : Stored). put (object_with of (content_of s))) c.in_ok-store-2.ensures ∙ ap put read.1),
      );
      made = c.in_ok-object.ensures.made;
    }

pub returns-in_err-check_create-clause-unused : goal.returns-in_err-check_create-clause-unused
returns-in_err-check_create-clause-unused g c = not_there (environment_of c.args.self.now) (next_object c.args.self.now) c.args.self.now.fresh

pub returns-in_err-store-clause-unused : goal.returns-in_err-store-clause-unused
returns-in_err-store-clause-unused g c = not_there (environment_of c.args.self.now) (next_object c.args.self.now) c.args.self.now.fresh

pub returns-in_err-store-2-clause-unused : goal.returns-in_err-store-2-clause-unused
returns-in_err-store-2-clause-unused g c = not_there (environment_of c.args.self.now) (next_object c.args.self.now) c.args.self.now.fresh

pub returns-in_err-object-clause-unused : goal.returns-in_err-object-clause-unused
returns-in_err-object-clause-unused g c = not_there (environment_of c.args.self.now) (next_object c.args.self.now) c.args.self.now.fresh

pub returns-clause-unused : goal.returns-clause-unused
returns-clause-unused g c = not_there (environment_of c.args.self.now) (next_object c.args.self.now) c.args.self.now.fresh
