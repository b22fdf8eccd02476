-- The file is read, the session makes its matrix, and the name stands for it; or all is as it was, but that values may
-- have come to be there.
use Rattle.std.proofs.Common.{◌≡◌, ◌∙◌, ℕ, cond, false, Err, List, None, Some, ap, inl, inr, is_some, refl, rules, sym, true}
use Rattle.std.specs.HashMap.{get_by_text}
use Rattle.std.specs.Str.{bytes_eq}
use Rattle.std.specs.String.{string_bytes}
use Rattle.calls.specs.declared.obj.Obj.{Obj}
use Rattle.model.specs.declared.status.Status.TheVariants as status
use Rattle.model.specs.Loads.{file_in}
use Rattle.model.specs.MatrixMarket.{Matrix, object_read}
use Rattle.model.specs.Marks.{Unmarked}
use Rattle.model.specs.Run.{Environment}
use Rattle.model.proofs.MarketLaws.{matrix_in-inside, matrix_in-words}
use Rattle.script.specs.Named.{number_in, state_in}
use Rattle.script.proofs.LoadLaws.{ends-by, left-loaded, load-bad, load-missing, load-read, load-taken, loaded-ends, unloaded-ends, unloaded-kept}
use Rattle.script.proofs.MadeLaws.{made-there, names-after, refused-name}
use Rattle.session.specs.Performed.{environment_of, next_object, state_of}
use Rattle.session.proofs.PerformedLaws.{unmarked-absent}
use Rattle.script.proofs.environment.Environment.load.Goals as goal

pub returns-then-contains_key-clause-ends : goal.returns-then-contains_key-clause-ends
returns-then-contains_key-clause-ends g c =
    let names = c.args.self.now in
    let taken : is_some (number_in names c.args.load.name.now) ≡ true = search rules in
    inl (load-taken (number_in names) (environment_of names.session) c.args.load.name.now (file_in (g.S.Sources.held c.args.sources.now) c.args.load.domain c.args.load.file.now) names.there taken, refl)

pub returns-in_default-clause-ends : goal.returns-in_default-clause-ends
returns-in_default-clause-ends g c =
    let names = c.args.self.now in
    let free : is_some (number_in names c.args.load.name.now) ≡ false = search rules in
    let none : file_in (g.S.Sources.held c.args.sources.now) c.args.load.domain c.args.load.file.now ≡ None = search rules in
    inl (load-missing (number_in names) (environment_of names.session) c.args.load.name.now _ free none, refl)

pub returns-in_err-rows-clause-ends : goal.returns-in_err-rows-clause-ends
returns-in_err-rows-clause-ends g c =
    let names = c.args.self.now in
    let free : is_some (number_in names c.args.load.name.now) ≡ false = search rules in
    let held : g.S.Sources.held c.args.sources.now c.args.load.file.now ≡ Some c.in-Some.bytes.now = search rules in
    ends-by (state_in names) c.args.load.name.now c.args.load.domain _ c.from_residual.result c.in_err-rows.field-0.0 (search rules) (elim c.in_err-rows.ensures.err [
      | inl memory ↦ inl memory
      | inr bad ↦ inr (load-bad (number_in names) (environment_of names.session) c.args.load.name.now c.args.load.domain _ c.in-Some.bytes.now free held bad.1 ∙ ap Some (sym bad.0))
    ])

pub load_by-requires-clause-inside : goal.load_by-requires-clause-inside
load_by-requires-clause-inside g c =
    let m : Matrix = record { rows = c.in_ok-rows.rows; cols = c.in_ok-rows.cols; entries = c.in_ok-rows.entries } in
    matrix_in-inside c.args.load.domain c.in-Some.bytes.now m c.in_ok-rows.ensures.ok

pub load_by-requires-clause-words : goal.load_by-requires-clause-words
load_by-requires-clause-words g c =
    let m : Matrix = record { rows = c.in_ok-rows.rows; cols = c.in_ok-rows.cols; entries = c.in_ok-rows.entries } in
    matrix_in-words c.args.load.domain c.in-Some.bytes.now m c.in_ok-rows.ensures.ok

pub invariant_of-self : goal.invariant_of-self
invariant_of-self g c =
    let names = c.args.self.now in
    let m : Matrix = record { rows = c.in_ok-rows.rows; cols = c.in_ok-rows.cols; entries = c.in_ok-rows.entries } in
    let kept = unloaded-kept (number_in names) names.session c.load_by.new.self c.args.load.name.now c.args.load.domain None (object_read c.args.load.domain m) _ c.in_err-object.ensures.loaded.ends in
    record {
      distinct = names.distinct;
      there = λ name object is. ap (λ (env : Environment Obj). is_some (env.find_object object)) kept ∙ names.there name object is;
    }

pub returns-in_err-object-clause-ends : goal.returns-in_err-object-clause-ends
returns-in_err-object-clause-ends g c =
    let names = c.args.self.now in
    let m : Matrix = record { rows = c.in_ok-rows.rows; cols = c.in_ok-rows.cols; entries = c.in_ok-rows.entries } in
    let free : is_some (number_in names c.args.load.name.now) ≡ false = search rules in
    let held : g.S.Sources.held c.args.sources.now c.args.load.file.now ≡ Some c.in-Some.bytes.now = search rules in
    let same = load-read (number_in names) names.session c.args.load.name.now c.args.load.domain _ c.in-Some.bytes.now m c.requires.made free held c.in_ok-rows.ensures.ok in
    let refused : c.from_residual-in_err-object.result ≡ Err c.in_err-object.field-0.0 = search rules in
    rw refused (unloaded-ends (number_in names) names.session c.load_by.new.self c.args.load.name.now c.args.load.domain _ (object_read c.args.load.domain m) _ same c.in_err-object.ensures.loaded.ends)

pub put-requires : goal.put-requires
put-requires g c =
    let names = c.args.self.now in
    let m : Matrix = record { rows = c.in_ok-rows.rows; cols = c.in_ok-rows.cols; entries = c.in_ok-rows.entries } in
    rw c.in_ok-object.ensures.made (made-there (state_of names.session) (state_of c.load_by.new.self) (next_object names.session) (object_read c.args.load.domain m) Unmarked c.in_ok-object.ensures.loaded.ends.1)

pub invariant_of-self-2 : goal.invariant_of-self-2
invariant_of-self-2 g c =
    let names = c.args.self.now in
    let next = next_object names.session in
    let m : Matrix = record { rows = c.in_ok-rows.rows; cols = c.in_ok-rows.cols; entries = c.in_ok-rows.entries } in
    let after = names-after c.put.result (number_in names) (λ name. get_by_text c.put.new.numbers name) (state_of names.session) (state_of c.load_by.new.self) (state_of c.put.new.session) (string_bytes c.in_ok-name.name) next (object_read c.args.load.domain m) Unmarked
    c.in_ok-object.ensures.loaded.ends.1
    c.in_ok-object.ensures.unused (unmarked-absent names.session next c.in_ok-object.ensures.unused) names.distinct names.there (rw c.in_ok-object.ensures.made at c.put.ensures.named) (search rules) c.put.ensures.kept (rw c.in_ok-object.ensures.made at c.put.ensures.gone) in
    record { distinct = after.0; there = after.1 }

pub returns-in_err-put-clause-ends : goal.returns-in_err-put-clause-ends
returns-in_err-put-clause-ends g c =
    let names = c.args.self.now in
    let next = next_object names.session in
    let m : Matrix = record { rows = c.in_ok-rows.rows; cols = c.in_ok-rows.cols; entries = c.in_ok-rows.entries } in
    let refused : c.from_residual-in_err-put.result ≡ Err status.OutOfMemory = search rules in
    rw refused (inr (
      refl,
      refused-name (number_in names) (λ name. get_by_text c.put.new.numbers name) (state_of names.session) (state_of c.load_by.new.self) (state_of c.put.new.session) next (object_read c.args.load.domain m) Unmarked
          c.in_ok-object.ensures.loaded.ends.1
          c.in_ok-object.ensures.unused (unmarked-absent names.session next c.in_ok-object.ensures.unused) c.in_err-put.ensures.kept (rw c.in_ok-object.ensures.made at c.in_err-put.ensures.gone),
    ))

pub returns-clause-ends : goal.returns-clause-ends
returns-clause-ends g c =
    let names = c.args.self.now in
    let next = next_object names.session in
    let m : Matrix = record { rows = c.in_ok-rows.rows; cols = c.in_ok-rows.cols; entries = c.in_ok-rows.entries } in
    let free : is_some (number_in names c.args.load.name.now) ≡ false = search rules in
    let held : g.S.Sources.held c.args.sources.now c.args.load.file.now ≡ Some c.in-Some.bytes.now = search rules in
    let named : string_bytes c.in_ok-name.name ≡ c.args.load.name.now = search rules in
    let adds : (q : List ℕ) → get_by_text c.put.new.numbers q ≡ cond (bytes_eq c.args.load.name.now q) (Some next) (get_by_text names.numbers q) =
    λ q. rw (named, c.in_ok-object.ensures.made) at (c.in_ok-put.ensures.named q) in
    let same = load-read (number_in names) names.session c.args.load.name.now c.args.load.domain _ c.in-Some.bytes.now m c.requires.made free held c.in_ok-rows.ensures.ok in
    let left = left-loaded (number_in names) (λ name. get_by_text c.put.new.numbers name) (state_of names.session) c.args.load.name.now next c.args.load.domain _ c.in-Some.bytes.now m adds names.there c.in_ok-object.ensures.unused names.distinct held c.in_ok-rows.ensures.ok in
    rw c.in_ok-put.ensures.made (loaded-ends (number_in names) names.session c.load_by.new.self c.args.load.name.now c.args.load.domain _ (object_read c.args.load.domain m) (λ name. get_by_text c.put.new.numbers name) c.in_ok-object.object same left c.in_ok-object.ensures.loaded.ends)
