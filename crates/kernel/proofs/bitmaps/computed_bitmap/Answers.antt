-- What is computed, cast to the output's domain.
use Rattle.std.proofs.Common.{◌≡◌, ◌∙◌, ap, sym}
use Rattle.std.specs.Option.{option_map}
use Rattle.algebra.specs.Value.{cast_of}
use Rattle.kernel.specs.Tasks.{operation_of}
use Rattle.kernel.proofs.Accepted.{task-accepts, task-known, task-offered, task-words}
use Rattle.model.specs.declared.call.Operation.{Operation}
use Rattle.model.specs.declared.shape.Signature.{Signature}
use Rattle.model.specs.Object.{signature_of}
use Rattle.model.specs.Renamed.{renamed_operation}
use Rattle.model.specs.Table.{plan_of}
use Rattle.kernel.proofs.bitmaps.computed_bitmap.Goals as goal

pub operation_bitmap-requires-clause-accepts : goal.operation_bitmap-requires-clause-accepts
operation_bitmap-requires-clause-accepts g c = task-accepts c.args.task.now

pub operation_bitmap-requires-clause-offered : goal.operation_bitmap-requires-clause-offered
operation_bitmap-requires-clause-offered g c = task-offered c.args.task.now

pub returns-clause-all : goal.returns-clause-all
returns-clause-all g c =
    let task = c.args.task.now in
    let sig = task.out.c.signature in
    let domain : c.answer_of-from.result ≡ (plan_of sig (renamed_operation signature_of (operation_of task))).domain =
    c.answer_of-from.ensures ∙ ap (λ (p : Operation Signature). (plan_of sig p).domain) (sym (task-known task)) in
    let cast = rw domain at c.bitmap_in_domain.ensures in
    let from = (plan_of sig (renamed_operation signature_of (operation_of task))).domain in
    let has = rw c.in-Some.is at c.in_ok-bitmap.ensures.all in
    record {
      rows_are = cast.rows ∙ has.rows_are;
      cols_are = cast.cols ∙ has.cols_are;
      words = λ i j.
          cast.content i j (λ word is. task-words task i j word (sym (has.words i j) ∙ is))
          ∙ ap (option_map (cast_of from sig.domain)) (has.words i j);
    }
