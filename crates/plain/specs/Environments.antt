-- What the plain evaluator's environments, calls and answers stand for.
use Rattle.std.specs.Prelude.{ℕ, ◌+◌, ◌&&◌, Bool, is_some, List, Option, Some}
use Rattle.std.specs.Borrow.{Bor}
use Rattle.std.specs.List.{find}
use Rattle.std.specs.Option.{option_map}
use Rattle.std.specs.Str.{bytes_eq}
use Rattle.std.specs.String.{string_bytes}
use Rattle.model.specs.declared.call.Call.{Call}
use Rattle.model.specs.declared.call.Call.TheVariants.{Create, Dup, On, Operate}
use Rattle.model.specs.declared.call.Operation.{Operation}
use Rattle.model.specs.declared.call.Out.{Out}
use Rattle.model.specs.declared.shape.Signature.{Signature}
use Rattle.model.specs.declared.status.Status.{Status}
use Rattle.model.specs.Fault.{fault_of}
use Rattle.model.specs.Grammar.{Name}
use Rattle.model.specs.Object.{Content, Object, empty_object, in_domain, no_content, signature_of}
use Rattle.model.specs.Object.{transposed_object}
use Rattle.model.specs.Operations.{computed, is_written_by}
use Rattle.model.specs.Renamed.{renamed, renamed_operation, renamed_out}
use Rattle.model.specs.Run.{Environment, changed_by, effect, object_at, on_objects, seen}
use Rattle.model.specs.Table.{is_offered, transposed}
use Rattle.model.specs.Text.{Answer}
use Rattle.model.specs.WriteBack.{landed, result_of}
use Rattle.plain.specs.Acts.{content_left}
use Rattle.plain.specs.declared.answers.PlainAnswer.{PlainAnswer}
use Rattle.plain.specs.declared.environment.PlainEnvironment.{PlainEnvironment}
use Rattle.plain.specs.declared.objects.PlainObject.{PlainObject}
use Rattle.plain.specs.Evaluated.{accumulator_offered, lines_of, object_of}

-- the first object of a name
abbrev pub find_in : List PlainObject → Name → Option PlainObject
find_in objects name = find (λ o. bytes_eq (string_bytes o.name) name) objects

-- the objects by their names
abbrev pub environment_of : PlainEnvironment → Environment Name
environment_of env = record {
  find_object = λ name. option_map object_of (find_in env.objects.items name);
  count = env.live;
}

abbrev pub answer_of : PlainAnswer → Answer
answer_of a = record { number = a.number; status = a.status; data_lines = lines_of a.data_lines }

-- ---- calls

-- a call with its names as lists of bytes
abbrev pub named : Call (Bor Name) (Bor Name) → Call Name Name
named call = renamed (λ name. name.now) (λ name. name.now) call

abbrev pub named_out : Out (Bor Name) → Out Name
named_out out = renamed_out (λ name. name.now) out

abbrev pub named_operation : Operation (Bor Name) → Operation Name
named_operation operation = renamed_operation (λ name. name.now) operation

-- the objects that names stand for
abbrev pub object_in : PlainEnvironment → Name → Object
object_in env name = object_at (environment_of env) name

abbrev pub out_in : PlainEnvironment → Out (Bor Name) → Out Object
out_in env out = renamed_out (object_in env) (named_out out)

abbrev pub operation_in : PlainEnvironment → Operation (Bor Name) → Operation Object
operation_in env operation = renamed_operation (object_in env) (named_operation operation)

-- what is known of what a name stands for, if it stands for something
abbrev pub known_at : PlainEnvironment → Name → Option Signature
known_at env name = option_map signature_of ((environment_of env).find_object name)

-- what is known of what is found of a call's objects
abbrev pub found_in : PlainEnvironment → Call Name Name → Call (Option Signature) Bool
found_in env call = renamed (option_map signature_of) (λ taken. taken) (seen (environment_of env) call)

-- what is known of the objects that a call's names stand for
abbrev pub known_in : PlainEnvironment → Call Name Name → Call Signature Bool
known_in env call =
    renamed signature_of (λ name. is_some ((environment_of env).find_object name))
    (on_objects (environment_of env) call)

-- the fault of a call, if it has one
abbrev pub fault_in : PlainEnvironment → Call Name Name → Option Status
fault_in env call = fault_of (environment_of env).count (seen (environment_of env) call)

-- whether there are the operators that an operation and its accumulator name
abbrev pub are_operators : {K L : Type 0} → Out K → Operation L → Bool
are_operators out operation = is_offered operation && accumulator_offered out.accum

-- what an operation leaves in its output, where no mask keeps it out
abbrev pub landed_in : Out Object → Operation Object → Content
landed_in out operation =
    let t = computed (signature_of out.c) (transposed transposed_object out.desc operation) in
    landed out (is_written_by out.c.shape operation) (in_domain out.c.domain t)

-- ---- effects

-- what an accepted call leaves
abbrev pub effect_in : PlainEnvironment → Call Name Name → Environment Name
effect_in env call = effect bytes_eq (environment_of env) call

-- the map of the object that a call makes or changes, in which the shape then leaves what is inside it
abbrev pub content_made : {N : Type 0} → Call Object N → Content
content_made (Create name domain shape) = no_content
content_made (Dup name o) = o.content
content_made (On o act) = content_left act o
content_made (Operate out operation) = result_of out operation

-- that object with its name, if there is one
abbrev pub made : Environment Name → Call Name Name → Option (Name × Object)
made env (Create name domain shape) = Some (name, empty_object domain shape)
made env (Dup name object) = Some (name, object_at env object)
made env (On name act) = option_map (λ o. (name, o)) (changed_by act (object_at env name))
made env (Operate out operation) = Some (
  out.c,
  record (object_at env out.c) {
    content = result_of (renamed_out (object_at env) out) (renamed_operation (object_at env) operation);
  },
)

-- an object with its name, and what is known of one
abbrev pub with_name : PlainObject → Name × Object
with_name o = (string_bytes o.name, object_of o)

abbrev pub known_as : Name × Object → Name × Signature
known_as m = (m.0, signature_of m.1)

abbrev pub target_of : Bor Name × Signature → Name × Signature
target_of t = (t.0.now, t.1)

-- how many objects there are after a call that frees none
abbrev pub count_after : {K N : Type 0} → Call K N → ℕ → ℕ
count_after (Create name domain shape) count = count + 1
count_after (Dup name object) count = count + 1
count_after call count = count
