-- What accepted calls leave: one object that is made or changed, which lists what is inside its shape.
use Rattle.std.proofs.Common.{◌≡◌, ◌∙◌, ℕ, refl, sym, ap, [], ◌∷◌, Option, Some, None, MatchOption}
use Rattle.std.specs.List.{All}
use Rattle.std.specs.Option.{option_map, option_map_or, unwrap_or}
use Rattle.std.specs.Str.{bytes_eq}
use Rattle.std.specs.String.{string_bytes}
use Rattle.std.proofs.lemmas.List.Elements.{All-cons, All-nil}
use Rattle.algebra.specs.Value.{word_of}
use Rattle.model.specs.declared.call.Call.{Call}
use Rattle.model.specs.declared.call.Act.TheVariants.{Build, Clear, Free, Remove, Resize, Set}
use Rattle.model.specs.declared.call.Call.TheVariants.{Create, Dup, On, Operate}
use Rattle.model.specs.declared.call.Operation.{Operation}
use Rattle.model.specs.declared.call.Operation.TheVariants.{Fill, OfOne, OfTwo}
use Rattle.model.specs.declared.shape.Signature.{Signature}
use Rattle.model.specs.declared.status.Status.TheVariants as status
use Rattle.model.specs.Builds.{are_inside}
use Rattle.model.specs.Entries.{entries_of}
use Rattle.model.specs.Fault.{fault_of}
use Rattle.model.specs.Grammar.{Name}
use Rattle.model.specs.Object.{Content, Object, cols_of, is_inside, no_content, rows_of}
use Rattle.model.specs.Regions.{cut_to}
use Rattle.model.specs.Renamed.{inputs_of, renamed_operation, renamed_out}
use Rattle.model.specs.Run.{Environment, effect, no_object, object_at, on_objects, seen, with_object}
use Rattle.model.proofs.BuildLaws.{built-within}
use Rattle.model.proofs.ObjectLaws.{removed-within, set-within}
use Rattle.model.proofs.RegionLaws.{cut_to-within}
use Rattle.model.proofs.OperationLaws.{KeepsInside}
use Rattle.model.proofs.ResultLaws.{result-within}
use Rattle.model.proofs.StepLaws.{accepted-act, accepted-operation}
use Rattle.model.proofs.WriteBackLaws.{not_false}
use Rattle.plain.specs.declared.environment.PlainEnvironment.{PlainEnvironment}
use Rattle.plain.specs.declared.objects.PlainObject.{PlainObject}
use Rattle.plain.specs.Acts.{content_left}
use Rattle.plain.specs.Environments.{content_made, count_after, environment_of, find_in, known_as, made, with_name}
use Rattle.plain.specs.Evaluated.{listed_word, object_of}
use Rattle.plain.proofs.ObjectLaws.{object-listed, whole}

-- ---- the objects of an environment keep inside their shapes

found_inside : (o : Option PlainObject) → KeepsInside (unwrap_or (option_map object_of o) no_object)
found_inside None i j outside = refl
found_inside (Some o) i j outside = cut_to-within (rows_of o.shape) (cols_of o.shape) (listed_word o.entries.items) i j outside

module _ (plain : PlainEnvironment) where
  abbrev pub env : Environment Name
  env = environment_of plain

  inside : (name : Name) → KeepsInside (object_at env name)
  inside name = found_inside (find_in plain.objects.items name)

  inputs_inside : (operation : Operation Name)
      → All KeepsInside (inputs_of (renamed_operation (object_at env) operation))
  inputs_inside (Fill value region) = All-nil KeepsInside
  inputs_inside (OfOne computes a) = All-cons KeepsInside (object_at env a) [] (inside a) (All-nil KeepsInside)
  inputs_inside (OfTwo computes a b) =
      All-cons KeepsInside (object_at env a) (object_at env b ∷ []) (inside a) (All-cons KeepsInside (object_at env b) [] (inside b) (All-nil KeepsInside))

  -- ---- what is made

  -- the map of the object is what its shape leaves of the map that is evaluated
  abbrev IsCut : Call Name Name → Name × Object → Type 0
  IsCut call m = (i j : ℕ) → m.1.content i j ≡ cut_to (rows_of m.1.shape) (cols_of m.1.shape) (content_made (on_objects env call)) i j

  made-cut : (call : Call Name Name) → fault_of env.count (seen env call) ≡ None
      → MatchOption (made env call) Unit (IsCut call)
  made-cut (Create name domain shape) accepted = whole (rows_of shape) (cols_of shape) no_content (λ i j outside. refl)
  made-cut (Dup name object) accepted =
      let o = object_at env object in whole (rows_of o.shape) (cols_of o.shape) o.content (inside object)
  made-cut (On name (Resize shape)) accepted = λ i j. refl
  made-cut (On name Clear) accepted =
      let o = object_at env name in whole (rows_of o.shape) (cols_of o.shape) no_content (λ i j outside. refl)
  made-cut (On name (Build dup tuples)) accepted =
      let o = object_at env name in
      whole (rows_of o.shape) (cols_of o.shape) (content_left (Build dup tuples) o)
      (built-within dup o.domain o.shape tuples (not_false (are_inside o.shape tuples) (accepted-act env name (Build dup tuples) 9 status.IndexOutOfBounds refl refl accepted)))
  made-cut (On name (Set place value)) accepted =
      let o = object_at env name in
      whole (rows_of o.shape) (cols_of o.shape) (content_left (Set place value) o)
      (set-within o place (word_of o.domain value) (inside name) (not_false (is_inside place o.shape) (accepted-act env name (Set place value) 8 status.InvalidIndex refl refl accepted)))
  made-cut (On name (Remove place)) accepted =
      let o = object_at env name in
      whole (rows_of o.shape) (cols_of o.shape) (content_left (Remove place) o) (removed-within o place (inside name))
  made-cut (Operate out operation) accepted =
      let objects = renamed_out (object_at env) out in
      let inputs = renamed_operation (object_at env) operation in
      whole (rows_of objects.c.shape) (cols_of objects.c.shape) (content_made {N = Name} (on_objects env (Operate out operation)))
      (result-within objects inputs (accepted-operation env out operation accepted) (inside out.c) (inputs_inside operation))
  made-cut _ accepted = tt

  named_object : (o : PlainObject) (c : Content) (m : Option (Name × Object))
      → MatchOption m Unit (λ m. (i j : ℕ) → m.1.content i j ≡ cut_to (rows_of m.1.shape) (cols_of m.1.shape) c i j)
      → Some (known_as (with_name o)) ≡ option_map known_as m
      → o.entries.items ≡ entries_of (rows_of o.shape) (cols_of o.shape) c → Some (with_name o) ≡ m
  named_object o c None cut is lists = absurd (cc)
  named_object o c (Some m) cut is lists =
      let known : known_as (with_name o) ≡ known_as m = cc in
      let same = object-listed o m.1 c (ap (λ (k : Name × Signature). k.1) known) lists cut in
      let same_name : string_bytes o.name ≡ m.0 = ap (λ (k : Name × Signature). k.0) known in
      λ i. Some (same_name i, same i)

  -- an object with its name that lists what a call makes inside its shape is what the call makes
  pub made-listed : (call : Call Name Name) (o : PlainObject) → fault_of env.count (seen env call) ≡ None
      → Some (known_as (with_name o)) ≡ option_map known_as (made env call)
      → o.entries.items ≡ entries_of (rows_of o.shape) (cols_of o.shape) (content_made (on_objects env call))
      → Some (with_name o) ≡ made env call
  made-listed call o accepted is lists = named_object o (content_made (on_objects env call)) (made env call) (made-cut call accepted) is lists

  -- ---- what is left

  -- a call that frees nothing leaves what it makes in the place of its name
  effect-made : (call : Call Name Name) → ((name : Name) → call ≡ On name Free → ⊥)
      → effect bytes_eq env call ≡ option_map_or (λ m. with_object bytes_eq env m.0 m.1 (count_after call env.count))
      (made env call) env
  unfolding effect
  effect-made (On name Free) stays = absurd (stays name refl)
  effect-made _ stays = refl

  pub effect-is : (call : Call Name Name) (m : Option (Name × Object)) → ((name : Name) → call ≡ On name Free → ⊥)
      → m ≡ made env call
      → option_map_or (λ m. with_object bytes_eq env m.0 m.1 (count_after call env.count)) m env ≡ effect bytes_eq env call
  effect-is call m stays is =
      ap (λ (m : Option (Name × Object)). option_map_or (λ m. with_object bytes_eq env m.0 m.1 (count_after call env.count)) m env) is ∙ sym (effect-made call stays)
