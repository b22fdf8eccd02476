-- Tables in which one object was changed.
use Rattle.std.proofs.Common.{◌≡◌, ◌∙◌, ℕ, ◌==◌, Bool, true, false, cond, Option, Some, None, is_some, IsSome, Result, Ok, Err, nat_cmp, nat_lt, inl, inr, refl, sym, subst, ap, arith}
use Rattle.std.specs.Prelude.{OnErr, OnOk}
use Rattle.std.specs.BTreeMap.{WritesThrough, btree_map_len, get, get_by}
use Rattle.std.specs.Option.{option_map, option_map_or, unwrap_or}
use Rattle.std.specs.Ordering.{is_eq}
use Rattle.std.proofs.lemmas.Bool.{cases_Bool, eqb-true, le-ltb}
use Rattle.calls.specs.declared.obj.Obj.{Obj}
use Rattle.model.specs.Marks.{Mark, MayBecome, Settles, Unmarked, is_told, is_unmarked, with_mark}
use Rattle.model.specs.Object.{Object, no_content}
use Rattle.model.specs.Run.{Environment, no_object, object_at, with_object}
use Rattle.objects.specs.declared.kept.Kept.{Kept}
use Rattle.objects.specs.declared.kept.Refusal.{Refusal}
use Rattle.objects.specs.declared.kept.Refusal.TheVariants as refusal
use Rattle.objects.specs.declared.table.Table.{Table}
use Rattle.objects.specs.Kept.{Finishes, is_ready, mark_in, object_in}
use Rattle.objects.specs.Tables.{Reads, is_ready_at, same_object, state_in, with_kept}
use Rattle.runner.specs.declared.runner.Runner.{Ghosts}

-- the numbers compare as equal where they are
compares_equal : (a b : ℕ) → is_eq (nat_cmp a b) ≡ (a == b)
compares_equal a b =
    elim (cases_Bool (a == b)) [
      | inl same ↦
          let is : a ≡ b = eqb-true a b same in
          rw (le-ltb a b (omega arith), same) refl
      | inr apart ↦ elim (cases_Bool (nat_lt a b)) [
        | inl low ↦ rw (low, apart) refl
        | inr high ↦ rw (high, apart) refl
      ]
    ]

-- ---- under a number

module _ {R T : Type 0} {g : Ghosts R T} (m n : Table R T g) (o : Obj) (new : Kept R T g) (count : ℕ)
    (now : (q : ℕ) → get nat_cmp n.by_number q ≡ cond (o.0 == q) (Some new) (get nat_cmp m.by_number q))
    (counted : btree_map_len n.by_number ≡ count) where
  object_put : (same : Bool) (was : Option (Kept R T g))
      → option_map object_in (cond same (Some new) was) ≡ cond same (Some (object_in new)) (option_map object_in was)
  object_put true was = refl
  object_put false was = refl

  mark_put : (same : Bool) (was : Option (Kept R T g))
      → option_map_or mark_in (cond same (Some new) was) Unmarked ≡ cond same (mark_in new) (option_map_or mark_in was Unmarked)
  mark_put true was = refl
  mark_put false was = refl

  -- the objects and marks after an object was put under a number
  pub state_put : state_in n ≡ with_mark same_object (state_in m) (with_object same_object (state_in m).environment o (object_in new) count) o (mark_in new)
  state_put =
      let objects : (q : Obj) → option_map object_in (get nat_cmp n.by_number q.0) ≡ cond (o.0 == q.0) (Some (object_in new)) (option_map object_in (get nat_cmp m.by_number q.0)) =
      λ q. ap (option_map object_in) (now q.0) ∙ object_put (o.0 == q.0) (get nat_cmp m.by_number q.0) in
      let marks : (q : Obj) → option_map_or mark_in (get nat_cmp n.by_number q.0) Unmarked ≡ cond (o.0 == q.0) (mark_in new) (option_map_or mark_in (get nat_cmp m.by_number q.0) Unmarked) =
      λ q. ap (λ (k : Option (Kept R T g)). option_map_or mark_in k Unmarked) (now q.0) ∙ mark_put (o.0 == q.0) (get nat_cmp m.by_number q.0) in
      λ t. record { environment = record { find_object = λ q. objects q t; count = counted t }; marks = λ q. marks q t }

-- a number that was new
pub state_inserted : {R T : Type 0} {g : Ghosts R T} (m n : Table R T g) (o : Obj) (new : Kept R T g) (count : ℕ)
    → ((q : ℕ) → get nat_cmp n.by_number q ≡ cond (is_eq (nat_cmp o.0 q)) (Some new) (get nat_cmp m.by_number q))
    → btree_map_len n.by_number ≡ count
    → state_in n ≡ with_mark same_object (state_in m) (with_object same_object (state_in m).environment o (object_in new) count) o (mark_in new)
state_inserted m n o new count now counted = state_put m n o new count
    (λ q. now q ∙ ap (λ (b : Bool). cond b (Some new) (get nat_cmp m.by_number q)) (compares_equal o.0 q)) counted

-- ---- under a number that is there

module _ {R T : Type 0} {g : Ghosts R T} (m n : Table R T g) (o : Obj) (old new : Kept R T g) (there : Some old ≡ get_by (nat_cmp o.0) m.by_number)
    (written : WritesThrough nat_cmp (nat_cmp o.0) m.by_number new n.by_number) where
  -- what a table has after another object was written at a number that is there
  get_written : (q : ℕ) → get nat_cmp n.by_number q ≡ cond (o.0 == q) (Some new) (get nat_cmp m.by_number q)
  get_written q =
      (written.3 (subst IsSome there refl)).0 q ∙ ap (λ (b : Bool). cond b (Some new) (get nat_cmp m.by_number q)) (compares_equal o.0 q)

  there_at : (q : Obj) → (o.0 == q.0) ≡ true → get nat_cmp m.by_number q.0 ≡ Some old
  there_at q same = ap (λ (k : ℕ). get nat_cmp m.by_number k) (sym (eqb-true o.0 q.0 same)) ∙ sym there

  -- the objects and marks after it
  pub state_written : state_in n ≡ with_kept (state_in m) o (object_in new) (mark_in new)
  state_written = state_put m n o new (state_in m).environment.count get_written written.2

  -- the object and the mark of a number that is there
  pub object_there : object_in old ≡ object_at (state_in m).environment o
  object_there = ap (λ (g : Option (Kept R T g)). unwrap_or (option_map object_in g) no_object) there

  pub mark_there : (state_in m).marks o ≡ mark_in old
  mark_there = ap (λ (g : Option (Kept R T g)). option_map_or mark_in g Unmarked) (sym there)

  -- what stands where it was changes no object
  environment_same : with_object same_object (state_in m).environment o (object_in old) (state_in m).environment.count ≡ (state_in m).environment
  environment_same = λ t. record { find_object = λ q. point q t; count = (state_in m).environment.count }
    where
      point : (q : Obj) → cond (o.0 == q.0) (Some (object_in old)) (option_map object_in (get nat_cmp m.by_number q.0)) ≡ option_map object_in (get nat_cmp m.by_number q.0)
      point q = elim (cases_Bool (o.0 == q.0)) [
        | inl same ↦ rw (same, there_at q same) refl
        | inr apart ↦ rw apart refl
      ]

  marks_same : (q : Obj) → cond (o.0 == q.0) (mark_in old) ((state_in m).marks q) ≡ (state_in m).marks q
  marks_same q = elim (cases_Bool (o.0 == q.0)) [
    | inl same ↦ rw (same, there_at q same) refl
    | inr apart ↦ rw apart refl
  ]

  -- the same object with another mark
  pub state_marked : object_in new ≡ object_in old
      → state_in n ≡ with_mark same_object (state_in m) (state_in m).environment o (mark_in new)
  state_marked is = state_written
      ∙ ap (λ (p : Object). with_kept (state_in m) o p (mark_in new)) is
      ∙ ap (λ (env : Environment Obj). with_mark same_object (state_in m) env o (mark_in new)) environment_same

  pub state_same : object_in new ≡ object_in old → mark_in new ≡ mark_in old
      → state_in n ≡ state_in m
  state_same is mark = state_marked is
      ∙ ap (λ (k : Mark). with_mark same_object (state_in m) (state_in m).environment o k) mark
      ∙ (λ t. record { environment = (state_in m).environment; marks = λ q. marks_same q t })

  -- the same object, whose value may have come to be there
  pub settles_written : object_in new ≡ object_in old → MayBecome (mark_in old) (mark_in new)
      → Settles (state_in m) (state_in n)
  settles_written is may = subst (Settles (state_in m)) (sym (state_marked is)) (record { environment = refl; marks = point })
    where
      point : (q : Obj) → MayBecome ((state_in m).marks q) (cond (o.0 == q.0) (mark_in new) ((state_in m).marks q))
      point q = elim (cases_Bool (o.0 == q.0)) [
        | inl same ↦ rw (same, there_at q same) may
        | inr apart ↦ rw apart (inl refl)
      ]

  pub finishes_reads : (result : Result (Unit {0}) Refusal) → Finishes old new result
      → Reads (state_in m) o (state_in n) result
  finishes_reads (Ok done) (untold, is, mark, finished) =
      (ap is_told mark_there ∙ untold, state_marked is ∙ ap (λ (k : Mark). with_mark same_object (state_in m) (state_in m).environment o k) mark)
  finishes_reads (Err refusal.NoMemory) (is, may) = settles_written is may
  finishes_reads (Err refusal.Failed) (waits, is, mark) = (
    ap is_unmarked mark_there ∙ waits,
    state_written
        ∙ (λ t. with_kept (state_in m) o ((is ∙ ap (λ (p : Object). let q : Object = record p { content = no_content } in q) object_there) t) (mark t)),
  )

  -- ---- tickets

  pub ready_there : is_ready new ≡ true → is_ready_at n o ≡ true
  ready_there ready = rw (get_written o.0, same_self o.0) ready
    where
      same_self : (k : ℕ) → (k == k) ≡ true
      same_self k = grind (arith)

  pub ready_still : (is_ready old ≡ true → is_ready new ≡ true) → (q : Obj) → is_ready_at m q ≡ true
      → is_ready_at n q ≡ true
  ready_still still q ready = elim (cases_Bool (o.0 == q.0)) [
    | inl same ↦
        let was : is_ready old ≡ true = rw (there_at q same) at ready in
        rw (get_written q.0, same) (still was)
    | inr apart ↦ rw (get_written q.0, apart) ready
  ]

-- ---- results

pub on_err : {X E : Type 0} (P : Type 0) (r : Result X E) → P → OnErr r P
on_err P (Ok x) p = tt
on_err P (Err e) p = p

pub on_ok_both : {X E : Type 0} (P Q : Type 0) (r : Result X E) → OnOk r P → OnOk r Q → OnOk r (P × Q)
on_ok_both P Q (Ok x) p q = (p, q)
on_ok_both P Q (Err e) p q = tt

pub on_err_both : {X E : Type 0} (P Q : Type 0) (r : Result X E) → OnErr r P → OnErr r Q → OnErr r (P × Q)
on_err_both P Q (Ok x) p q = tt
on_err_both P Q (Err e) p q = (p, q)

-- a number under which nothing stands has no object
pub none_there : {R T : Type 0} {g : Ghosts R T} (o : Option (Kept R T g)) → option_map object_in o ≡ None
    → is_some o ≡ false
none_there None none = refl
none_there (Some kept) none = absurd (cc)
