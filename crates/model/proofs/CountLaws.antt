-- An environment's count is the number of names that stand for an object, and every step keeps that.
use Rattle.std.proofs.Common.{◌≡◌, ◌∙◌, ℕ, ◌+◌, Bool, true, false, not, cond, ◌&&◌, ◌||◌, List, [], ◌∷◌, length, Option, Some, None, is_none, is_some, refl, sym, ap, inl, inr, arith}
use Rattle.std.specs.Option.{option_and_then, option_map}
use Rattle.std.specs.Prelude.{Ok, Err}
use Rattle.std.specs.Str.{bytes_eq}
use Rattle.std.proofs.lemmas.Bool.{and_parts, cases_Bool}
use Rattle.std.proofs.lemmas.Slice.Eq.{bytes_eq-Decides}
use Rattle.model.specs.declared.call.Act.{Act}
use Rattle.model.specs.declared.call.Act.TheVariants.{Free, Clear, Resize, Build, Set, Remove, Get, Nvals, Print, Reduce, Wait}
use Rattle.model.specs.declared.call.Call.{Call}
use Rattle.model.specs.declared.call.Call.TheVariants.{Create, Dup, On, Operate}
use Rattle.model.specs.declared.call.Operation.{Operation}
use Rattle.model.specs.declared.call.Out.{Out}
use Rattle.model.specs.declared.status.Status.{Status}
use Rattle.model.specs.Fault.{fault_of}
use Rattle.model.specs.Grammar.{Name}
use Rattle.model.specs.Object.{Object, empty_object, signature_of}
use Rattle.algebra.specs.declared.domain.Domain.{Domain}
use Rattle.model.specs.Loads.{load_fault}
use Rattle.model.specs.MatrixMarket.{File, object_read}
use Rattle.model.specs.Renamed.{found, found_out, renamed_out}
use Rattle.model.specs.Run.{Environment, answered, data_lines_of, effect, load, loaded, no_objects, object_at, on_objects, resized, seen, step, with_object, without_object}
use Rattle.model.proofs.StepLaws.{accepted-there, accepted-untaken}

-- whether a name stands in a list
abbrev pub is_among : List Name → Name → Bool
is_among [] name = false
is_among (other ∷ names) name = bytes_eq other name || is_among names name

-- no name stands twice
abbrev pub are_apart : List Name → Bool
are_apart [] = true
are_apart (name ∷ names) = not (is_among names name) && are_apart names

-- the names that stand for an object are as many as are counted
pub record IsCounted (env : Environment Name) : Type 0 where
  pub names : List Name
  pub apart : are_apart names ≡ true
  pub those : (name : Name) → is_some (env.find_object name) ≡ is_among names name
  pub counted : length names ≡ env.count

pub nothing-counted : IsCounted no_objects
nothing-counted = record { names = []; apart = refl; those = λ name. refl; counted = refl }

-- ---- one name more

-- a name that wasn't there stands for an object now
pub grown-counted : (env : Environment Name) (name : Name) (o : Object) → is_some (env.find_object name) ≡ false
    → IsCounted env
    → IsCounted (with_object bytes_eq env name o (env.count + 1))
grown-counted env name o new c =
    let free : is_among c.names name ≡ false = sym (c.those name) ∙ new in
    record {
      names = name ∷ c.names;
      apart = rw free c.apart;
      those = λ other. elim (cases_Bool (bytes_eq name other)) [
        | inl same ↦ rw same refl
        | inr apart ↦ rw apart (c.those other)
      ];
      counted = omega (arith, c.counted);
    }

-- ---- as many names

-- a name that was there stands for another object
pub changed-counted : (env : Environment Name) (name : Name) (o : Object) → is_some (env.find_object name) ≡ true
    → IsCounted env
    → IsCounted (with_object bytes_eq env name o env.count)
changed-counted env name o there c = record {
  names = c.names;
  apart = c.apart;
  those = λ other. elim (cases_Bool (bytes_eq name other)) [
    | inl same ↦
        let is : name ≡ other = (bytes_eq-Decides name other).0 same in
        let among : is_among c.names other ≡ true = rw is at (sym (c.those name) ∙ there) in
        rw (same, among) refl
    | inr apart ↦ rw apart (c.those other)
  ];
  counted = c.counted;
}

-- ---- one name less

not_true : (b : Bool) → not b ≡ true → b ≡ false
not_true true h = absurd (cc)
not_true false h = refl

same_ends : (b : Bool) → cond b false false ≡ false
same_ends true = refl
same_ends false = refl

-- a list without a name
abbrev without : Name → List Name → List Name
without name [] = []
without name (other ∷ names) = cond (bytes_eq other name) (without name names) (other ∷ without name names)

without_absent : (name : Name) (names : List Name) → is_among names name ≡ false → without name names ≡ names
without_absent name [] absent = refl
without_absent name (other ∷ names) absent = elim (cases_Bool (bytes_eq other name)) [
  | inl same ↦ absurd (cc)
  | inr apart ↦ rw apart (ap (λ ns. other ∷ ns) (without_absent name names (rw apart at absent)))
]

among_without : (name : Name) (names : List Name) (other : Name)
    → is_among (without name names) other ≡ cond (bytes_eq name other) false (is_among names other)
among_without name [] other = elim (cases_Bool (bytes_eq name other)) [
  | inl same ↦ rw same refl
  | inr apart ↦ rw apart refl
]
among_without name (first ∷ names) other = elim (cases_Bool (bytes_eq first name)) [
  | inl same ↦
      let is : first ≡ name = (bytes_eq-Decides first name).0 same in
      rw same (among_without name names other ∙ elim (cases_Bool (bytes_eq name other)) [
        | inl gone ↦ rw gone refl
        | inr kept ↦ rw (kept, is) (rw kept refl)
      ])
  | inr apart ↦ rw apart (elim (cases_Bool (bytes_eq name other)) [
    | inl gone ↦
        let is : name ≡ other = (bytes_eq-Decides name other).0 gone in
        let not_first : bytes_eq first other ≡ false = rw is at apart in
        let not_later : is_among (without name names) other ≡ false = among_without name names other ∙ rw gone refl in
        rw (gone, not_first) not_later
    | inr kept ↦ rw kept (ap (λ later. bytes_eq first other || later) (among_without name names other ∙ rw kept refl))
  ])
]

apart_without : (name : Name) (names : List Name) → are_apart names ≡ true → are_apart (without name names) ≡ true
apart_without name [] apart = refl
apart_without name (first ∷ names) apart =
    let parts = and_parts (not (is_among names first)) (are_apart names) apart in
    elim (cases_Bool (bytes_eq first name)) [
      | inl same ↦ rw same (apart_without name names parts.1)
      | inr other ↦
          let absent : is_among names first ≡ false = not_true (is_among names first) parts.0 in
          let still : is_among (without name names) first ≡ false = among_without name names first ∙ rw absent (same_ends (bytes_eq name first)) in
          rw (other, still) (apart_without name names parts.1)
    ]

one_less : (name : Name) (names : List Name) → are_apart names ≡ true → is_among names name ≡ true
    → length names ≡ length (without name names) + 1
one_less name [] apart among = absurd (cc)
one_less name (first ∷ names) apart among =
    let parts = and_parts (not (is_among names first)) (are_apart names) apart in
    elim (cases_Bool (bytes_eq first name)) [
      | inl same ↦
          let is : first ≡ name = (bytes_eq-Decides first name).0 same in
          let absent : is_among names name ≡ false = rw is at (not_true (is_among names first) parts.0) in
          rw (same, without_absent name names absent) (omega arith)
      | inr other ↦ rw other (omega (arith, one_less name names parts.1 (rw other at among)))
    ]

-- a name that was there stands for nothing now
pub shrunk-counted : (env : Environment Name) (name : Name) → is_some (env.find_object name) ≡ true → IsCounted env
    → IsCounted (without_object bytes_eq env name)
shrunk-counted env name there c = record {
  names = without name c.names;
  apart = apart_without name c.names c.apart;
  those = λ other. elim (cases_Bool (bytes_eq name other)) [
    | inl same ↦ rw same (sym (among_without name c.names other ∙ rw same refl))
    | inr apart ↦ rw apart (c.those other ∙ sym (among_without name c.names other ∙ rw apart refl))
  ];
  counted =
      let less = one_less name c.names c.apart (sym (c.those name) ∙ there) in
      omega (arith, less, c.counted);
}

-- ---- steps

there_mapped : {A B : Type 0} (f : A → B) (o : Option A) → is_none (option_map f o) ≡ false → is_some o ≡ true
there_mapped f None h = absurd (cc)
there_mapped f (Some a) h = refl

there_bound : {A B : Type 0} (f : A → Option B) (o : Option A) → is_none (option_and_then f o) ≡ false → is_none o ≡ false
there_bound f None h = absurd (cc)
there_bound f (Some a) h = refl

-- the object of an accepted act is there
there_on : (env : Environment Name) (name : Name) (act : Act) → fault_of env.count (seen env (On name act)) ≡ None
    → is_some (env.find_object name) ≡ true
there_on env name act accepted =
    go (env.find_object name) (accepted-there env (On name act) accepted) where
      go : (o : Option Object) → is_none (found {N = Bool} (On (option_map signature_of o) act)) ≡ false → is_some o ≡ true
      go None h = absurd (cc)
      go (Some o) h = refl

-- ..and so is the output of an accepted operation
there_out : (env : Environment Name) (out : Out Name) (op : Operation Name)
    → fault_of env.count (seen env (Operate out op)) ≡ None → is_some (env.find_object out.c) ≡ true
there_out env out op accepted =
    let known = renamed_out (option_map signature_of) (renamed_out env.find_object out) in
    let out_there = there_bound _ (found_out known) (accepted-there env (Operate out op) accepted) in
    there_mapped signature_of (env.find_object out.c) (there_bound _ known.c out_there)

-- an accepted call leaves as many objects as are counted
pub effect-counted : (env : Environment Name) (call : Call Name Name) → fault_of env.count (seen env call) ≡ None
    → IsCounted env
    → IsCounted (effect bytes_eq env call)
unfolding effect
effect-counted env (Create name domain shape) accepted c =
    grown-counted env name (empty_object domain shape) (accepted-untaken env (Create name domain shape) accepted) c
effect-counted env (Dup name object) accepted c =
    grown-counted env name (object_at env object) (accepted-untaken env (Dup name object) accepted) c
effect-counted env (On name Free) accepted c = shrunk-counted env name (there_on env name Free accepted) c
effect-counted env (On name (Resize shape)) accepted c =
    changed-counted env name (resized (object_at env name) shape) (there_on env name (Resize shape) accepted) c
effect-counted env (On name Clear) accepted c = changed-counted env name _ (there_on env name Clear accepted) c
effect-counted env (On name (Build dup tuples)) accepted c =
    changed-counted env name _ (there_on env name (Build dup tuples) accepted) c
effect-counted env (On name (Set place value)) accepted c =
    changed-counted env name _ (there_on env name (Set place value) accepted) c
effect-counted env (On name (Remove place)) accepted c =
    changed-counted env name _ (there_on env name (Remove place) accepted) c
effect-counted env (On name (Get place)) accepted c = c
effect-counted env (On name Nvals) accepted c = c
effect-counted env (On name (Wait mode)) accepted c = c
effect-counted env (On name Print) accepted c = c
effect-counted env (On name (Reduce monoid)) accepted c = c
effect-counted env (Operate out op) accepted c = changed-counted env out.c _ (there_out env out op accepted) c

-- what is left is what was there where there is a fault, and what the call leaves where there is none
left-counted : (number : ℕ) (env : Environment Name) (fault : Option Status) (lines : List (List ℕ))
    (new : Environment Name) → IsCounted env → (fault ≡ None → IsCounted new)
    → IsCounted (answered number env fault lines new).1
left-counted number env None lines new old news = news refl
left-counted number env (Some s) lines new old news = old

-- every step keeps that the names are counted
pub step-counted : (number : ℕ) (env : Environment Name) (call : Call Name Name) → IsCounted env
    → IsCounted (step number env call).1
unfolding step
step-counted number env call c =
    left-counted number env (fault_of env.count (seen env call)) (data_lines_of (on_objects env call)) (effect bytes_eq env call) c (λ accepted. effect-counted env call accepted c)

-- ---- loads

load_untaken : (count : ℕ) (taken : Bool) (file : File) → load_fault count taken file ≡ None → taken ≡ false
unfolding load_fault
load_untaken count true file h = absurd (cc)
load_untaken count false file h = refl

loaded-counted : (env : Environment Name) (name : Name) (domain : Domain) (file : File)
    → is_some (env.find_object name) ≡ false → IsCounted env
    → IsCounted (loaded bytes_eq env name domain file)
unfolding loaded
loaded-counted env name domain None new c = c
loaded-counted env name domain (Some (Ok m)) new c = grown-counted env name (object_read domain m) new c
loaded-counted env name domain (Some (Err fault)) new c = c

-- ..and every load
pub load-counted : (number : ℕ) (env : Environment Name) (name : Name) (domain : Domain) (file : File) → IsCounted env
    → IsCounted (load number env name domain file).1
unfolding load
load-counted number env name domain file c =
    let taken = is_some (env.find_object name) in
    left-counted number env (load_fault env.count taken file) [] (loaded bytes_eq env name domain file) c
    (λ accepted. loaded-counted env name domain file (load_untaken env.count taken file accepted) c)
