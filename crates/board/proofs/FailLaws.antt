-- Steps of slots that fail.
use Rattle.std.proofs.Common.{get_or, inl, inr, ◌≡◌, ◌∙◌, ℕ, suc, ◌+◌, ◌<◌, ◌≤◌, ◌&&◌, ◌||◌, Bool, true, false, eqb, ltb, List, length, map, not, Option, Some, None, slice_get, slice_set, refl, sym, ap, arith, subst}
use Rattle.std.specs.Prelude.{slice_index}
use Rattle.std.specs.Option.{option_map, option_map_or}
use Rattle.std.proofs.lemmas.Bool.{and_parts, cases_eq, cases_lt, eq-eqb, ne_eqb}
use Rattle.std.proofs.lemmas.Bool.Decides.{nat_tests}
use Rattle.std.proofs.lemmas.List.{map-set}
use Rattle.std.proofs.lemmas.Option.{slice_get-get_or, slice_get-map, slice_get_within}
use Rattle.board.specs.Falling.{IsFalling}
use Rattle.stages.specs.Flows.{Flows, FlowsBelow}
use Rattle.board.specs.Falls.{KeepsReady, fallen, fallen_below, falls}
use Rattle.stages.specs.Places.{each, places_of}
use Rattle.stages.specs.Progress.{Progress, Untaken, Running, Joining, Made, Moved, Failed, allows, is_failed, is_joining, is_made, is_running, is_unfinished, is_untaken}
use Rattle.board.specs.Sound.{IsKept, IsSound}
use Rattle.stages.specs.Stages.{is_among, progress_of, released_if}
use Rattle.stages.specs.Tasks.{Task}
use Rattle.stages.specs.Views.{is_fed, is_ready, offered, reads_in}
use Rattle.stages.specs.declared.stage.Stage.{Stage}
use Rattle.stages.specs.declared.stage.Stage.TheVariants as stage
use Rattle.board.proofs.BoardLaws.{among_none}
use Rattle.board.proofs.FallLaws.{fallen_stays, fallen_unfolds, falls_parts, falls_unready, flows_all, flows_fall, flows_skip, flows_weaken, keeps_fall, offered_keeps, unmade_now, waked_keeps}
use Rattle.stages.proofs.FlowLaws.{flows_set}
use Rattle.stages.proofs.ListLaws.{get_set_same, get_there}
use Rattle.stages.proofs.NumberLaws.{and_none, and_true, numbers_same}
use Rattle.stages.proofs.PlaceLaws.{each-from}
use Rattle.stages.proofs.ReadyLaws.{offered_is, ready_not, ready_other}
use Rattle.stages.proofs.WakeLaws.{waked_set}
use Rattle.stages.specs.Numbers.{numbers}
use Rattle.stages.proofs.ReadLaws.{reads_above, reads_less}
use Rattle.board.proofs.SoundLaws.{kept_released, kept_set, progress_released}

pub some_unfinished : (o : Option Progress) → option_map_or is_unfinished o false ≡ true → (p : Progress) × (o ≡ Some p) × (is_unfinished p ≡ true)
some_unfinished None h = absurd cc
some_unfinished (Some p) h = (p, refl, h)

-- nothing is above nothing
pub none_left : (n : ℕ) → not (ltb 0 n) ≡ true → n ≡ 0
none_left n h = elim (cases_lt 0 n) [
  | inl some ↦ absurd (let e : ltb 0 n ≡ true = grind (arith, nat_tests) in cc (e, h))
  | inr none ↦ omega (arith, none)
]

module _ (n : ℕ) (ts : List Task) (stages : List Stage) (holds reads : List ℕ) (falling : IsFalling n ts stages holds reads)
    (un : option_map_or is_unfinished (slice_get (map progress_of stages) n) false ≡ true) where
  pub within : n < length ts
  within = let (p, at, u) = some_unfinished (slice_get (map progress_of stages) n) un in
      let l = slice_get_within (map progress_of stages) n p at in omega (arith, l, falling.flows.sized)

  pub places_read : (t : Task) → slice_get ts n ≡ Some t → (j : ℕ) → places_of t.inputs j ≤ slice_index reads j
  places_read t is j = let (p, at, u) = some_unfinished (slice_get (map progress_of stages) n) un in
      let a = reads_above ts (map progress_of stages) n j t p is at u in let c = falling.counted.counted j in omega (arith, a, c)

  pub falling_end : (t : Task) (one next : List Stage) (reads' : List ℕ) → slice_get ts n ≡ Some t
      → one ≡ slice_set stages n stage.Failed → length reads' ≡ length reads
      → ((j : ℕ) → slice_index reads' j + places_of t.inputs j ≡ slice_index reads j)
      → ((j : ℕ) → slice_get next j ≡ option_map (released_if (is_among t.inputs j) (slice_index holds j + slice_index reads' j)) (slice_get one j))
      → IsFalling (n + 1) ts next holds reads' × (map progress_of next ≡ slice_set (map progress_of stages) n Failed)
  falling_end t one next reads' is first sized counts released =
      let (p, at, u) = some_unfinished (slice_get (map progress_of stages) n) un in
      let set_is : map progress_of one ≡ slice_set (map progress_of stages) n Failed = ap (map progress_of) first ∙ map-set progress_of stages n stage.Failed in
      let next_is : map progress_of next ≡ slice_set (map progress_of stages) n Failed = progress_released one next (λ j. is_among t.inputs j) (λ j. slice_index holds j + slice_index reads' j) released ∙ set_is in
      let more : suc n ≡ n + 1 = omega arith in (
        record {
          flows = subst (λ m. FlowsBelow m ts (map progress_of next)) more (subst (λ qs. FlowsBelow (suc n) ts qs) (sym next_is) (flows_fall n ts (map progress_of stages) t p falling.flows is at u));
          counted = record {
            holds_sized = falling.counted.holds_sized;
            reads_sized = sized ∙ falling.counted.reads_sized;
            counted = λ j. let less = reads_less ts (map progress_of stages) n j t p Failed is at u refl in let a = falling.counted.counted j in let b = counts j in
                let e : reads_in ts (map progress_of next) j ≡ reads_in ts (slice_set (map progress_of stages) n Failed) j = ap (λ qs. reads_in ts qs j) next_is in omega (arith, less, a, b, e);
          };
          kept = kept_released ts one next holds reads holds reads' (λ j. is_among t.inputs j)
              (subst (λ l. IsKept ts l holds reads) (sym first) (kept_set ts stages holds reads n stage.Failed falling.kept
              (record { recipe = λ r e. absurd cc; right = λ s e. absurd cc; used = λ e. absurd cc; gone = λ e. absurd cc; object = λ e. absurd cc })))
              released
              (λ j. let b = counts j in omega (arith, b))
              (λ j look. let b = counts j in let z = among_none t.inputs j look in omega (arith, b, z));
        },
        next_is,
      )

-- a slot that stays as it is
pub falling_skip : (n : ℕ) (ts : List Task) (stages : List Stage) (holds reads : List ℕ) → IsFalling n ts stages holds reads → n < length ts
    → falls ts (map progress_of stages) n ≡ false → IsFalling (n + 1) ts stages holds reads
falling_skip n ts stages holds reads falling low stays =
    let (t, is) = get_there ts n low in
    let (p, at) = get_there (map progress_of stages) n (omega (arith, low, falling.flows.sized)) in
    let more : suc n ≡ n + 1 = omega arith in
    record {
      flows = subst (λ m. FlowsBelow m ts (map progress_of stages)) more (flows_skip n ts (map progress_of stages) t p falling.flows is at (sym (falls_parts ts (map progress_of stages) n t p is at) ∙ stays));
      counted = falling.counted;
      kept = falling.kept;
    }

pub falls_unfinished : (ts : List Task) (ps : List Progress) (n : ℕ) → falls ts ps n ≡ true → option_map_or is_unfinished (slice_get ps n) false ≡ true
falls_unfinished ts ps n h = (and_parts (option_map_or is_unfinished (slice_get ps n) false) _ h).0

pub falls_keeps : (ts : List Task) (ps : List Progress) (n : ℕ) → n < length ts → falls ts ps n ≡ true → KeepsReady ts ps (slice_set ps n Failed)
falls_keeps ts ps n low h =
    let (t, is) = get_there ts n low in
    let parts = and_parts (option_map_or is_unfinished (slice_get ps n) false) _ h in
    let (p, at, u) = some_unfinished (slice_get ps n) parts.0 in
    keeps_fall ts ps n p at u (falls_unready ts ps n t is (sym (ap (λ o. option_map_or (λ (t : Task). not (each (λ i. not (is_failed (slice_get ps i))) t.inputs)) o false) is) ∙ parts.1))

pub slot_or : {A B : Type 0} (f : A → B) (xs : List A) (i : ℕ) (d : A) → i < length xs → slice_get (map f xs) i ≡ Some (f (get_or xs i d))
slot_or f xs i d low = slice_get-map f xs i ∙ ap (option_map f) (slice_get-get_or xs i d low)

pub may_unfinished : (ts : List Task) (ps : List Progress) (k : ℕ) → (is_ready ts ps k || (is_running (slice_get ps k) || is_joining (slice_get ps k))) ≡ true
    → option_map_or is_unfinished (slice_get ps k) false ≡ true
may_unfinished ts ps k h = go (slice_get ps k) (is_fed ts ps k) h
  where
    go : (o : Option Progress) (fed : Bool) → ((is_untaken o && fed) || (is_running o || is_joining o)) ≡ true → option_map_or is_unfinished o false ≡ true
    go None fed h = absurd cc
    go (Some Untaken) fed h = refl
    go (Some Running) fed h = refl
    go (Some Joining) fed h = refl
    go (Some Made) fed h = absurd cc
    go (Some Moved) fed h = absurd cc
    go (Some Failed) fed h = absurd cc

module _ (ts : List Task) (stages : List Stage) (holds reads : List ℕ) (readers : List (List ℕ)) (ready : List ℕ) (room : ℕ)
    (sound : IsSound ts stages holds reads readers ready room) (k : ℕ)
    (un : option_map_or is_unfinished (slice_get (map progress_of stages) k) false ≡ true) where
  pub falling_from : (ts' : List Task) (holds' : List ℕ) → ts' ≡ ts → holds' ≡ holds → IsFalling k ts' stages holds' reads
  falling_from ts' holds' a b =
      subst (λ (x : List Task). IsFalling k x stages holds' reads) (sym a) (subst (λ (x : List ℕ). IsFalling k ts stages x reads) (sym b)
      (record { flows = flows_weaken k ts (map progress_of stages) sound.flows; counted = sound.counted; kept = sound.kept }))

  pub low_from : k < length ts
  low_from = within k ts stages holds reads (falling_from ts holds refl refl) un

  pub ready_without : (q : Progress) → is_untaken (Some q) ≡ false → is_made (Some q) ≡ false
      → numbers (λ j. is_ready ts (map progress_of stages) j && not (eqb j k)) (length ts) ≡ offered ts (slice_set (map progress_of stages) k q)
  ready_without q taken unmade = let (p, at, u) = some_unfinished (slice_get (map progress_of stages) k) un in
      numbers_same (λ j. is_ready ts (map progress_of stages) j && not (eqb j k)) (is_ready ts (slice_set (map progress_of stages) k q)) (length ts)
      (λ j low. elim (cases_eq j k) [
        | inl e ↦ ap (λ b. is_ready ts (map progress_of stages) j && not b) (eq-eqb j k e) ∙ (and_none (is_ready ts (map progress_of stages) j)
            ∙ sym (ap (is_ready ts (slice_set (map progress_of stages) k q)) e ∙ ready_not ts (slice_set (map progress_of stages) k q) k (ap is_untaken (get_set_same (map progress_of stages) k q p at) ∙ taken)))
        | inr far ↦ ap (λ b. is_ready ts (map progress_of stages) j && not b) (ne_eqb j k far) ∙ (and_true (is_ready ts (map progress_of stages) j)
            ∙ sym (ready_other ts (map progress_of stages) k j p q at (unmade ∙ unmade_now p u) far))
      ])
      ∙ offered_is ts (slice_set (map progress_of stages) k q)

  -- where no slot that is to come reads it, no other fails with it
  pub falling_alone : (n : ℕ) (next : List Stage) (reads' : List ℕ) (ts' : List Task) (holds' : List ℕ) → ts' ≡ ts
      → slice_index reads k ≡ 0 → map progress_of next ≡ slice_set (map progress_of stages) k Failed
      → IsFalling n ts' next holds' reads' → IsFalling (length ts) ts' next holds' reads'
  falling_alone n next reads' ts' holds' a unread next_is falling =
      let (p, at, u) = some_unfinished (slice_get (map progress_of stages) k) un in
      let (t, is) = get_there ts k low_from in
      let flows : Flows ts (slice_set (map progress_of stages) k Failed) = flows_set ts (map progress_of stages) k t p Failed sound.flows is at
      (λ j w r there has names h. stays r j w there has names p u h)
      (each-from (λ i. allows Failed (slice_get (map progress_of stages) i)) t.inputs (λ role i takes. refl)) in
      record {
        flows = subst (λ (x : List Task). FlowsBelow (length ts) x (map progress_of next)) (sym a)
            (subst (λ (qs : List Progress). FlowsBelow (length ts) ts qs) (sym next_is) (flows_weaken (length ts) ts (slice_set (map progress_of stages) k Failed) flows));
        counted = falling.counted;
        kept = falling.kept;
      }
    where
      unread_by : (r : Progress) (j : ℕ) (w : Task) → slice_get ts j ≡ Some w → slice_get (map progress_of stages) j ≡ Some r → is_unfinished r ≡ true
          → 0 < places_of w.inputs k → ⊥
      unread_by r j w there has un names =
          let a = reads_above ts (map progress_of stages) j k w r there has un in
          let c = sound.counted.counted k in
          omega (arith, a, c, names, unread)

      stays : (r : Progress) (j : ℕ) (w : Task) → slice_get ts j ≡ Some w → slice_get (map progress_of stages) j ≡ Some r → 0 < places_of w.inputs k
          → (p : Progress) → is_unfinished p ≡ true → allows r (Some p) ≡ true → allows r (Some Failed) ≡ true
      stays Untaken j w there has names p u h = absurd (unread_by Untaken j w there has refl names)
      stays Running j w there has names p u h = absurd (unread_by Running j w there has refl names)
      stays Joining j w there has names p u h = absurd (unread_by Joining j w there has refl names)
      stays Made j w there has names p u h = absurd (let e = unmade_now p u in cc (e, h))
      stays Moved j w there has names p u h = absurd (let e = unmade_now p u in cc (e, h))
      stays Failed j w there has names p u h = refl

  pub sound_failed : (one next : List Stage) (reads' ready' : List ℕ) (room' n : ℕ) (ts' : List Task) (holds' : List ℕ) → ts' ≡ ts → holds' ≡ holds → n ≡ length ts
      → map progress_of one ≡ slice_set (map progress_of stages) k Failed
      → IsFalling n ts' next holds' reads' → KeepsReady ts' (map progress_of one) (map progress_of next)
      → ready' ≡ numbers (λ j. is_ready ts (map progress_of stages) j && not (eqb j k)) (length ts) → room ≤ room'
      → IsSound ts next holds reads' readers ready' room'
  sound_failed one next reads' ready' room' n ts' holds' a b size one_is falling keeps without more =
      let (p, at, u) = some_unfinished (slice_get (map progress_of stages) k) un in
      let f : IsFalling (length ts) ts next holds reads' = subst (λ (m : ℕ). IsFalling m ts next holds reads') size (subst (λ (x : List ℕ). IsFalling n ts next x reads') b (subst (λ (x : List Task). IsFalling n x next holds' reads') a falling)) in
      let kept : KeepsReady ts (slice_set (map progress_of stages) k Failed) (map progress_of next) = subst (λ (qs : List Progress). KeepsReady ts qs (map progress_of next)) one_is (subst (λ (x : List Task). KeepsReady x (map progress_of one) (map progress_of next)) a keeps) in
      record {
        flows = flows_all ts (map progress_of next) f.flows;
        fits = sound.fits;
        counted = f.counted;
        kept = f.kept;
        waked = waked_keeps ts (slice_set (map progress_of stages) k Failed) (map progress_of next) readers
            (waked_set ts (map progress_of stages) readers k p Failed sound.waked at refl (λ h. absurd (let e : false ≡ is_made (Some p) = unmade_now p u in cc (e, h)))) kept;
        offers = without ∙ (ready_without Failed refl refl ∙ sym (offered_keeps ts (slice_set (map progress_of stages) k Failed) (map progress_of next) kept));
        roomy = omega (arith, sound.roomy, more);
      }

  pub fallen_is : (one next : List Progress) (n : ℕ) (ts' : List Task) → ts' ≡ ts → n ≡ length ts → one ≡ slice_set (map progress_of stages) k Failed
      → ((ps : List Progress) → one ≡ fallen_below ts' (k + 1) ps → next ≡ fallen_below ts' n ps)
      → next ≡ fallen ts (slice_set (map progress_of stages) k Failed)
  fallen_is one next n ts' a size one_is spreads =
      let (p, at, u) = some_unfinished (slice_get (map progress_of stages) k) un in
      let (t, is) = get_there ts k low_from in
      let ps = slice_set (map progress_of stages) k Failed in
      let more : suc k ≡ k + 1 = omega arith in
      let start : one ≡ fallen_below ts' (k + 1) (slice_set (map progress_of stages) k Failed) =
      one_is ∙ (sym (fallen_stays ts (map progress_of stages) k t p sound.flows is at (suc k) (omega arith))
      ∙ (ap (λ (m : ℕ). fallen_below ts m (slice_set (map progress_of stages) k Failed)) more ∙ ap (λ (x : List Task). fallen_below x (k + 1) (slice_set (map progress_of stages) k Failed)) (sym a))) in
      spreads (slice_set (map progress_of stages) k Failed) start
      ∙ (ap (λ (x : List Task). fallen_below x n (slice_set (map progress_of stages) k Failed)) a ∙ (ap (λ (m : ℕ). fallen_below ts m (slice_set (map progress_of stages) k Failed)) size ∙ fallen_unfolds ts (slice_set (map progress_of stages) k Failed)))
