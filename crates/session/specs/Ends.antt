-- How calls end whose work may be put off and may fail.
use Rattle.std.specs.Prelude.{ℕ, ◌≡◌, ◌⊎◌, Bool, None, Option, Some, Result, Ok, Err}
use Rattle.std.specs.Option.{option_map}
use Rattle.model.specs.declared.call.Call.{Call}
use Rattle.model.specs.declared.status.Status.{Status}
use Rattle.model.specs.declared.status.Status.TheVariants as status
use Rattle.model.specs.Fault.{early_fault, fault_by_values}
use Rattle.model.specs.Marks.{HasFailed, IsUntold, Settles, State, asked_by, left_by, looked_at}
use Rattle.model.specs.Object.{Object, signature_of}
use Rattle.model.specs.Renamed.{renamed}

-- a call on objects of any names, where there are so many objects: what its names stand for, and what is there before
-- and after it; `same` tells whether two names are the same
pub record Setting (K : Type 0) : Type 0 where
  pub same : K → K → Bool
  pub count : ℕ
  pub call : Call K K
  pub seen : Call (Option Object) Bool
  pub before : State K
  pub after : State K

-- the fault that comes before any that tells of an object's value
abbrev pub fault_before : ℕ → Call (Option Object) Bool → Option Status
fault_before count seen = early_fault count (renamed (option_map signature_of) (λ taken. taken) seen)

abbrev pub early_of : {K : Type 0} → Setting K → Option Status
early_of s = fault_before s.count s.seen

-- the fault that depends on values
abbrev pub late_of : {K : Type 0} → Setting K → Option Status
late_of s = fault_by_values s.seen

-- it has no fault, asks for the value of no object that was told to have failed, and leaves what it leaves; values
-- may have come to be there
pub record IsAccepted {K : Type 0} (s : Setting K) : Type 0 where
  pub early : early_of s ≡ None
  pub late : late_of s ≡ None
  pub untold : IsUntold s.before (asked_by s.call)
  pub left : Settles (left_by s.same s.before s.call) s.after

-- it has a fault, and nothing is changed; one that depends on values was looked for at a value that is there
abbrev pub IsFaulty : {K : Type 0} → Setting K → Status → Type 0
IsFaulty s fault = ((early_of s ≡ Some fault) × (s.after ≡ s.before))
    ⊎ ((early_of s ≡ None) × (late_of s ≡ Some fault) × IsUntold s.before (asked_by s.call)
    × (s.after ≡ looked_at s.same s.before s.call))

-- it is told that the object for whose value it asks failed
abbrev pub IsTold : {K : Type 0} → Setting K → Status → Type 0
IsTold s answer = (answer ≡ status.InvalidObject) × (early_of s ≡ None)
    × HasFailed s.same s.before (asked_by s.call) s.after

-- it is refused memory, and nothing is changed but that values may have come to be there
abbrev pub IsRefused : {K : Type 0} → State K → State K → Status → Type 0
IsRefused before after answer = (answer ≡ status.OutOfMemory) × Settles before after

abbrev pub Ends : {K X : Type 0} → Setting K → Result X Status → Type 0
Ends s (Ok x) = IsAccepted s
Ends s (Err answer) = IsFaulty s answer ⊎ (IsTold s answer ⊎ IsRefused s.before s.after answer)
