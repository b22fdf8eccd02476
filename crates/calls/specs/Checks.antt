-- What checks find.
use Rattle.std.specs.Prelude.{◌≡◌, Bool, false, None, Ok, Err, Option, Result, Some}
use Rattle.calls.specs.declared.obj.Obj.{Obj}
use Rattle.model.specs.declared.call.Call.{Call}
use Rattle.model.specs.declared.status.Status.{Status}
use Rattle.model.specs.Renamed.{renamed}

-- a call on what is known of its objects; the number of a new one is never taken
abbrev pub known_call : {X N : Type 0} → (Obj → Option X) → Call Obj N → Call (Option X) Bool
known_call known call = renamed known (λ name. false) call

-- a test ends by a fault, if there is one
abbrev pub Decides : {T : Type 0} → Option Status → Result T Status → Type 0
Decides fault (Ok x) = fault ≡ None
Decides fault (Err status) = fault ≡ Some status
