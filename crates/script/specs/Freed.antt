-- Objects that go again.
use Rattle.calls.specs.declared.obj.Obj.{Obj}
use Rattle.model.specs.Marks.{Settles, State, Unmarked, with_mark}
use Rattle.model.specs.Run.{without_object}
use Rattle.session.specs.Performed.{same_object}

-- an object was freed
abbrev pub IsFreed : State Obj → Obj → State Obj → Type 0
IsFreed before object after =
    Settles (with_mark same_object before (without_object same_object before.environment object) object Unmarked) after
