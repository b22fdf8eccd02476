-- The roles of an operation's objects.
use Rattle.std.specs.Prelude.{if◌then◌else◌, Option, Some, None}
use Rattle.std.specs.Borrow.{Bor}
use Rattle.std.specs.Option.{option_map}
use Rattle.calls.specs.declared.role.Role.{Role}
use Rattle.calls.specs.declared.role.Role.TheVariants.{Old, Mask, First, Second}
use Rattle.calls.specs.declared.role.Roles.{Roles}
use Rattle.model.specs.declared.call.Operation.{Operation}
use Rattle.model.specs.declared.call.Operation.TheVariants.{Fill, OfOne, OfTwo}
use Rattle.model.specs.declared.call.Out.{Out}
use Rattle.model.specs.WriteBack.{reads_old}

-- what has a role, if anything has it
abbrev pub role_of : {T : Type 0} → Roles T → Role → Option T
role_of roles Old = roles.old
role_of roles Mask = roles.mask
role_of roles First = roles.first
role_of roles Second = roles.second

abbrev pub no_roles : {T : Type 0} → Roles T
no_roles = record { old = None; mask = None; first = None; second = None }

-- what roles have that are lent
abbrev pub lent_roles : {T : Type 0} → Roles (Bor T) → Roles T
lent_roles roles = record {
  old = option_map (λ t. t.now) roles.old;
  mask = option_map (λ t. t.now) roles.mask;
  first = option_map (λ t. t.now) roles.first;
  second = option_map (λ t. t.now) roles.second;
}

-- the inputs of an operation
abbrev pub first_of : {K : Type 0} → Operation K → Option K
first_of (Fill value region) = None
first_of (OfOne computes a) = Some a
first_of (OfTwo computes a b) = Some a

abbrev pub second_of : {K : Type 0} → Operation K → Option K
second_of (OfTwo computes a b) = Some b
second_of _ = None

-- the objects of an operation that are read, by their roles: the output is one where what it has is read
abbrev pub roles_of : {K : Type 0} → Out K → Operation K → Roles K
roles_of out operation = record {
  old = if reads_old out operation then Some out.c else None;
  mask = out.mask;
  first = first_of operation;
  second = second_of operation;
}
