-- All bytes so far are digits, and the value is what they write.
use Rattle.std.proofs.Common.{length, ◌-◌, ◌≡◌, ◌%◌, ◌≤◌, ◌^◌, take, true}
use Rattle.std.specs.List.{list_all}
use Rattle.model.specs.Grammar.{digits_value, is_digit}
use Rattle.mmio.proofs.digits.digits_in_front.Given as goal

abbrev pub invariant-loop-count : goal.invariant-loop-count
invariant-loop-count l = record {
  within : l.count ≤ length l.text;
  digits : list_all is_digit (take l.count l.text) ≡ true;
  exact : l.value ≡ digits_value (take l.count l.text) % 2 ^ 64;
}

abbrev pub decreases-loop-count : goal.decreases-loop-count
decreases-loop-count l = length l.text - l.count
