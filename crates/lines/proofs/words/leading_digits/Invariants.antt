use Rattle.std.proofs.Common.{◌≡◌, ◌<◌, ◌≤◌, ◌^◌, true, take}
use Rattle.std.specs.List.{list_all}
use Rattle.model.specs.Grammar.{digits_value, is_digit}
use Rattle.lines.proofs.words.leading_digits.Given as goal

-- the value is that of the digits so far
abbrev pub invariant-loop-count : goal.invariant-loop-count
invariant-loop-count l = record {
  digits : list_all is_digit (take l.count l.word) ≡ true;
  exact : l.value ≡ digits_value (take l.count l.word);
  few : l.count ≤ 19;
  small : l.value < 10 ^ l.count;
}
