use Rattle.std.proofs.Common.{◌≡◌, ◌+◌, take, min, true}
use Rattle.std.specs.List.{list_all}
use Rattle.std.specs.Char.{is_ascii_digit}
use Rattle.std.specs.Str.Parse.{digits_value}
use Rattle.adr_wire.proofs.extent.number_in.Given as goal

abbrev pub invariant-loop-digit : goal.invariant-loop-digit
invariant-loop-digit l = record {
  value : l.value ≡ min (digits_value 10 (take l.digit-index l.text)) (l.limit + 1);
  digits : list_all is_ascii_digit (take l.digit-index l.text) ≡ true;
}
