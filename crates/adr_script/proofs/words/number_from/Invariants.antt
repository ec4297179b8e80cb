use Rattle.std.proofs.Common.{◌≡◌, ◌<◌, ◌^◌, drop}
use Rattle.std.specs.List.{list_all}
use Rattle.adr_state.specs.Digits.{is_digit, read_on}
use Rattle.adr_script.proofs.words.number_from.Given as goal

-- the digits so far, and those that are left behind their number
abbrev pub invariant-loop-byte : goal.invariant-loop-byte
invariant-loop-byte l = record {
  digits : list_all is_digit (drop l.byte-index l.digits) ≡ list_all is_digit l.digits;
  so_far : read_on l.number (drop l.byte-index l.digits) ≡ read_on 0 l.digits;
  small : l.number < 10 ^ l.byte-index;
}
