use Rattle.std.proofs.Common.{◌≡◌, ◌+◌, ◌≤◌, drop}
use Rattle.adr_event_text.specs.Walks.{depth_of, bytes_on}
use Rattle.adr_event_text.specs.declared.walk.Place.TheVariants.{Outside}
use Rattle.adr_event_text.proofs.walk.member_len.Given as goal

-- the bytes so far, and those that are left behind them
abbrev pub invariant-loop-byte : goal.invariant-loop-byte
invariant-loop-byte l = record {
  counted : l.count ≡ l.byte-index;
  deep : depth_of l.place ≤ l.byte-index;
  so_far : l.count + bytes_on l.place (drop l.byte-index l.text) ≡ bytes_on (Outside 0) l.text;
}
