use Rattle.std.proofs.Common.{◌≤◌, ◌-◌, length, take}
use Rattle.std.specs.Io.KnownBytes.{Appends}
use Rattle.adr_wire.specs.Calls.{NoneFails}
use Rattle.adr_wire.proofs.output.write_all.Given as goal

abbrev pub invariant-loop-at : goal.invariant-loop-at
invariant-loop-at g l =
    let sink = g.W.Sink in
    record {
      inside : l.at ≤ length l.bytes;
      written : Appends (sink.written l.fn.sink) (sink.written l.sink) (take l.at l.bytes);
      failed : NoneFails (sink.calls l.fn.sink) (sink.calls l.sink);
    }

abbrev pub decreases-loop-at : goal.decreases-loop-at
decreases-loop-at g l = length l.bytes - l.at
