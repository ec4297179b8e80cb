use Rattle.std.proofs.Common.{ℕ, ◌≤◌, List, length, max, false}
use Rattle.adr_wire.specs.Pieces.{Holds, IsCounted}
use Rattle.adr_wire.proofs.length.read_length.Given as goal

abbrev pub invariant-length : goal.invariant-length
invariant-length g l =
    let source = g.S.Source in
    record {
      bound : length l.ahead.bytes ≤ max (length l.fn.ahead.bytes) l.n;
      whole : (bytes : List ℕ) → Holds (source.left l.fn.source) l.fn.ahead.bytes bytes → Holds (source.left l.source) l.ahead.bytes bytes;
      counted : IsCounted (source.calls l.fn.source) l.fn.ahead.reads_left (source.calls l.source) l.ahead.reads_left false;
    }

abbrev pub decreases-length : goal.decreases-length
decreases-length g l = l.ahead.reads_left
