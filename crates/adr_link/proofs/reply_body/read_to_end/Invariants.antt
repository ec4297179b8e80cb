use Rattle.std.proofs.Common.{◌≤◌, ℕ, List, length, false}
use Rattle.adr_wire.specs.Pieces.{Holds, IsCounted}
use Rattle.adr_link.proofs.reply_body.read_to_end.Given as goal

abbrev pub invariant-end : goal.invariant-end
invariant-end g l =
    let source = g.S.Source in
    record {
      whole : (bytes : List ℕ) → Holds (source.left l.fn.source) l.fn.ahead.bytes bytes → Holds (source.left l.source) l.ahead.bytes bytes;
      limit : length l.ahead.bytes ≤ 8388609;
      counted : IsCounted (source.calls l.fn.source) l.fn.ahead.reads_left (source.calls l.source) l.ahead.reads_left false;
    }

abbrev pub decreases-end : goal.decreases-end
decreases-end g l = l.ahead.reads_left
