use Rattle.std.proofs.Common.{◌≡◌, ◌<◌, ◌≤◌, ℕ, List, length, take, false, IsFalse}
use Rattle.adr_wire.specs.Pieces.{Holds, IsCounted}
use Rattle.adr_wire.proofs.front.await_front.Given as goal

abbrev pub invariant-front : goal.invariant-front
invariant-front g l =
    let source = g.S.Source in
    record {
      whole : (bytes : List ℕ) → Holds (source.left l.fn.source) l.fn.ahead.bytes bytes → Holds (source.left l.source) l.ahead.bytes bytes;
      ended : IsFalse l.has_come → (bytes : List ℕ) → Holds (source.left l.fn.source) l.fn.ahead.bytes bytes → bytes ≡ l.ahead.bytes;
      seen : 0 < l.seen → g.F.Front.none (take l.seen l.ahead.bytes);
      limit : length l.ahead.bytes ≤ 16384;
      counted : IsCounted (source.calls l.fn.source) l.fn.ahead.reads_left (source.calls l.source) l.ahead.reads_left false;
    }

abbrev pub decreases-front : goal.decreases-front
decreases-front g l = l.ahead.reads_left
