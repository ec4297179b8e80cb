use Rattle.std.proofs.Common.{◌≡◌, ◌≤◌, ◌-◌, ◌++◌, ℕ, List, length, false, Result}
use Rattle.adr_wire.specs.Pieces.{Holds, IsCounted}
use Rattle.adr_wire.specs.Chunks.{IsChunks, with_front}
use Rattle.adr_wire.specs.declared.end.MessageFault.{MessageFault}
use Rattle.adr_wire.proofs.Unfinished.{Remains}
use Rattle.adr_wire.proofs.chunks.read_chunks.Given as goal

-- What remains completes the content so far to the whole, and remains of a whole body.
abbrev pub invariant-chunks : goal.invariant-chunks
invariant-chunks g l =
    let source = g.S.Source in
    record {
      whole : (bytes : List ℕ) → Holds (source.left l.fn.source) l.fn.ahead.bytes bytes
          → (now : List ℕ) × Holds (source.left l.source) l.ahead.bytes now
          × ((read : Result (List ℕ) MessageFault) → IsChunks l.limit (length l.content.items) now read → IsChunks l.limit 0 bytes (with_front l.content.items read));
      remains : (bytes : List ℕ) → Holds (source.left l.fn.source) l.fn.ahead.bytes bytes
          → (front : List ℕ) × (now : List ℕ) × (bytes ≡ front ++ now) × Holds (source.left l.source) l.ahead.bytes now × Remains l.limit (length l.content.items) front;
      small : length l.content.items ≤ l.limit;
      limit : length l.ahead.bytes ≤ 16384;
      counted : IsCounted (source.calls l.fn.source) l.fn.ahead.reads_left (source.calls l.source) l.ahead.reads_left false;
    }

abbrev pub decreases-chunks : goal.decreases-chunks
decreases-chunks g l = l.limit - length l.content.items
