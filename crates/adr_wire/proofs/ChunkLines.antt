-- Chunk lines, from what the parser says of a part of the bytes.
use Rattle.std.proofs.Common.{◌≡◌, ℕ, ◌≤◌, List, ◌++◌, length, arith}
use Rattle.httparse.specs.Grammar.{print_chunk_line, HasNoChunkLine, NeverHasChunkLine}
use Rattle.adr_wire.specs.Chunks.{HasNoLine}
use Rattle.adr_wire.proofs.Fronts.{front_of}

pub no_line_never : (ahead more : List ℕ) → NeverHasChunkLine ahead → HasNoLine (ahead ++ more)
no_line_never ahead more never = λ l rest at. never more l rest at.reads

pub no_line_end : (bytes : List ℕ) → HasNoChunkLine bytes → HasNoLine bytes
no_line_end bytes none = λ l rest at. none l rest at.reads

pub no_line_full : (ahead more : List ℕ) → HasNoChunkLine ahead → length ahead ≡ 16384 → HasNoLine (ahead ++ more)
no_line_full ahead more none full = λ l rest at.
    let small : length (print_chunk_line l) ≤ length ahead = let w = at.within in omega arith in
    let m = front_of (print_chunk_line l) ahead more rest at.reads.1 small in
    none l m.0 (at.reads.0, m.1)
