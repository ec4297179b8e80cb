use Rattle.std.proofs.Common.{◌≡◌, ◌<◌, ◌≤◌, ℕ, false}
use Rattle.adr_wire.specs.Lines.{is_empty_line_at}
use Rattle.adr_wire.proofs.lines.has_empty_line.Given as goal

-- none so far
abbrev pub invariant-loop-place : goal.invariant-loop-place
invariant-loop-place l = (at : ℕ) → l.from ≤ at → at < l.place → is_empty_line_at at l.bytes ≡ false
