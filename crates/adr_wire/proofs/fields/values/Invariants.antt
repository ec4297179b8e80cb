use Rattle.std.proofs.Common.{◌≡◌, ◌++◌, map, drop}
use Rattle.httparse.specs.Spans.{header_bytes}
use Rattle.adr_wire.specs.Fields.{values}
use Rattle.adr_wire.proofs.fields.values.Given as goal

abbrev pub invariant-loop-header : goal.invariant-loop-header
invariant-loop-header l =
    map (λ s. s.now) l.found.items ++ values l.name (map (header_bytes l.buf) (drop l.header-index l.headers)) ≡ values l.name (map (header_bytes l.buf) l.headers)
