use Rattle.sqlite.specs.Held.{state}
use Rattle.sqlite.proofs.Callers.{unchanged_then}
use Rattle.adr_lent.proofs.Streams.{shown_since}
use Rattle.adr_lent.proofs.stream.next_of.Goals as goal

pub returns-in-Ok-None-clause-lends : goal.returns-in-Ok-None-clause-lends
returns-in-Ok-None-clause-lends g c clean sql params before lent h =
    let moved = c.next.follows.holds-at-none in
    let now = state g.S.Store c.next.follows.lender-at-none.conn.now in
    let was = state g.S.Store c.args.rows.now.conn.now in
    let shown = (rw (c.in-Ok-None.is, c.in-Ok-None.field-0-is) at (moved.ok clean)) sql params lent h.given in
    (shown_since sql params h.text (state g.S.Store before) was now lent h.same shown, unchanged_then (state g.S.Store before) was now h.same (rw c.in-Ok-None.is at (moved.same clean)))
