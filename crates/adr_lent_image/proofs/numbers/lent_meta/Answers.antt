use Rattle.std.proofs.Common.{◌≡◌, rules}
use Rattle.adr_db.proofs.Common.{state, State, HasCleanDisk}
use Rattle.adr_db.specs.Kept.{Kept, Keeps}
use Rattle.adr_lent.proofs.Streams.{clean_before, once_dropped}
use Rattle.adr_lent_image.proofs.ReadLemmas.{meta_found}
use Rattle.adr_lent_image.proofs.numbers.lent_meta.Goals as goal

pub returns-in-Some-clause-finds : goal.returns-in-Some-clause-finds
returns-in-Some-clause-finds g c clean =
    let old = c.args.conn.now in
    let begun = c.in-Ok.rows.conn.now in
    let now = c.next_of.new.rows.conn.now in
    let late : HasCleanDisk (state g.S.Store now) = search rules in
    let first = c.in-Ok.ensures.begun.lent (clean_before (state g.S.Store begun) (state g.S.Store now) _ c.next_of.ensures.stands.crash late) in
    once_dropped (λ (s : State). (kept : Kept) → Keeps kept (state g.S.Store old) → (c.in-Some.meta ≡ kept.meta) × Keeps kept s) (state g.S.Store now) _
    (meta_found g.S.Store old begun now c.in-Some.meta first c.in-Ok.ensures.selects (rw (c.in_ok-meta.was, c.in-Some.is) at (c.next_of.ensures.lends late))) (search rules)

pub returns-in-Some-clause-was_open : goal.returns-in-Some-clause-was_open
returns-in-Some-clause-was_open g c clean =
    let begun = c.in-Ok.rows.conn.now in
    let now = c.next_of.new.rows.conn.now in
    let late : HasCleanDisk (state g.S.Store now) = search rules in
    let first = c.in-Ok.ensures.begun.lent (clean_before (state g.S.Store begun) (state g.S.Store now) _ c.next_of.ensures.stands.crash late) in
    first.same.0.was_open
