use Rattle.std.proofs.Common.{◌≡◌, IfOk, rules}
use Rattle.sqlite.specs.Held.{state}
use Rattle.sqlite.specs.State.{State, HasCleanDisk}
use Rattle.adr_state.specs.Scans.{probes}
use Rattle.adr_db.specs.Kept.{Kept, Keeps, at_most}
use Rattle.adr_db.proofs.Results.{ok_then}
use Rattle.adr_lent.proofs.Streams.{clean_before, once_dropped}
use Rattle.adr_missed.proofs.Keys.{keys_taken}
use Rattle.adr_missed.proofs.unseen.unseen_keys.Goals as goal

pub returns-clause-finds : goal.returns-clause-finds
returns-clause-finds g c clean =
    let old = c.args.conn.now in
    let now = c.first_of.new.rows.conn.now in
    let begun = c.in-Ok.rows.conn.now in
    let limit = c.args.limit in
    let late : HasCleanDisk (state g.S.Store now) = search rules in
    let first = c.in-Ok.ensures.begun.lent (clean_before (state g.S.Store begun) (state g.S.Store now) _ c.first_of.ensures.stands.crash late) in
    once_dropped (λ (s : State). IfOk c.first_of.result (λ keys. (kept : Kept) → Keeps kept (state g.S.Store old) → (keys ≡ at_most limit (probes kept.mirror kept.polled)) × Keeps kept s)) (state g.S.Store now) _
    (ok_then c.first_of.result (λ keys lends. keys_taken g.S.Store limit old begun now keys first c.in-Ok.ensures.selects lends) (c.first_of.ensures.lends late))
    (search rules)

pub returns-clause-was_open : goal.returns-clause-was_open
returns-clause-was_open g c clean =
    let now = c.first_of.new.rows.conn.now in
    let begun = c.in-Ok.rows.conn.now in
    let late : HasCleanDisk (state g.S.Store now) = search rules in
    let first = c.in-Ok.ensures.begun.lent (clean_before (state g.S.Store begun) (state g.S.Store now) _ c.first_of.ensures.stands.crash late) in
    ok_then c.first_of.result (λ keys lends. first.same.0.was_open) (c.first_of.ensures.lends late)
