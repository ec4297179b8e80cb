use Rattle.std.proofs.Common.{◌≡◌, take, drop, filter, IfOk, rules}
use Rattle.sqlite.specs.Held.{state}
use Rattle.sqlite.specs.State.{State, HasCleanDisk}
use Rattle.adr_db.specs.Kept.{Kept, Keeps}
use Rattle.adr_db.proofs.Results.{ok_then}
use Rattle.adr_db.specs.Rows.{shown_row}
use Rattle.adr_db_shown.specs.Entries.{ReadsShownEntry}
use Rattle.adr_lent.specs.Picks.{picked_part}
use Rattle.adr_lent.proofs.Streams.{clean_before, once_dropped}
use Rattle.adr_lent.proofs.Pages.{one_read, paged}
use Rattle.adr_lent.proofs.page.page_in.Goals as goal

pub returns-clause-finds : goal.returns-clause-finds
returns-clause-finds g c clean =
    let old = c.args.conn.now in
    let now = c.lent_page.new.rows.conn.now in
    let begun = c.in-Ok.rows.conn.now in
    let wanted = g.W.Wanting.wanted c.args.wanting.now in
    let page = c.args.page in
    let values = picked_part c.args.picked.now c.args.part in
    let late : HasCleanDisk (state g.S.Store now) = search rules in
    let first = c.in-Ok.ensures.begun.lent (clean_before (state g.S.Store begun) (state g.S.Store now) _ c.lent_page.ensures.stands.crash late) in
    once_dropped (λ (s : State). IfOk c.lent_page.result (λ rows. (kept : Kept) → Keeps kept (state g.S.Store old) → (rows ≡ take page.limit (drop page.skip (filter wanted (values kept)))) × Keeps kept s)) (state g.S.Store now) _
    (ok_then c.lent_page.result (λ rows lends. paged ReadsShownEntry shown_row one_read g.S.Store wanted page values old begun now rows first c.in-Ok.ensures.selects lends) (c.lent_page.ensures.lends late))
    (search rules)
