use Rattle.std.proofs.Common.{◌≡◌, drop, take, IfOk, rules}
use Rattle.adr_db.proofs.Common.{state, State, HasCleanDisk}
use Rattle.adr_db.specs.Admitted.{ReadsSubEntry}
use Rattle.adr_db.specs.Kept.{Kept, Keeps}
use Rattle.adr_db.specs.Rows.{sub_row}
use Rattle.adr_db.proofs.Results.{ok_then}
use Rattle.adr_db.proofs.Subs.{sub_entry_read}
use Rattle.adr_lent.proofs.Streams.{clean_before, once_dropped}
use Rattle.adr_site_pages.specs.Sites.{wanted_among, wants_sub}
use Rattle.adr_site_pages.proofs.Pages.{paged_among}
use Rattle.adr_site_pages.proofs.every.subs_page.Goals as goal

pub returns-clause-finds : goal.returns-clause-finds
returns-clause-finds g c clean =
    let old = c.args.conn.now in
    let now = c.lent_page.new.rows.conn.now in
    let begun = c.in-Ok.rows.conn.now in
    let f = c.args.filter.now in
    let page = c.args.page in
    let late : HasCleanDisk (state g.S.Store now) = search rules in
    let first = c.in-Ok.ensures.begun.lent (clean_before (state g.S.Store begun) (state g.S.Store now) _ c.lent_page.ensures.stands.crash late) in
    once_dropped (λ (s : State). IfOk c.lent_page.result (λ rows. (kept : Kept) → Keeps kept (state g.S.Store old) → (rows ≡ take page.limit (drop page.skip (wanted_among f kept.portfolio.subs))) × Keeps kept s)) (state g.S.Store now) _
    (ok_then c.lent_page.result
    (λ rows lends. paged_among ReadsSubEntry sub_row g.S.Store (λ s. wants_sub f s.1) page (λ kept. kept.portfolio.subs) old begun now rows (λ kept was x e has. sub_entry_read kept.portfolio.subs was.subs x e has) first c.in-Ok.ensures.selects lends)
    (c.lent_page.ensures.lends late))
    (search rules)

pub returns-clause-was_open : goal.returns-clause-was_open
returns-clause-was_open g c clean =
    let now = c.lent_page.new.rows.conn.now in
    let begun = c.in-Ok.rows.conn.now in
    let late : HasCleanDisk (state g.S.Store now) = search rules in
    let first = c.in-Ok.ensures.begun.lent (clean_before (state g.S.Store begun) (state g.S.Store now) _ c.lent_page.ensures.stands.crash late) in
    ok_then c.lent_page.result (λ rows lends. first.same.0.was_open) (c.lent_page.ensures.lends late)
