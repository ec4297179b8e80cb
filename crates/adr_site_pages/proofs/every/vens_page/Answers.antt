use Rattle.std.proofs.Common.{◌≡◌, ◌∙◌, ap, drop, take, true, IfOk, rules}
use Rattle.adr_site_pages.proofs.NumberLemmas.{all_pass}
use Rattle.adr_db.proofs.Common.{state, State, HasCleanDisk}
use Rattle.adr_db.specs.Admitted.{ReadsVenEntry}
use Rattle.adr_db.specs.Kept.{Kept, Keeps}
use Rattle.adr_db.specs.Rows.{ven_row}
use Rattle.adr_db.proofs.Results.{ok_then}
use Rattle.adr_lent.proofs.Streams.{clean_before, once_dropped}
use Rattle.adr_lent.proofs.Pages.{paged}
use Rattle.adr_site_pages.proofs.Queries.{one_ven}
use Rattle.adr_site_pages.proofs.every.vens_page.Goals as goal

pub returns-clause-finds : goal.returns-clause-finds
returns-clause-finds g c clean =
    let old = c.args.conn.now in
    let now = c.lent_page.new.rows.conn.now in
    let begun = c.in-Ok.rows.conn.now in
    let page = c.args.page in
    let late : HasCleanDisk (state g.S.Store now) = search rules in
    let first = c.in-Ok.ensures.begun.lent (clean_before (state g.S.Store begun) (state g.S.Store now) _ c.lent_page.ensures.stands.crash late) in
    once_dropped (λ (s : State). IfOk c.lent_page.result (λ rows. (kept : Kept) → Keeps kept (state g.S.Store old) → (rows ≡ take page.limit (drop page.skip kept.portfolio.vens)) × Keeps kept s)) (state g.S.Store now) _
    (ok_then c.lent_page.result
    (λ rows lends kept was.
    let it = paged ReadsVenEntry ven_row one_ven g.S.Store (λ v. true) page (λ kept. kept.portfolio.vens) old begun now rows first c.in-Ok.ensures.selects lends kept was in
    (it.0 ∙ ap (λ vens. take page.limit (drop page.skip vens)) (all_pass kept.portfolio.vens), it.1))
    (c.lent_page.ensures.lends late))
    (search rules)

pub returns-clause-was_open : goal.returns-clause-was_open
returns-clause-was_open g c clean =
    let now = c.lent_page.new.rows.conn.now in
    let begun = c.in-Ok.rows.conn.now in
    let late : HasCleanDisk (state g.S.Store now) = search rules in
    let first = c.in-Ok.ensures.begun.lent (clean_before (state g.S.Store begun) (state g.S.Store now) _ c.lent_page.ensures.stands.crash late) in
    ok_then c.lent_page.result (λ rows lends. first.same.0.was_open) (c.lent_page.ensures.lends late)
