use Rattle.adr_db.proofs.Common.{state, HasCleanDisk}
use Rattle.adr_db.proofs.Results.{on_then}
use Rattle.adr_lent.proofs.Streams.{clean_before, stands_then}
use Rattle.adr_desk.proofs.inspect.read_portfolio.Goals as goal

-- each table is read over what stands before it
pub returns-clause-stands : goal.returns-clause-stands
returns-clause-stands g c = let s = g.S.Store in stands_then s _ _ _ (stands_then s _ _ _ (stands_then s _ _ _ (stands_then s _ _ _ (stands_then s _ _ _ (stands_then s _ _ _ (stands_then s _ _ _ c.read_vens.ensures.stands c.read_resources.ensures.stands) c.read_shares.ensures.stands) c.read_intervals.ensures.stands) c.read_reports.ensures.stands) c.read_subs.ensures.stands) c.read_frozen.ensures.stands) c.read_frozen_shares.ensures.stands

pub returns-clause-reads : goal.returns-clause-reads
returns-clause-reads g c clean =
    let read_frozen : HasCleanDisk (state g.S.Store c.read_frozen.new.conn) = clean_before _ (state g.S.Store c.read_frozen_shares.new.conn) _ c.read_frozen_shares.ensures.stands.crash clean in
    let read_subs : HasCleanDisk (state g.S.Store c.read_subs.new.conn) = clean_before _ (state g.S.Store c.read_frozen.new.conn) _ c.read_frozen.ensures.stands.crash read_frozen in
    let read_reports : HasCleanDisk (state g.S.Store c.read_reports.new.conn) = clean_before _ (state g.S.Store c.read_subs.new.conn) _ c.read_subs.ensures.stands.crash read_subs in
    let read_intervals : HasCleanDisk (state g.S.Store c.read_intervals.new.conn) = clean_before _ (state g.S.Store c.read_reports.new.conn) _ c.read_reports.ensures.stands.crash read_reports in
    let read_shares : HasCleanDisk (state g.S.Store c.read_shares.new.conn) = clean_before _ (state g.S.Store c.read_intervals.new.conn) _ c.read_intervals.ensures.stands.crash read_intervals in
    let read_resources : HasCleanDisk (state g.S.Store c.read_resources.new.conn) = clean_before _ (state g.S.Store c.read_shares.new.conn) _ c.read_shares.ensures.stands.crash read_shares in
    let read_vens : HasCleanDisk (state g.S.Store c.read_vens.new.conn) = clean_before _ (state g.S.Store c.read_resources.new.conn) _ c.read_resources.ensures.stands.crash read_resources in
    on_then c.read_frozen_shares.result (λ did. (c.read_vens.new.conn, c.in_ok-read_vens.ensures.reads read_vens, (c.read_resources.new.conn, c.in_ok-read_resources.ensures.reads read_resources, (c.read_shares.new.conn, c.in_ok-read_shares.ensures.reads read_shares, (c.read_intervals.new.conn, c.in_ok-read_intervals.ensures.reads read_intervals, (c.read_reports.new.conn, c.in_ok-read_reports.ensures.reads read_reports, (c.read_subs.new.conn, c.in_ok-read_subs.ensures.reads read_subs, (c.read_frozen.new.conn, c.in_ok-read_frozen.ensures.reads read_frozen, did)))))))) (c.read_frozen_shares.ensures.reads clean)
