use Rattle.adr_db.proofs.Common.{state, HasCleanDisk}
use Rattle.adr_db.proofs.Results.{on_then}
use Rattle.adr_lent.proofs.Streams.{clean_before, stands_then}
use Rattle.adr_desk.proofs.inspect.read_tables.Goals as goal

-- each table is read over what stands before it
pub returns-clause-stands : goal.returns-clause-stands
returns-clause-stands g c = let s = g.S.Store in stands_then s _ _ _ (stands_then s _ _ _ (stands_then s _ _ _ (stands_then s _ _ _ c.read_meta.ensures.stands c.read_marks.ensures.stands) c.read_polled.ensures.stands) c.read_portfolio.ensures.stands) c.read_outbox.ensures.stands

pub returns-clause-reads : goal.returns-clause-reads
returns-clause-reads g c clean =
    let read_portfolio : HasCleanDisk (state g.S.Store c.read_portfolio.new.conn) = clean_before _ (state g.S.Store c.read_outbox.new.conn) _ c.read_outbox.ensures.stands.crash clean in
    let read_polled : HasCleanDisk (state g.S.Store c.read_polled.new.conn) = clean_before _ (state g.S.Store c.read_portfolio.new.conn) _ c.read_portfolio.ensures.stands.crash read_portfolio in
    let read_marks : HasCleanDisk (state g.S.Store c.read_marks.new.conn) = clean_before _ (state g.S.Store c.read_polled.new.conn) _ c.read_polled.ensures.stands.crash read_polled in
    let read_meta : HasCleanDisk (state g.S.Store c.read_meta.new.conn) = clean_before _ (state g.S.Store c.read_marks.new.conn) _ c.read_marks.ensures.stands.crash read_marks in
    on_then c.read_outbox.result (λ did. (c.read_meta.new.conn, c.in_ok-read_meta.ensures.reads read_meta, (c.read_marks.new.conn, c.in_ok-read_marks.ensures.reads read_marks, (c.read_polled.new.conn, c.in_ok-read_polled.ensures.reads read_polled, (c.read_portfolio.new.conn, c.in_ok-read_portfolio.ensures.reads read_portfolio, did))))) (c.read_outbox.ensures.reads clean)
