use Rattle.adr_db.proofs.Common.{state, HasCleanDisk}
use Rattle.adr_db.proofs.Results.{on_then}
use Rattle.adr_lent.proofs.Streams.{clean_before, stands_then}
use Rattle.adr_desk.proofs.inspect.read_outbox.Goals as goal

-- each table is read over what stands before it
pub returns-clause-stands : goal.returns-clause-stands
returns-clause-stands g c = let s = g.S.Store in stands_then s _ _ _ (stands_then s _ _ _ c.read_stamps.ensures.stands c.read_entries.ensures.stands) c.read_remotes.ensures.stands

pub returns-clause-reads : goal.returns-clause-reads
returns-clause-reads g c clean =
    let read_entries : HasCleanDisk (state g.S.Store c.read_entries.new.conn) = clean_before _ (state g.S.Store c.read_remotes.new.conn) _ c.read_remotes.ensures.stands.crash clean in
    let read_stamps : HasCleanDisk (state g.S.Store c.read_stamps.new.conn) = clean_before _ (state g.S.Store c.read_entries.new.conn) _ c.read_entries.ensures.stands.crash read_entries in
    on_then c.read_remotes.result (λ did. (c.read_stamps.new.conn, c.in_ok-read_stamps.ensures.reads read_stamps, (c.read_entries.new.conn, c.in_ok-read_entries.ensures.reads read_entries, did))) (c.read_remotes.ensures.reads clean)
