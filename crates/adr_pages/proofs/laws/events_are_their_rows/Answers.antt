use Rattle.adr_db.proofs.Common.{state}
use Rattle.adr_pages.proofs.EventLemmas.{events_are_rows, event_is_row}
use Rattle.adr_pages.proofs.laws.events_are_their_rows.Goals as goal

pub returns-clause-page : goal.returns-clause-page
returns-clause-page g c = events_are_rows (state g.S.Store c.args.conn.now)

pub returns-clause-one : goal.returns-clause-one
returns-clause-one g c = event_is_row (state g.S.Store c.args.conn.now)
