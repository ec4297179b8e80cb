use Rattle.adr_db.proofs.Common.{state}
use Rattle.adr_missed.proofs.Told.{first_told, all_told}
use Rattle.adr_missed.proofs.laws.missed_are_told.Goals as goal

pub returns-clause-first : goal.returns-clause-first
returns-clause-first g c = first_told (state g.S.Store c.args.conn.now)

pub returns-clause-all : goal.returns-clause-all
returns-clause-all g c = all_told (state g.S.Store c.args.conn.now)
