use Rattle.adr_db.proofs.Common.{state}
use Rattle.adr_db.proofs.ReadBack.{state_same}
use Rattle.adr_desk.proofs.Soundness.{own_still}
use Rattle.adr_desk.proofs.desk.SqlDesk.inspect.Goals as goal

pub invariant_of-self : goal.invariant_of-self
invariant_of-self g c = record { idle = c.inspect_in.ensures.dropped.over; holds = own_still g.S.Store c.args.self.now.first.kept c.args.self.now.conn c.inspect_in.new.conn c.inspect_in.ensures.dropped c.args.self.now.holds }

pub returns-clause-unchanged : goal.returns-clause-unchanged
returns-clause-unchanged g c sound = state_same (state g.S.Store c.args.self.now.conn) (state g.S.Store c.inspect_in.new.conn) (c.inspect_in.ensures.dropped.same sound.clean sound.is_open).0
