use Rattle.adr_db.proofs.Common.{state}
use Rattle.adr_db.proofs.ReadBack.{state_same}
use Rattle.adr_db.proofs.Results.{ok_then}
use Rattle.adr_desk.proofs.Soundness.{ok_given, own_still, held_before, image_told}
use Rattle.adr_desk.proofs.desk.SqlDeskDesk.image.Goals as goal

pub invariant_of-self : goal.invariant_of-self
invariant_of-self g c = record { idle = c.image_in.ensures.dropped.over; holds = own_still g.S.Store c.args.self.now.first.kept c.args.self.now.conn c.image_in.new.conn c.image_in.ensures.dropped c.args.self.now.holds }

pub returns-clause-ok : goal.returns-clause-ok
returns-clause-ok g c =
    let dropped = c.image_in.ensures.dropped in
    ok_given _ c.image_in.result (λ sound. ok_then c.image_in.result
    (λ image finds. image_told g.S.Store c.args.self.now.conn c.image_in.new.conn image finds (held_before g.S.Store c.args.self.now.first.kept c.args.self.now.conn c.image_in.new.conn dropped.crash dropped.was_open c.args.self.now.holds sound.began sound.clean sound.is_open))
    (c.image_in.ensures.finds sound.clean))

pub returns-clause-unchanged : goal.returns-clause-unchanged
returns-clause-unchanged g c sound = state_same (state g.S.Store c.args.self.now.conn) (state g.S.Store c.image_in.new.conn) (c.image_in.ensures.dropped.same sound.clean sound.is_open).0
