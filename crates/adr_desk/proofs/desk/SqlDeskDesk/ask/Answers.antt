use Rattle.std.proofs.lemmas.Result.{IfErr-weaker}
use Rattle.adr_db.proofs.Common.{state}
use Rattle.adr_db.proofs.ReadBack.{state_same}
use Rattle.adr_db.proofs.Results.{ok_then}
use Rattle.adr_queries.specs.Replies.{reply}
use Rattle.adr_desk.proofs.Soundness.{ok_given, err_given, own_still, held_before, reply_told, refused_as, answer_coded}
use Rattle.adr_desk.proofs.desk.SqlDeskDesk.ask.Goals as goal

pub invariant_of-self : goal.invariant_of-self
invariant_of-self g c = record { idle = c.ask_in.ensures.dropped.over; holds = own_still g.S.Store c.args.self.now.first.kept c.args.self.now.conn c.ask_in.new.conn c.ask_in.ensures.dropped c.args.self.now.holds }

pub returns-clause-ok : goal.returns-clause-ok
returns-clause-ok g c =
    let dropped = c.ask_in.ensures.dropped in
    ok_given _ c.ask_in.result (λ sound. ok_then c.ask_in.result
    (λ answer tells. reply_told g.S.Store c.args.self.now.conn c.ask_in.new.conn (λ held. reply held c.args.query.now) answer tells (held_before g.S.Store c.args.self.now.first.kept c.args.self.now.conn c.ask_in.new.conn dropped.crash dropped.was_open c.args.self.now.holds sound.began sound.clean sound.is_open))
    (c.ask_in.ensures.tells sound.clean))

pub returns-clause-refused : goal.returns-clause-refused
returns-clause-refused g c =
    let dropped = c.ask_in.ensures.dropped in
    err_given _ c.ask_in.result (λ sound. IfErr-weaker c.ask_in.result _ _
    (λ e refuses. refused_as g.S.Store c.args.self.now.conn c.ask_in.new.conn answer_coded (λ held. reply held c.args.query.now) e refuses (held_before g.S.Store c.args.self.now.first.kept c.args.self.now.conn c.ask_in.new.conn dropped.crash dropped.was_open c.args.self.now.holds sound.began sound.clean sound.is_open))
    (c.ask_in.ensures.refuses sound.clean))

pub returns-clause-unchanged : goal.returns-clause-unchanged
returns-clause-unchanged g c sound = state_same (state g.S.Store c.args.self.now.conn) (state g.S.Store c.ask_in.new.conn) (c.ask_in.ensures.dropped.same sound.clean sound.is_open).0
