use Rattle.std.proofs.lemmas.Result.{IfErr-weaker, on_err_weaker}
use Rattle.std.specs.Coded.{coded×}
use Rattle.adr_db.proofs.Common.{state}
use Rattle.adr_db.proofs.ReadBack.{state_same}
use Rattle.adr_db.proofs.Results.{ok_then}
use Rattle.adr_desk.specs.Steps.{step_by}
use Rattle.adr_desk.proofs.Soundness.{ok_given, err_given, on_err_given, own_after, held_before, step_taken, refused_as, answer_coded, state_coded}
use Rattle.adr_desk.proofs.desk.SqlDeskDesk.apply.Goals as goal

pub invariant_of-self : goal.invariant_of-self
invariant_of-self g c =
    let whole = c.apply_in.ensures.whole in
    record { idle = whole.over; holds = own_after g.S.Store c.args.self.now.first.kept c.args.self.now.conn c.apply_in.new.conn (step_by c.args.self.now.settings c.args.now c.args.command.now) c.apply_in.result c.apply_in.ensures.unchanged whole c.args.self.now.holds }

pub returns-clause-ok : goal.returns-clause-ok
returns-clause-ok g c =
    let whole = c.apply_in.ensures.whole in
    ok_given _ c.apply_in.result (λ sound. ok_then c.apply_in.result
    (λ answer makes. step_taken g.S.Store c.args.self.now.conn c.apply_in.new.conn (step_by c.args.self.now.settings c.args.now c.args.command.now) answer makes (held_before g.S.Store c.args.self.now.first.kept c.args.self.now.conn c.apply_in.new.conn whole.crash whole.was_open c.args.self.now.holds sound.began sound.clean sound.is_open))
    (c.apply_in.ensures.makes sound.clean))

pub returns-clause-refused : goal.returns-clause-refused
returns-clause-refused g c =
    let whole = c.apply_in.ensures.whole in
    err_given _ c.apply_in.result (λ sound. IfErr-weaker c.apply_in.result _ _
    (λ e refuses. refused_as g.S.Store c.args.self.now.conn c.apply_in.new.conn (coded× answer_coded state_coded) (step_by c.args.self.now.settings c.args.now c.args.command.now) e refuses (held_before g.S.Store c.args.self.now.first.kept c.args.self.now.conn c.apply_in.new.conn whole.crash whole.was_open c.args.self.now.holds sound.began sound.clean sound.is_open))
    (c.apply_in.ensures.refuses sound.clean))

pub returns-clause-unchanged : goal.returns-clause-unchanged
returns-clause-unchanged g c =
    on_err_given _ c.apply_in.result (λ sound. on_err_weaker c.apply_in.result (λ same. state_same (state g.S.Store c.args.self.now.conn) (state g.S.Store c.apply_in.new.conn) same) (c.apply_in.ensures.unchanged sound.clean sound.is_open))
