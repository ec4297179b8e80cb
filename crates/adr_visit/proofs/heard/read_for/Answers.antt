use Rattle.std.proofs.Common.{take, subst, arith}
use Rattle.std.specs.Prelude.{All}
use Rattle.std.proofs.lemmas.List.{take_all}
use Rattle.std.proofs.lemmas.List.Elements.{All-nil, All-more, All-weaker}
use Rattle.adr_db.proofs.Common.{state, HasCleanDisk, lent_itself, lent_then}
use Rattle.adr_listeners.specs.Hearers.{hears}
use Rattle.adr_visit.specs.Heard.{IsHeard}
use Rattle.adr_visit.proofs.Hearing.{heard, heard_still}
use Rattle.adr_visit.proofs.heard.read_for.Goals as goal

pub changes-init : goal.changes-init
changes-init g c = record { lent = lent_itself g.S.Store _ _; finds = λ clean kept was are. (are, was); heard = All-nil (IsHeard (g.T.Tells.told c.args.teller.now) c.args.listeners.now) }

-- one change more
pub changes-preserved : goal.changes-preserved
changes-preserved g c =
    let told = g.T.Tells.told c.args.teller.now in
    let l = c.changes in
    let one = c.change-item.result in
    let later = c.read.new.self in
    record {
      lent = lent_then g.S.Store _ _ _ _ _ l.invariant.lent c.in_ok-read.ensures.lent;
      finds = λ clean kept was are.
          let early : HasCleanDisk (state g.S.Store l.tx.conn.now) = omega (arith, clean, c.read.ensures.lent.stays.crash.clean) in
          let so_far = l.invariant.finds early kept was are in
          c.in_ok-read.ensures.finds clean kept so_far.1 so_far.0;
      heard = All-more (IsHeard told later) c.args.changes.now l.change-index one c.changes-test.true
          (All-weaker (IsHeard told l.listeners) (IsHeard told later) (heard_still told l.listeners later (hears c.hearers.result) c.in_ok-read.ensures.reads) (take l.change-index c.args.changes.now) l.invariant.heard)
          (subst (IsHeard told later) c.change-item.is (heard told l.listeners later c.hearers.result one c.hearers.ensures c.in_ok-read.ensures.reads));
    }

pub returns-clause-heard : goal.returns-clause-heard
returns-clause-heard g c = subst (All (IsHeard (g.T.Tells.told c.args.teller.now) c.changes.listeners)) (take_all c.changes.change-index c.args.changes.now c.changes-test.false) c.changes.invariant.heard
