use Rattle.std.proofs.Common.{arith, refl, subst}
use Rattle.std.proofs.lemmas.Result.{IfErr-weaker}
use Rattle.adr_db.proofs.Common.{state, HasCleanDisk}
use Rattle.adr_db.specs.declared.meta.Meta.{Meta}
use Rattle.adr_db.specs.Calls.{IsOfStore}
use Rattle.adr_db.specs.Kept.{Keeps, with_meta}
use Rattle.adr_db.proofs.Results.{handed_on, on_then}
use Rattle.adr_held.specs.Held.{kept_of}
use Rattle.adr_held.proofs.RightLemmas.{step_stays}
use Rattle.adr_machine.specs.declared.command.Command.TheVariants.{ScanEnd}
use Rattle.adr_machine.specs.Listed.{listed}
use Rattle.adr_desk.specs.Steps.{step_by}
use Rattle.adr_desk.proofs.After.{after_made, after_refused}
use Rattle.adr_desk.proofs.DecisionLemmas.{of_store}
use Rattle.adr_desk.proofs.ListedLemmas.{told_store}
use Rattle.adr_desk.proofs.Transactions.{kept_on}
use Rattle.adr_desk.proofs.ended.ended.Goals as goal

pub returns-in_err-answer-clause-refuses : goal.returns-in_err-answer-clause-refuses
returns-in_err-answer-clause-refuses g c clean =
    let first : HasCleanDisk (state g.S.Store c.read_meta.new.tx.conn.now) = omega (arith, clean, c.shut.ensures.lent.stays.crash.clean) in
    let e = c.in_err-answer.field-0.0 in
    handed_on _ c.from_residual-in_err-answer.result e c.from_residual-in_err-answer.ensures.1 (λ held was told.
    let found = c.in_ok-before.ensures.finds first (kept_of held) was.keeps in
    c.in_err-answer.ensures.refuses clean held (kept_on held _ _ found.1 was) told found.0)

pub returns-clause-makes : goal.returns-clause-makes
returns-clause-makes g c clean =
    let second : HasCleanDisk (state g.S.Store c.shut.new.tx.conn.now) = omega (arith, c.put_changed.ensures.lent.stays.crash.clean) in
    let first : HasCleanDisk (state g.S.Store c.read_meta.new.tx.conn.now) = omega (arith, second, c.shut.ensures.lent.stays.crash.clean) in
    rw c.after.ensures (after_made c.in_ok-answer.answer _ c.put_changed.result (on_then c.put_changed.result (λ leaves held was told.
    let found = c.in_ok-before.ensures.finds first (kept_of held) was.keeps in
    let it = c.in_ok-answer.ensures.makes second held (kept_on held _ _ found.1 was) told found.0 in
    record {
      after = it.next;
      stepped = it.stepped;
      holds = record {
        keeps = subst (λ (m : Meta). Keeps (with_meta m (kept_of it.next)) (state g.S.Store c.put_changed.new.tx.conn.now)) it.counted (leaves (with_meta c.in_ok-before.before (kept_of it.next)) it.holds refl);
        reads = it.reads;
        right = step_stays c.args.settings.now c.args.now ScanEnd held it.next c.in_ok-answer.answer it.stepped was.right;
      };
    }) (c.put_changed.ensures.leaves clean)))

pub returns-clause-refuses : goal.returns-clause-refuses
returns-clause-refuses g c clean =
    rw c.after.ensures (after_refused c.in_ok-answer.answer _ c.put_changed.result (IfErr-weaker c.put_changed.result IsOfStore _ (λ e h held was told. of_store e (step_by c.args.settings.now c.args.now ScanEnd held) h) c.put_changed.ensures.refused))

pub returns-clause-listed : goal.returns-clause-listed
returns-clause-listed g c = rw c.after.ensures (told_store (listed ScanEnd) (λ u. c.in_ok-answer.answer) c.put_changed.result c.put_changed.ensures.refused)
