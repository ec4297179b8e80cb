use Rattle.std.proofs.Common.{◌+◌, refl}
use Rattle.std.proofs.lemmas.Result.{IfErr-weaker}
use Rattle.adr_db.proofs.Common.{state, HasCleanDisk, scan_end}
use Rattle.adr_db.proofs.Results.{handed_on, ok_then, then_refused}
use Rattle.adr_lent.proofs.Streams.{clean_before}
use Rattle.adr_machine.specs.declared.command.Command.TheVariants.{ScanEnd}
use Rattle.adr_machine.specs.Edits.{answered, edit, edit_of}
use Rattle.adr_missed.proofs.Closing.{end_refused}
use Rattle.adr_queries.specs.declared.answer.Answer.TheVariants as answer
use Rattle.adr_desk.proofs.DecisionLemmas.{decision_refused, told_refused}
use Rattle.adr_desk.proofs.DroppedLemmas.{dropped_whole, dropped_unchanged}
use Rattle.adr_desk.proofs.ended.end_scan.Goals as goal

pub returns-in_err-keys-clause-refuses : goal.returns-in_err-keys-clause-refuses
unfolding edit
returns-in_err-keys-clause-refuses g c clean =
    let e = c.in_err-keys.field-0.0 in
    let limits = c.args.settings.now.limits in
    handed_on _ c.from_residual.result e c.from_residual.ensures.1 (λ held was.
    let ends = end_refused held.base e (c.in_err-keys.ensures.refuses clean held was) in
    let decides = told_refused e (scan_end held.base) (λ d. d.1) (λ d. answered (answer.Probes d.0) d.1) ends in
    then_refused e (edit_of limits c.args.now held.base ScanEnd) _ (decision_refused limits c.args.now ScanEnd held.base (held.base.serial + 1) refl e decides))

pub returns-clause-whole : goal.returns-clause-whole
returns-clause-whole g c =
    let old = c.args.conn.now in
    let mid = c.all_missed.new.conn in
    let end = c.shut_in.new.conn in
    dropped_whole g.S.Store old mid end c.all_missed.ensures.dropped _ _ _ _ c.shut_in.result
    (λ clean s done held was. let it = c.in_ok-keys.ensures.tells clean held was in done held it.1 it.0)
    (λ clean trees left held was. let it = c.in_ok-keys.ensures.tells clean held was in left held it.1 it.0)
    c.shut_in.ensures.whole

pub returns-clause-makes : goal.returns-clause-makes
returns-clause-makes g c clean =
    let mid = state g.S.Store c.all_missed.new.conn in
    let early : HasCleanDisk mid = clean_before mid (state g.S.Store c.shut_in.new.conn) _ c.shut_in.ensures.whole.crash clean in
    ok_then c.shut_in.result (λ answer makes held was. let it = c.in_ok-keys.ensures.tells early held was in makes held it.1 it.0) (c.shut_in.ensures.makes clean)

pub returns-clause-refuses : goal.returns-clause-refuses
returns-clause-refuses g c clean =
    let mid = state g.S.Store c.all_missed.new.conn in
    let early : HasCleanDisk mid = clean_before mid (state g.S.Store c.shut_in.new.conn) _ c.shut_in.ensures.whole.crash clean in
    IfErr-weaker c.shut_in.result _ _ (λ e refuses held was. let it = c.in_ok-keys.ensures.tells early held was in refuses held it.1 it.0) (c.shut_in.ensures.refuses clean)

pub returns-clause-unchanged : goal.returns-clause-unchanged
returns-clause-unchanged g c =
    let mid = state g.S.Store c.all_missed.new.conn in
    dropped_unchanged g.S.Store c.args.conn.now c.all_missed.new.conn c.shut_in.new.conn c.all_missed.ensures.dropped c.shut_in.result
    (λ clean opened. (clean_before mid (state g.S.Store c.shut_in.new.conn) _ c.shut_in.ensures.whole.crash clean, c.shut_in.ensures.whole.was_open clean opened)) c.shut_in.ensures.unchanged
