use Rattle.std.proofs.Common.{Result, refl, arith}
use Rattle.adr_text.specs.declared.refusal.Refusal.{Refusal}
use Rattle.adr_state.specs.declared.base.Base.{Base}
use Rattle.adr_db.proofs.Common.{state, HasCleanDisk}
use Rattle.adr_db.proofs.Results.{handed_on}
use Rattle.adr_held.specs.Held.{beside_of}
use Rattle.adr_machine.specs.declared.command.Command.TheVariants.{ScanEnd}
use Rattle.adr_machine.specs.declared.outcome.Outcome.{Outcome}
use Rattle.adr_machine.specs.declared.outcome.Outcome.TheVariants as outcome
use Rattle.adr_queries.specs.declared.answer.Answer.TheVariants as answer
use Rattle.adr_machine.specs.Edits.{edit, edit_of}
use Rattle.adr_desk.proofs.DecisionLemmas.{numbers_read}
use Rattle.adr_desk.proofs.MadeLemmas.{numbers_so, is_made}
use Rattle.adr_desk.proofs.ShutLemmas.{shut_edited}
use Rattle.adr_desk.proofs.StepLemmas.{telling_refused, is_committed}
use Rattle.adr_desk.proofs.ended.shut.Goals as goal

pub returns-in_err-_many-clause-refuses : goal.returns-in_err-_many-clause-refuses
unfolding edit
returns-in_err-_many-clause-refuses g c clean =
    let first : HasCleanDisk (state g.S.Store c.scan_shut.new.tx.conn.now) = omega (arith, clean, c.tell.ensures.lent.stays.crash.clean) in
    let settings = c.args.settings.now in
    let edits : Base → Result (Outcome × Base) Refusal = λ base. edit_of settings.limits c.args.now base ScanEnd in
    let e = c.in_err-_many.field-0.0 in
    let said = outcome.Told (answer.Probes c.in_ok-found.found) in
    let old = state g.S.Store c.args.tx.now.conn.now in
    let mid = state g.S.Store c.scan_shut.new.tx.conn.now in
    handed_on _ c.from_residual-in_err-_many.result e c.from_residual-in_err-_many.ensures.1 (λ held was told same.
    let it = c.in_ok-found.ensures.shuts first (beside_of held) held.base was.keeps (numbers_read held c.args.meta.now same) told in
    let made = shut_edited settings.limits c.args.now (beside_of held) held.base c.args.meta.now c.scan_shut.new.meta c.in_ok-found.found c.none-nothing.result c.none-nothing.ensures.covers mid it in
    let now_it = is_made settings c.args.now ScanEnd held said c.none-nothing.result old mid was c.args.meta.now c.scan_shut.new.meta same made in
    let counted = numbers_so settings c.args.now ScanEnd held said c.none-nothing.result old mid was c.args.meta.now c.scan_shut.new.meta same made in
    telling_refused settings edits c.args.now held said made.next made.edited c.scan_shut.new.meta counted e (c.in_err-_many.ensures.refuses clean held.base made.next (beside_of held) made.holds now_it))

pub returns-clause-makes : goal.returns-clause-makes
unfolding edit
returns-clause-makes g c clean held was told same =
    let first : HasCleanDisk (state g.S.Store c.scan_shut.new.tx.conn.now) = omega (arith, clean, c.tell.ensures.lent.stays.crash.clean) in
    let settings = c.args.settings.now in
    let edits : Base → Result (Outcome × Base) Refusal = λ base. edit_of settings.limits c.args.now base ScanEnd in
    let said = outcome.Told (answer.Probes c.in_ok-found.found) in
    let old = state g.S.Store c.args.tx.now.conn.now in
    let mid = state g.S.Store c.scan_shut.new.tx.conn.now in
    let now = state g.S.Store c.tell.new.tx.conn.now in
    let it = c.in_ok-found.ensures.shuts first (beside_of held) held.base was.keeps (numbers_read held c.args.meta.now same) told in
    let made = shut_edited settings.limits c.args.now (beside_of held) held.base c.args.meta.now c.scan_shut.new.meta c.in_ok-found.found c.none-nothing.result c.none-nothing.ensures.covers mid it in
    let now_it = is_made settings c.args.now ScanEnd held said c.none-nothing.result old mid was c.args.meta.now c.scan_shut.new.meta same made in
    let counted = numbers_so settings c.args.now ScanEnd held said c.none-nothing.result old mid was c.args.meta.now c.scan_shut.new.meta same made in
    let made_told = c.in_ok-_many.ensures.keeps clean held.base made.next (beside_of held) made.holds now_it in
    is_committed settings edits c.args.now held said made.next made.edited c.scan_shut.new.meta counted c.tell.new.meta c.in_ok-_many._many now now made_told c.args.meta.now same (answer.Probes c.in_ok-found.found) refl made_told.holds
