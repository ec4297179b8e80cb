use Rattle.std.proofs.Common.{◌≡◌, Bool, true, false, cond, Err, sym, ap, subst, ◌∙◌}
use Rattle.adr_db.proofs.Common.{state, Forbidden}
use Rattle.adr_db.proofs.Results.{handed_on, refused_so, passed, stopped}
use Rattle.adr_state.specs.declared.state.State.{State}
use Rattle.adr_machine.specs.Commands.{traits_of}
use Rattle.adr_machine.specs.Edits.{is_allowed, is_delivery, edit_of, edit}
use Rattle.adr_machine.specs.Steps.{delivery_step}
use Rattle.adr_machine.specs.Listed.{listed}
use Rattle.adr_machine.proofs.Listed.{forbidden_listed}
use Rattle.adr_desk.specs.Steps.{step_of, CommitsTables, RefusesToCommit}
use Rattle.adr_desk.proofs.DeliveryLemmas.{delivery_commits, delivery_refused}
use Rattle.adr_desk.proofs.ListedLemmas.{Listed, contained_listed}
use Rattle.adr_desk.proofs.step.acted.Goals as goal

-- what is about an entry
pub returns-then-is_delivery-clause-makes : goal.returns-then-is_delivery-clause-makes
returns-then-is_delivery-clause-makes g c =
    delivery_commits g.S.Store c.args.tx.now.conn.now c.delivered.new.tx.conn.now c.args.settings.now c.args.now c.args.command.now (sym c.is_delivery.ensures ∙ c.if-is_delivery.true) c.args.meta.now c.delivered.new.meta c.delivered.result c.delivered.ensures.turns

pub returns-then-is_delivery-clause-refuses : goal.returns-then-is_delivery-clause-refuses
returns-then-is_delivery-clause-refuses g c =
    delivery_refused g.S.Store c.args.tx.now.conn.now c.delivered.new.tx.conn.now c.args.settings.now c.args.now c.args.command.now (sym c.is_delivery.ensures ∙ c.if-is_delivery.true) c.args.meta.now c.delivered.result c.delivered.ensures.refuses

-- another may not give it
pub returns-in_err-unless-clause-refuses : goal.returns-in_err-unless-clause-refuses
unfolding edit
returns-in_err-unless-clause-refuses g c clean =
    let e = c.in_err-unless.field-0.0 in
    let other : is_delivery c.args.command.now ≡ false = sym c.is_delivery.ensures ∙ c.if-is_delivery.false in
    let no = stopped Forbidden _ e (sym c.unless.ensures.gives ∙ c.in_err-unless.was) in
    handed_on _ c.from_residual.result e c.from_residual.ensures.1 (λ held was same. refused_so e _ (rw (other, sym c.is_allowed.ensures ∙ no.0) (ap Err (sym no.1))))

pub returns-in_err-unless-clause-listed : goal.returns-in_err-unless-clause-listed
returns-in_err-unless-clause-listed g c =
    let e = c.in_err-unless.field-0.0 in
    let these = listed c.args.command.now in
    let no = stopped Forbidden _ e (sym c.unless.ensures.gives ∙ c.in_err-unless.was) in
    handed_on (Listed these) c.from_residual.result e c.from_residual.ensures.1 (subst (Listed these) (sym no.1) (contained_listed these Forbidden (forbidden_listed (traits_of c.args.command.now) (sym c.is_allowed.ensures ∙ no.0))))

-- what one edits who may
pub returns-clause-makes : goal.returns-clause-makes
unfolding edit
returns-clause-makes g c =
    let other : is_delivery c.args.command.now ≡ false = sym c.is_delivery.ensures ∙ c.if-is_delivery.false in
    let yes : is_allowed c.args.command.now ≡ true = sym c.is_allowed.ensures ∙ passed Forbidden _ _ (sym c.unless.ensures.gives ∙ c.in_ok-unless.was) in
    let settings = c.args.settings.now in
    let command = c.args.command.now in
    let edits = λ (b : Bool) (held : State). step_of settings (λ base. cond b (edit_of settings.limits c.args.now base command) (Err Forbidden)) c.args.now held in
    subst (λ (d : Bool). CommitsTables (λ held. cond d (delivery_step settings held c.args.now command) (edits (is_allowed command) held)) c.args.meta.now c.committed.new.meta (state g.S.Store c.args.tx.now.conn.now) (state g.S.Store c.committed.new.tx.conn.now) c.committed.result) (sym other)
    (subst (λ (b : Bool). CommitsTables (edits b) c.args.meta.now c.committed.new.meta (state g.S.Store c.args.tx.now.conn.now) (state g.S.Store c.committed.new.tx.conn.now) c.committed.result) (sym yes) c.committed.ensures.makes)

pub returns-clause-refuses : goal.returns-clause-refuses
unfolding edit
returns-clause-refuses g c =
    let other : is_delivery c.args.command.now ≡ false = sym c.is_delivery.ensures ∙ c.if-is_delivery.false in
    let yes : is_allowed c.args.command.now ≡ true = sym c.is_allowed.ensures ∙ passed Forbidden _ _ (sym c.unless.ensures.gives ∙ c.in_ok-unless.was) in
    let settings = c.args.settings.now in
    let command = c.args.command.now in
    let edits = λ (b : Bool) (held : State). step_of settings (λ base. cond b (edit_of settings.limits c.args.now base command) (Err Forbidden)) c.args.now held in
    subst (λ (d : Bool). RefusesToCommit (λ held. cond d (delivery_step settings held c.args.now command) (edits (is_allowed command) held)) c.args.meta.now (state g.S.Store c.args.tx.now.conn.now) (state g.S.Store c.committed.new.tx.conn.now) c.committed.result) (sym other)
    (subst (λ (b : Bool). RefusesToCommit (edits b) c.args.meta.now (state g.S.Store c.args.tx.now.conn.now) (state g.S.Store c.committed.new.tx.conn.now) c.committed.result) (sym yes) c.committed.ensures.refuses)
