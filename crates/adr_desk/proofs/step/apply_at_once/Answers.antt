use Rattle.std.proofs.Common.{rules}
use Rattle.adr_db.proofs.Common.{state, Commits}
use Rattle.adr_state.specs.declared.state.State.{State}
use Rattle.adr_held.specs.Held.{HoldsState}
use Rattle.adr_machine.specs.Listed.{listed}
use Rattle.adr_desk.specs.Steps.{step_by, StepsTables, HoldsStepped, LeftStepped}
use Rattle.adr_desk.proofs.Applied.{moved, applied_whole, applied_makes}
use Rattle.adr_desk.proofs.ListedLemmas.{told_store}
use Rattle.adr_desk.proofs.step.apply_at_once.Goals as goal

-- the connection after the commit is the one that the function leaves
pub returns-clause-whole : goal.returns-clause-whole
returns-clause-whole g c =
    let old = c.args.conn.now in
    let step = step_by c.args.settings.now c.args.now c.args.command.now in
    moved (λ end. Commits g.S.Store old end (λ s. (held : State) → HoldsState held (state g.S.Store old) → HoldsStepped step held s) (λ trees. (held : State) → HoldsState held (state g.S.Store old) → LeftStepped step held trees) c.after.result) c.commit-ended.new.tx.0 _ (search rules)
    (applied_whole g.S.Store old c.begin-tx.result.conn.now c.stepped.new.tx.conn.now c.commit-ended.new.tx.0 step c.in_ok-answer.answer c.commit-ended.result c.after.result
    c.begin-tx.ensures.begun c.in_ok-answer.ensures.lent.stays c.in_ok-answer.ensures.makes c.commit-ended.ensures.ends c.after.ensures)

pub returns-clause-makes : goal.returns-clause-makes
returns-clause-makes g c =
    moved (λ end. StepsTables (step_by c.args.settings.now c.args.now c.args.command.now) (state g.S.Store c.args.conn.now) (state g.S.Store end) c.after.result) c.commit-ended.new.tx.0 c.conn-2-1.given.0 (search rules)
    (applied_makes g.S.Store c.args.conn.now c.begin-tx.result.conn.now c.stepped.new.tx.conn.now c.commit-ended.new.tx.0 (step_by c.args.settings.now c.args.now c.args.command.now) c.in_ok-answer.answer c.commit-ended.result c.after.result
    c.begin-tx.ensures.begun c.in_ok-answer.ensures.makes c.commit-ended.ensures.ends c.after.ensures)

pub returns-clause-listed : goal.returns-clause-listed
returns-clause-listed g c = rw c.after.ensures (told_store (listed c.args.command.now) (λ u. c.in_ok-answer.answer) c.commit-ended.result c.commit-ended.ensures.refused)
