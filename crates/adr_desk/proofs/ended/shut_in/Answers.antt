use Rattle.std.proofs.Common.{rules}
use Rattle.adr_db.proofs.Common.{state, Commits}
use Rattle.adr_state.specs.declared.state.State.{State}
use Rattle.adr_held.specs.Held.{HoldsState}
use Rattle.adr_machine.specs.declared.command.Command.TheVariants.{ScanEnd}
use Rattle.adr_machine.specs.Listed.{listed}
use Rattle.adr_desk.specs.Ends.{HasMissed, StepsMissed}
use Rattle.adr_desk.specs.Steps.{step_by, HoldsStepped, LeftStepped}
use Rattle.adr_desk.proofs.Applied.{moved}
use Rattle.adr_desk.proofs.DroppedLemmas.{shut_whole, shut_makes}
use Rattle.adr_desk.proofs.ListedLemmas.{told_store}
use Rattle.adr_desk.proofs.ended.shut_in.Goals as goal

-- the connection after the commit is the one that the function leaves
pub returns-clause-whole : goal.returns-clause-whole
returns-clause-whole g c =
    let old = c.args.conn.now in
    let keys = c.args.keys in
    let step = step_by c.args.settings.now c.args.now ScanEnd in
    moved (λ end. Commits g.S.Store old end (λ s. (held : State) → HoldsState held (state g.S.Store old) → HasMissed keys held → HoldsStepped step held s) (λ trees. (held : State) → HoldsState held (state g.S.Store old) → HasMissed keys held → LeftStepped step held trees) c.after.result) c.commit-ended.new.tx.0 _ (search rules)
    (shut_whole g.S.Store old c.begin-tx.result.conn.now c.ended.new.tx.conn.now c.commit-ended.new.tx.0 keys step c.in_ok-answer.answer c.commit-ended.result c.after.result
    c.begin-tx.ensures.begun c.in_ok-answer.ensures.lent.stays c.in_ok-answer.ensures.makes c.commit-ended.ensures.ends c.after.ensures)

pub returns-clause-makes : goal.returns-clause-makes
returns-clause-makes g c =
    let keys = c.args.keys in
    moved (λ end. StepsMissed keys (step_by c.args.settings.now c.args.now ScanEnd) (state g.S.Store c.args.conn.now) (state g.S.Store end) c.after.result) c.commit-ended.new.tx.0 c.conn-2-1.given.0 (search rules)
    (shut_makes g.S.Store c.args.conn.now c.begin-tx.result.conn.now c.ended.new.tx.conn.now c.commit-ended.new.tx.0 keys (step_by c.args.settings.now c.args.now ScanEnd) c.in_ok-answer.answer c.commit-ended.result c.after.result
    c.begin-tx.ensures.begun c.in_ok-answer.ensures.makes c.commit-ended.ensures.ends c.after.ensures)

pub returns-clause-listed : goal.returns-clause-listed
returns-clause-listed g c = rw c.after.ensures (told_store (listed ScanEnd) (λ u. c.in_ok-answer.answer) c.commit-ended.result c.commit-ended.ensures.refused)
