use Rattle.std.proofs.Common.{[], sym, subst}
use Rattle.std.proofs.lemmas.Result.{IfErr-weaker}
use Rattle.adr_db.proofs.Common.{state, Holds, no_schema}
use Rattle.adr_state.specs.declared.state.State.{State}
use Rattle.adr_state.specs.States.{empty}
use Rattle.adr_held.specs.Held.{AreLeftWith}
use Rattle.adr_db.proofs.Results.{on_then}
use Rattle.adr_desk.specs.declared.ready.Start.{Start}
use Rattle.adr_desk.specs.Preparing.{Becomes}
use Rattle.adr_desk.proofs.Readied.{survives_as, state_known}
use Rattle.adr_desk.proofs.ready.prepare.Goals as goal

pub returns-in-New-clause-crash : goal.returns-in-New-clause-crash
returns-in-New-clause-crash g c =
    let old = state g.S.Store c.args.conn.now in
    survives_as old (state g.S.Store c.create_in.new.conn) (λ trees. Holds no_schema [] old → AreLeftWith empty trees) (λ trees. (held : State) → Becomes c.args.start held old → AreLeftWith held trees)
    (λ trees left held becomes. let made = subst (λ (start : Start). Becomes start held old) c.in-New.is becomes in subst (λ (h : State). AreLeftWith h trees) (sym made.0) (left made.1)) c.create_in.ensures.whole.crash

pub returns-in-Kept-clause-made : goal.returns-in-Kept-clause-made
returns-in-Kept-clause-made g c clean =
    let old = state g.S.Store c.args.conn.now in
    on_then c.upgrade_in.result (λ done held becomes. done.0.holds held (subst (λ (start : Start). Becomes start held old) c.in-Kept.is becomes)) (c.upgrade_in.ensures.whole.done clean)

pub returns-in-Kept-clause-known : goal.returns-in-Kept-clause-known
returns-in-Kept-clause-known g c clean = on_then c.upgrade_in.result (λ done kept. done.0.known) (c.upgrade_in.ensures.whole.done clean)

pub returns-in-Kept-clause-unknown : goal.returns-in-Kept-clause-unknown
returns-in-Kept-clause-unknown g c clean =
    IfErr-weaker c.upgrade_in.result _ _ (λ refusal unknown is held. state_known held (state g.S.Store c.args.conn.now) (unknown is)) (c.upgrade_in.ensures.unknown clean)
