use Rattle.std.proofs.Common.{ap, ◌∙◌}
use Rattle.std.proofs.lemmas.Result.{MatchResult-weaker, IfOk-weaker}
use Rattle.adr_state.specs.declared.limits.Settings.{Settings}
use Rattle.adr_script.specs.Bodies.{outcome_text}
use Rattle.adr_script.proofs.Turns.{printed_is_a_turn, outcome_leaves}
use Rattle.adr_script.proofs.turn.answer_asked.Goals as goal

-- the desk is set to after the step what it was set to before
pub returns-clause-ok : goal.returns-clause-ok
returns-clause-ok g c =
    let role = c.args.role.now in
    let asked = c.args.asked.now in
    let same = c.settings.ensures ∙ c.take_asked-outcome.ensures.same_settings in
    let named = ap (λ (settings : Settings). outcome_text settings.client role asked c.take_asked-outcome.result) same in
    IfOk-weaker c.outcome_text.result _ _ (λ text printed sound. printed_is_a_turn _ role asked (printed ∙ named) (c.take_asked-outcome.ensures.outcome sound)) c.outcome_text.ensures

pub returns-clause-err : goal.returns-clause-err
returns-clause-err g c =
    MatchResult-weaker c.outcome_text.result c.outcome_text.ensures (λ text printed. tt) (λ fault _ sound. outcome_leaves (g.D.Desk.settings c.args.desk.now).client c.args.role.now c.args.asked.now (c.take_asked-outcome.ensures.outcome sound))
