use Rattle.std.proofs.Common.{refl, ap, ◌∙◌}
use Rattle.std.proofs.lemmas.Result.{MatchResult-weaker, IfOk-weaker}
use Rattle.adr_http.specs.Serving.{outcome_bytes}
use Rattle.adr_http.specs.Takers.{of_outcome, was_taken, taken}
use Rattle.adr_http.proofs.answering.answer_asked.Goals as goal

-- the node answers under the name that it had before
pub returns-clause-ok : goal.returns-clause-ok
returns-clause-ok g c =
    let asked = c.args.asked.now in
    let outcome = c.take-outcome.result in
    let named = ap (λ client. outcome_bytes client asked outcome) (c.client.ensures ∙ c.take-outcome.ensures.same_client) in
    IfOk-weaker c.outcome_bytes.result _ _ (λ out told. of_outcome asked outcome refl c.take-outcome.ensures.takes (told ∙ named)) c.outcome_bytes.ensures

pub returns-clause-err : goal.returns-clause-err
returns-clause-err g c =
    MatchResult-weaker c.outcome_bytes.result c.outcome_bytes.ensures (λ out told. tt) (λ fault _. was_taken c.args.asked.now c.take-outcome.result refl c.take-outcome.ensures.takes)

pub returns-clause-once : goal.returns-clause-once
returns-clause-once g c = taken c.args.asked.now c.take-outcome.result c.take-outcome.ensures.takes
