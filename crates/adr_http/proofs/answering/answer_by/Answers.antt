use Rattle.std.proofs.lemmas.Result.{MatchResult-weaker, IfOk-weaker}
use Rattle.adr_request.specs.Requests.{request_parts}
use Rattle.adr_http.specs.Plans.{plan_of}
use Rattle.adr_http.proofs.Served.{built_by_plan, left_by_plan}
use Rattle.adr_http.proofs.answering.answer_by.Goals as goal

-- what was planned stands for the plan
pub returns-clause-ok : goal.returns-clause-ok
returns-clause-ok g c =
    let t = g.T.Taker in
    let planned = plan_of c.args.roles.now (request_parts c.args.request.now) in
    rw c.without.ensures (IfOk-weaker c.answer_plan-bytes.result _ _ (λ out built. built_by_plan t.takes (t.client c.args.taker.now) c.args.taker.now planned _ c.plan_seen-plan.result _ c.plan_seen-plan.ensures built) c.answer_plan-bytes.ensures.ok)

pub returns-clause-err : goal.returns-clause-err
returns-clause-err g c =
    let t = g.T.Taker in
    let planned = plan_of c.args.roles.now (request_parts c.args.request.now) in
    rw c.without.ensures (MatchResult-weaker c.answer_plan-bytes.result c.answer_plan-bytes.ensures.err (λ out h. tt) (λ fault leaves. left_by_plan t.takes (t.client c.args.taker.now) c.args.taker.now planned _ c.plan_seen-plan.result c.plan_seen-plan.ensures leaves))
