use Rattle.std.proofs.Common.{ap}
use Rattle.std.proofs.lemmas.Result.{MatchResult-weaker, IfOk-weaker}
use Rattle.adr_request.specs.Requests.{request_parts}
use Rattle.adr_http.specs.Plans.{plan_of}
use Rattle.adr_http.proofs.Desks.{built, left}
use Rattle.adr_http.proofs.desk_taker.answer_lent.Goals as goal

pub returns-clause-ok : goal.returns-clause-ok
returns-clause-ok g c =
    let d = g.D.Desk in
    let before = c.args.taker.now in
    let after = c.answer_by.new.taker in
    let planned = plan_of c.args.roles.now (request_parts c.args.request.now) in
    IfOk-weaker c.answer_by.result _ _
    (λ out reply sound. built _ d.may_refuse (d.settings before.desk.now) before after (d.state before.desk.now) (d.state after.desk.now) before.now
    (λ a outcome took. took.1 sound) (λ same. ap (λ t. d.state t.desk.now) same) planned _ reply)
    c.answer_by.ensures.ok

pub returns-clause-err : goal.returns-clause-err
returns-clause-err g c =
    let d = g.D.Desk in
    let before = c.args.taker.now in
    let after = c.answer_by.new.taker in
    let planned = plan_of c.args.roles.now (request_parts c.args.request.now) in
    MatchResult-weaker c.answer_by.result c.answer_by.ensures.err (λ out h. tt)
    (λ fault leaves sound. left _ d.may_refuse (d.settings before.desk.now) before after (d.state before.desk.now) (d.state after.desk.now) before.now
    (λ a outcome took. took.1 sound) (λ same. ap (λ t. d.state t.desk.now) same) planned leaves)
