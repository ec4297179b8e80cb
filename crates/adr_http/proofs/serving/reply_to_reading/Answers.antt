use Rattle.std.proofs.Common.{Ok}
use Rattle.std.proofs.lemmas.Result.{IfOk-weaker}
use Rattle.adr_request.specs.Requests.{request_parts}
use Rattle.adr_http.specs.Takers.{as_read}
use Rattle.adr_http.proofs.Served.{end_served}
use Rattle.adr_http.proofs.serving.reply_to_reading.Goals as goal

pub returns-in-Ok-clause-served : goal.returns-in-Ok-clause-served
returns-in-Ok-clause-served g c = λ bytes reading.
    as_read (Ok (request_parts c.in-Ok.request)) (rw c.in-Ok.is at reading) c.reply_to_request.ensures.replied

pub returns-in-Err-clause-served : goal.returns-in-Err-clause-served
returns-in-Err-clause-served g c =
    let t = g.T.Taker in
    IfOk-weaker c.reply_to_end.result _ _ (λ out told bytes reading. end_served t.takes (t.client c.args.taker.now) c.args.taker.now c.args.roles.now bytes _ c.in-Err.end (rw c.in-Err.is at reading) told) c.reply_to_end.ensures.told
