use Rattle.std.proofs.Common.{ap}
use Rattle.std.proofs.lemmas.Result.{on_ok_weaker}
use Rattle.std.proofs.lemmas.Option.{IfSome_then}
use Rattle.adr_http.proofs.Desks.{serves, serves_part}
use Rattle.adr_http.proofs.desk_taker.serve_lent.Goals as goal

pub returns-clause-all : goal.returns-clause-all
returns-clause-all g c =
    let d = g.D.Desk in
    let before = c.args.taker.now in
    let after = c.serve.new.taker in
    on_ok_weaker c.serve.result
    (λ all. IfSome_then (g.S.Source.left c.args.source.now) all (λ bytes s sound.
    serves _ d.may_refuse (d.settings before.desk.now) before after (d.state before.desk.now) (d.state after.desk.now) before.now
    (λ a outcome took. took.1 sound) (λ same. ap (λ t. d.state t.desk.now) same) c.args.roles.now bytes _ _ s))
    c.serve.ensures.all

pub returns-clause-part : goal.returns-clause-part
returns-clause-part g c = λ is.
    let d = g.D.Desk in
    let before = c.args.taker.now in
    let after = c.serve.new.taker in
    IfSome_then (g.S.Source.left c.args.source.now) (c.serve.ensures.part is) (λ bytes s sound.
    serves_part _ d.may_refuse (d.settings before.desk.now) before after (d.state before.desk.now) (d.state after.desk.now) before.now
    (λ a outcome took. took.1 sound) (λ same. ap (λ t. d.state t.desk.now) same) c.args.roles.now bytes _ _ s)
