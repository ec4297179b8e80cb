use Rattle.std.proofs.lemmas.Result.{on_ok_weaker}
use Rattle.std.proofs.lemmas.Option.{IfSome_then}
use Rattle.adr_http.proofs.Mapped.{once, serves, serves_part}
use Rattle.adr_server.specs.Outcomes.{AsksOffice}
use Rattle.adr_server.proofs.office_taker.serve_lent.Goals as goal

pub returns-clause-once : goal.returns-clause-once
returns-clause-once g c =
    let before = c.args.taker.now in
    once _ (AsksOffice before.office.now (g.C.Clock.tells before.clock.now)) (λ t. t.pass.now) before c.serve.new.taker (λ a outcome took. took.3) c.serve.ensures.once

pub returns-clause-all : goal.returns-clause-all
returns-clause-all g c =
    let before = c.args.taker.now in
    on_ok_weaker c.serve.result
    (λ all. IfSome_then (g.S.Source.left c.args.source.now) all (λ bytes s.
    serves _ (AsksOffice before.office.now (g.C.Clock.tells before.clock.now)) (λ t. t.pass.now) before c.serve.new.taker (λ a outcome took. took.3) before.shared.now.client c.args.shared.now.roles bytes _ _ s))
    c.serve.ensures.all

pub returns-clause-part : goal.returns-clause-part
returns-clause-part g c = λ is.
    let before = c.args.taker.now in
    IfSome_then (g.S.Source.left c.args.source.now) (c.serve.ensures.part is) (λ bytes s.
    serves_part _ (AsksOffice before.office.now (g.C.Clock.tells before.clock.now)) (λ t. t.pass.now) before c.serve.new.taker (λ a outcome took. took.3) before.shared.now.client c.args.shared.now.roles bytes _ _ s)
