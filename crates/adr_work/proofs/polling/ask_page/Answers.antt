use Rattle.std.proofs.Common.{refl, ap, ◌∙◌, ◌∷◌, []}
use Rattle.adr_work.specs.Exchanges.{to_utility}
use Rattle.adr_work.proofs.Paging.{reads_none, page_asked}
use Rattle.adr_work.proofs.polling.ask_page.Goals as goal

pub returns-in_err-page-clause-page : goal.returns-in_err-page-clause-page
returns-in_err-page-clause-page g c =
    let came = c.ask-came.result in
    let r = c.from_residual-in_err-page.result in
    page_asked c.args.upstream.now c.args.kind c.args.skip (g.G.Gate.exchanges c.args.gate.now) (g.G.Gate.exchanges c.ask-came.new.self)
    c.to_utility-request.result came r (c.to_utility-request.ensures ∙ ap to_utility c.in_ok-page_request.ensures) c.ask-came.ensures
    (reads_none c.args.kind r (came ∷ []) c.from_residual-in_err-page.ensures.0)

pub returns-clause-page : goal.returns-clause-page
returns-clause-page g c =
    let came = c.ask-came.result in
    page_asked c.args.upstream.now c.args.kind c.args.skip (g.G.Gate.exchanges c.args.gate.now) (g.G.Gate.exchanges c.ask-came.new.self)
    c.to_utility-request.result came _ (c.to_utility-request.ensures ∙ ap to_utility c.in_ok-page_request.ensures) c.ask-came.ensures
    (came, refl, c.in_ok-page.ensures.page)
