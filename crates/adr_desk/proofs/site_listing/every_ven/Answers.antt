use Rattle.std.proofs.Common.{Ok, map, ap, sym, ◌∙◌}
use Rattle.adr_held.specs.Held.{kept_of}
use Rattle.adr_queries.specs.declared.answer.Answer.TheVariants as answer
use Rattle.adr_queries.specs.Replies.{reply}
use Rattle.adr_site_pages.specs.Laws.{told_ven}
use Rattle.adr_site_pages.proofs.SiteLemmas.{every_ven_told}
use Rattle.adr_desk.proofs.site_listing.every_ven.Goals as goal

pub returns-clause-tells : goal.returns-clause-tells
unfolding reply
returns-clause-tells g c clean held was =
    let rows = c.in_ok-rows.ensures.finds clean (kept_of held) was.keeps in
    ap (λ objects. Ok (answer.List objects)) (every_ven_told held.base c.args.part ∙ sym (c.in_ok-objects_of.ensures ∙ ap (map told_ven) rows.0))
