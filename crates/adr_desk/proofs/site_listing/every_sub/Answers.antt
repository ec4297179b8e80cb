use Rattle.std.proofs.Common.{Ok, map, ap, sym, ◌∙◌}
use Rattle.adr_held.specs.Held.{kept_of}
use Rattle.adr_queries.specs.declared.answer.Answer.TheVariants as answer
use Rattle.adr_queries.specs.Replies.{reply}
use Rattle.adr_site_pages.specs.Laws.{told_sub}
use Rattle.adr_site_pages.proofs.SiteLemmas.{every_sub_told}
use Rattle.adr_desk.proofs.site_listing.every_sub.Goals as goal

pub returns-clause-tells : goal.returns-clause-tells
unfolding reply
returns-clause-tells g c clean held was =
    let rows = c.in_ok-rows.ensures.finds clean (kept_of held) was.keeps in
    ap (λ objects. Ok (answer.List objects)) (every_sub_told held.base.portfolio c.args.filter.now c.args.part ∙ sym (c.in_ok-objects_of.ensures ∙ ap (map told_sub) rows.0))
