use Rattle.std.proofs.Common.{Ok, map, ap, sym, ◌∙◌}
use Rattle.adr_db.specs.Images.{image_kept}
use Rattle.adr_queries.specs.declared.answer.Answer.TheVariants as answer
use Rattle.adr_site_pages.specs.Laws.{told_resource}
use Rattle.adr_site_pages.proofs.SiteLemmas.{resources_told}
use Rattle.adr_site_pages.proofs.answers.resources_listed.Goals as goal

pub returns-clause-finds : goal.returns-clause-finds
returns-clause-finds g c clean kept was =
    let rows = c.in_ok-rows.ensures.finds clean kept was in
    (ap (λ objects. Ok (answer.List objects)) (resources_told (image_kept kept).base c.args.ven c.args.page ∙ sym (c.in_ok-objects_of.ensures ∙ ap (map told_resource) rows.0)), rows.1)
