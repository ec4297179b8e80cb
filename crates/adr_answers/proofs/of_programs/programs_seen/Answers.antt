use Rattle.std.proofs.Common.{Ok, ap, sym, ◌∙◌}
use Rattle.adr_queries.specs.declared.answer.Answer.TheVariants as answer
use Rattle.adr_queries.specs.Listings.{page_of}
use Rattle.adr_answers.proofs.of_programs.programs_seen.Goals as goal

pub returns-clause-finds : goal.returns-clause-finds
returns-clause-finds g c clean kept was =
    let found = c.in_ok-found.ensures.finds clean kept was in
    (ap Ok (sym (c.in_ok-listed.ensures ∙ ap (λ all. answer.List (page_of c.args.page all)) (found.0 c.args.sight))), found.1)
