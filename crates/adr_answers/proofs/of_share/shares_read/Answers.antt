use Rattle.std.proofs.Common.{ap, filter, map, ◌∙◌}
use Rattle.std.specs.Str.{bytes_eq}
use Rattle.adr_state.specs.Shares.{share_object}
use Rattle.adr_queries.specs.declared.answer.Answer.TheVariants as answer
use Rattle.adr_queries.specs.declared.answer.Object.TheVariants as object
use Rattle.adr_answers.proofs.of_share.shares_read.Goals as goal

pub returns-clause-finds : goal.returns-clause-finds
returns-clause-finds g c clean kept was =
    let shares = c.in_ok-shares.ensures.finds clean kept was in
    (ap answer.List (c.from_vec.ensures ∙ c.in_ok-shares_of.ensures ∙ ap (λ all. map (λ s. object.Share (share_object s)) (filter (λ s. bytes_eq s.0.program c.args.program.now) all)) shares.0), shares.1)
