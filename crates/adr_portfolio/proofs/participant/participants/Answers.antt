use Rattle.std.proofs.Common.{ap, ◌∙◌}
use Rattle.adr_portfolio.specs.Parts.{parts_of}
use Rattle.adr_portfolio.proofs.participant.participants.Goals as goal

pub returns-clause-finds : goal.returns-clause-finds
returns-clause-finds g c clean kept was =
    let found = c.in_ok-those.ensures.finds clean kept was (c.none.ensures kept) in
    (c.in_ok-parts_of.ensures ∙ ap parts_of (c.as_slice.ensures ∙ found.0), found.2)
