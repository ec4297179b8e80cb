use Rattle.std.proofs.Common.{ap, length, ◌∙◌}
use Rattle.adr_counted.proofs.frozen.kept_for.Goals as goal

pub returns-clause-finds : goal.returns-clause-finds
returns-clause-finds g c clean kept was =
    let shares = c.in_ok-shares.ensures.finds clean kept was in
    (c.len.ensures ∙ ap length shares.0, shares.1)
