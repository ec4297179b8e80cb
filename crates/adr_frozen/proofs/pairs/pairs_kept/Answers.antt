use Rattle.std.proofs.Common.{ap, map, ◌∙◌}
use Rattle.adr_state.specs.Frozen.{pair_of}
use Rattle.adr_frozen.proofs.pairs.pairs_kept.Goals as goal

pub returns-clause-finds : goal.returns-clause-finds
returns-clause-finds g c clean kept was =
    let shares = c.in_ok-shares.ensures.finds clean kept was in
    (c.in_ok-pairs_of.ensures ∙ ap (map pair_of) (c.as_slice.ensures ∙ shares.0), shares.1)
