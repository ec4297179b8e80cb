use Rattle.std.proofs.Common.{ap, ◌∙◌, rules}
use Rattle.adr_split.proofs.Ranks.{rank_in_sorted}
use Rattle.adr_split.proofs.ClaimLemmas.{claims_ordered, claims_apart}
use Rattle.adr_split.specs.Claims.{goes_before, rank_among}
use Rattle.adr_split.proofs.claims.at_rank.Goals as goal

pub returns : goal.returns
returns c =
    ap (rank_among c.args.claims.items) c.index.ensures
    ∙ rank_in_sorted goes_before claims_ordered c.args.claims.items c.sort_unstable.new.self.items c.sort_unstable.ensures.permutation (claims_apart c.args.claims.items c.requires.one_claim_a_place) c.sort_unstable.ensures.sorted c.args.rank c.index.result.now (search rules)
