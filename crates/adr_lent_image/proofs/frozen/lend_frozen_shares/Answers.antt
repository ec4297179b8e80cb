use Rattle.std.proofs.Common.{refl}
use Rattle.adr_lent_image.proofs.Queries.{frozen_shares_query, frozen_shares_selected}
use Rattle.adr_lent_image.proofs.frozen.lend_frozen_shares.Goals as goal

pub lend-requires : goal.lend-requires
lend-requires g c = frozen_shares_query

pub returns : goal.returns
returns g c = (
  (refl, c.lend.follows.holds, c.lend.follows.holds-at-none),
  record { refused = tt; same_reference = c.lend.ensures.same_reference; begun = c.lend.ensures.begun; selects = frozen_shares_selected g.S.Store c.args.conn.now },
)
