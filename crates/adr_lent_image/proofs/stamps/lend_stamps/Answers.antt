use Rattle.std.proofs.Common.{refl}
use Rattle.adr_lent_image.proofs.Queries.{stamps_query, stamps_selected}
use Rattle.adr_lent_image.proofs.stamps.lend_stamps.Goals as goal

pub lend-requires : goal.lend-requires
lend-requires g c = stamps_query

pub returns : goal.returns
returns g c = (
  (refl, c.lend.follows.holds, c.lend.follows.holds-at-none),
  record { refused = tt; same_reference = c.lend.ensures.same_reference; begun = c.lend.ensures.begun; selects = stamps_selected g.S.Store c.args.conn.now },
)
