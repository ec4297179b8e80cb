use Rattle.std.proofs.Common.{refl}
use Rattle.adr_missed.proofs.Queries.{unseen_query, unseen_selected}
use Rattle.adr_missed.proofs.unseen.lend_unseen.Goals as goal

pub lend-requires : goal.lend-requires
lend-requires g c = unseen_query

pub returns : goal.returns
returns g c = (
  (refl, c.lend.follows.holds, c.lend.follows.holds-at-none),
  record { refused = tt; same_reference = c.lend.ensures.same_reference; begun = c.lend.ensures.begun; selects = unseen_selected g.S.Store c.args.conn.now },
)
