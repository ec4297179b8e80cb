use Rattle.std.proofs.Common.{refl}
use Rattle.adr_lent.proofs.WholeTables.{vens_query, vens_selected}
use Rattle.adr_lent.proofs.whole.lend_vens.Goals as goal

pub lend-requires : goal.lend-requires
lend-requires g c = vens_query

pub returns : goal.returns
returns g c = (
  (refl, c.lend.follows.holds, c.lend.follows.holds-at-none),
  record { refused = tt; same_reference = c.lend.ensures.same_reference; begun = c.lend.ensures.begun; selects = vens_selected g.S.Store c.args.conn.now },
)
