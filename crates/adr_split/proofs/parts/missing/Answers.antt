use Rattle.std.proofs.Common.{arith}
use Rattle.adr_split.proofs.QuotaLemmas.{fewer_than_shares}
use Rattle.adr_split.proofs.parts.missing.Goals as goal

pub returns-clause-fewer_than_shares : goal.returns-clause-fewer_than_shares
returns-clause-fewer_than_shares c =
    fewer_than_shares c.args.amount c.args.total c.loop-share.given c.loop-share.share-index c.args.shares.now c.requires.whole c.requires.some_total (omega arith) c.loop-share.invariant
