use Rattle.std.proofs.Common.{refl, sym}
use Rattle.adr_db.proofs.Common.{PutSub}
use Rattle.adr_subs.proofs.posting.put_kept.Goals as goal

pub returns-clause-carries : goal.returns-clause-carries
returns-clause-carries g c clean beside base was same there = record {
  change = PutSub c.args.number c.args.sub;
  decided = rw c.told.ensures refl;
  left = c.in_ok-put_sub.ensures.counts clean beside base was same (sym there);
}
