use Rattle.std.proofs.Common.{Ok}
use Rattle.std.specs.Prelude.{take}
use Rattle.adr_db.proofs.Common.{Refusal, LeavesLent}
use Rattle.adr_db.specs.Calls.{LeavesKept}
use Rattle.adr_db.specs.Kept.{with_portfolio}
use Rattle.adr_counted.specs.Frozen.{with_pairs_put}
use Rattle.adr_counted.proofs.frozen.put_pairs.Given as goal

-- the pairs so far are kept
abbrev pub invariant-pairs : goal.invariant-pairs
invariant-pairs g l = record {
  lent : LeavesLent g.S.Store l.fn.tx.conn l.tx.conn {T = Unit {0}} {E = Refusal} (Ok tt);
  put : LeavesKept g.S.Store l.fn.tx.conn.now l.tx.conn.now {T = Unit {0}} {E = Refusal} (with_portfolio (with_pairs_put l.event (take l.pair-index l.pairs))) (Ok tt);
}
