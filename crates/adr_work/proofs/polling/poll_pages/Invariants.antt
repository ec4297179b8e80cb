use Rattle.std.specs.Prelude.{false}
use Rattle.adr_lock.specs.Halting.{EndsByStore}
use Rattle.adr_work.proofs.Paging.{SoFar}
use Rattle.adr_work.proofs.polling.poll_pages.Given as goal

abbrev pub invariant-loop-i : goal.invariant-loop-i
invariant-loop-i g l = record {
  so_far : SoFar l.upstream l.kind (g.G.Gate.exchanges l.fn.gate) (g.G.Gate.exchanges l.gate) (g.T.Teller.memory l.fn.teller) (g.T.Teller.memory l.teller) l._i l.skip;
  ends : EndsByStore false (g.T.Teller.steps l.fn.teller) (g.T.Teller.steps l.teller);
}
