use Rattle.std.specs.Prelude.{false, take}
use Rattle.adr_lock.specs.Halting.{EndsByStore}
use Rattle.adr_work.proofs.Probing.{Probed}
use Rattle.adr_work.proofs.polling.probe_each.Given as goal

abbrev pub invariant-loop-key : goal.invariant-loop-key
invariant-loop-key g l = record {
  probed : Probed l.upstream (g.G.Gate.exchanges l.fn.gate) (g.G.Gate.exchanges l.gate) (g.T.Teller.memory l.fn.teller) (g.T.Teller.memory l.teller) (take l.key-index l.keys);
  ends : EndsByStore false (g.T.Teller.steps l.fn.teller) (g.T.Teller.steps l.teller);
}
