use Rattle.std.proofs.Common.{◌≡◌, take}
use Rattle.adr_split.specs.Limits.{AreShares}
use Rattle.adr_view.specs.Views.{weights_of}
use Rattle.adr_view.proofs.parts.weights_of.Given as goal

abbrev pub invariant-loop-p : goal.invariant-loop-p
invariant-loop-p l = record {
  value : l.weights.items ≡ weights_of (take l.p-index l.ps);
  shares : AreShares l.weights.items;
}
