use Rattle.std.proofs.Common.{map, drop}
use Rattle.serde_json.specs.View.{view}
use Rattle.adr_config.proofs.Calling.{Reads}
use Rattle.adr_config.proofs.callbacks.networks.Given as goal

abbrev pub invariant-loop-value : goal.invariant-loop-value
invariant-loop-value l = Reads (map view l.values) (map view (drop l.value-index l.values)) l.networks
