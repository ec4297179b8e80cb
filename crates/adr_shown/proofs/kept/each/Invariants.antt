use Rattle.std.proofs.Common.{◌≡◌, map, drop}
use Rattle.serde_json.specs.View.{view}
use Rattle.adr_text.specs.Fields.{each}
use Rattle.adr_text.proofs.Each.{with_front}
use Rattle.adr_shown.proofs.kept.each.Given as goal

-- the items so far and those that are left are all of them
abbrev pub invariant-loop-v : goal.invariant-loop-v
invariant-loop-v g l = with_front l.items.items (each g.T.Kept.of (map view (drop l.v-index l.values))) ≡ each g.T.Kept.of (map view l.values)
