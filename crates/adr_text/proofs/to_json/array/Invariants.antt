use Rattle.std.proofs.Common.{◌≡◌, map, take, All}
use Rattle.serde_json.specs.View.{view}
use Rattle.adr_text.proofs.to_json.array.Given as goal

abbrev pub invariant-loop-item : goal.invariant-loop-item
invariant-loop-item g l = record {
  values : map view l.values.items ≡ map g.T.ToJson.json (take l.item-index l.items);
  kept : All g.T.ToJson.keeps (take l.item-index l.items);
}
