use Rattle.std.proofs.Common.{◌≡◌, map, drop}
use Rattle.serde_json.specs.View.{view}
use Rattle.adr_text.specs.Fields.{each}
use Rattle.adr_text.proofs.Each.{with_front}
use Rattle.adr_config.specs.Grants.{token_in}
use Rattle.adr_config.proofs.grants.tokens_in.Given as goal

-- the items so far and those that are left are all of them
abbrev pub invariant-loop-i : goal.invariant-loop-i
invariant-loop-i l = with_front l.said.items (each token_in (map view (drop l.i l.items))) ≡ each token_in (map view l.items)
