use Rattle.std.proofs.Common.{◌∙◌, ap}
use Rattle.std.specs.Map.{lookup}
use Rattle.std.specs.BTreeMap.{is_at}
use Rattle.adr_state.proofs.KeyLemmas.{view_order}
use Rattle.adr_view.proofs.view_map.row_at.Goals as goal

pub returns : goal.returns
returns g c = c.get.ensures ∙ ap (λ cmp. lookup (is_at (cmp c.args.key.now)) c.args.map.now) view_order
