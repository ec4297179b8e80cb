use Rattle.std.proofs.Common.{◌∙◌, ap}
use Rattle.std.specs.Map.{lookup}
use Rattle.std.specs.BTreeMap.{is_at}
use Rattle.adr_state.proofs.KeyLemmas.{mirror_order}
use Rattle.adr_state.proofs.mirror.mark_at.Goals as goal

pub returns : goal.returns
returns c = c.get.ensures ∙ ap (λ cmp. lookup (is_at (cmp c.args.key.now)) c.args.mirror.now) mirror_order
