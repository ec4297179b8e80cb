use Rattle.std.proofs.Common.{◌≡◌, subst, OnOk}
use Rattle.std.specs.BTreeMap.{insert_entry}
use Rattle.std.specs.declared.cmp.Ordering.{Ordering}
use Rattle.adr_state.specs.declared.keys.ViewKey.{ViewKey}
use Rattle.adr_state.proofs.KeyLemmas.{view_order}
use Rattle.adr_view.proofs.view_map.put_row.Goals as goal

pub returns : goal.returns
returns g c = subst (λ (cmp : ViewKey → ViewKey → Ordering). OnOk c.put.result (c.put.new.self ≡ insert_entry cmp c.args.map.now c.args.key c.args.value)) view_order c.put.ensures.ok
