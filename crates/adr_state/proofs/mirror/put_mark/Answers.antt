use Rattle.std.proofs.Common.{subst, OnOk, ◌≡◌}
use Rattle.std.specs.BTreeMap.{insert_entry}
use Rattle.adr_state.specs.declared.keys.MirrorKey.{MirrorKey}
use Rattle.std.specs.declared.cmp.Ordering.{Ordering}
use Rattle.adr_state.proofs.KeyLemmas.{mirror_order}
use Rattle.adr_state.proofs.mirror.put_mark.Goals as goal

pub returns : goal.returns
returns c = subst (λ (cmp : MirrorKey → MirrorKey → Ordering). OnOk c.put.result (c.put.new.self ≡ insert_entry cmp c.args.mirror.now c.args.key c.args.mark)) mirror_order c.put.ensures.ok
