use Rattle.std.proofs.Common.{◌+◌, map, drop, sym, subst}
use Rattle.serde_json.specs.View.{view}
use Rattle.adr_config.proofs.Calling.{Reads, reads_at, reads_end, reads_more, reads_not}
use Rattle.adr_config.proofs.callbacks.networks.Goals as goal

pub returns-in-Err-clause-err : goal.returns-in-Err-clause-err
returns-in-Err-clause-err c =
    reads_not (map view c.args.values.now) (map view (drop (c.loop-value.value-index + 1) c.args.values.now)) (view c.value-item.result) c.loop-value.networks c.in-Err.fault
    (reads_at view c.args.values.now c.loop-value.value-index c.value-item.result (map view c.args.values.now) c.loop-value.networks c.loop-value-test.true c.value-item.is c.loop-value.invariant)
    c.in-Err.ensures.err

pub loop-value-preserved : goal.loop-value-preserved
loop-value-preserved c =
    subst (λ networks. Reads (map view c.args.values.now) (map view (drop (c.loop-value.value-index + 1) c.args.values.now)) networks) (sym c.in_ok-push-in-Ok.ensures.ok)
    (reads_more (map view c.args.values.now) (map view (drop (c.loop-value.value-index + 1) c.args.values.now)) (view c.value-item.result) c.loop-value.networks c.in-Ok.network
    (reads_at view c.args.values.now c.loop-value.value-index c.value-item.result (map view c.args.values.now) c.loop-value.networks c.loop-value-test.true c.value-item.is c.loop-value.invariant)
    c.in-Ok.ensures.ok)

pub returns-clause-ok : goal.returns-clause-ok
returns-clause-ok c = reads_end view c.args.values.now c.loop-value.value-index (map view c.args.values.now) c.loop-value.networks c.loop-value-test.false c.loop-value.invariant
