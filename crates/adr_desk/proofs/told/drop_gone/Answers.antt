use Rattle.std.proofs.Common.{◌≡◌, ◌-◌, true, false, length, filter, sym, ap, subst, ◌∙◌, arith}
use Rattle.adr_delivery.specs.Outboxes.{has_addressee}
use Rattle.adr_delivery.specs.Tallies.{plus}
use Rattle.adr_view.proofs.ListLemmas.{filter_alike}
use Rattle.adr_db.proofs.Common.{state}
use Rattle.adr_db.specs.Kept.{Keeps}
use Rattle.adr_machine.specs.Edits.{unsubscribes}
use Rattle.adr_commit.proofs.Ended.{plus_none}
use Rattle.adr_desk.proofs.told.drop_gone.Goals as goal

pub returns-clause-drops : goal.returns-clause-drops
returns-clause-drops g c clean kept was pending each =
    let before = c.args.meta.now in
    let es = kept.entries in
    let p = has_addressee kept.portfolio.subs in
    let keeps : unsubscribes c.args.command.now ≡ false = sym c.unsubscribes.ensures ∙ c.if-unsubscribes.false in
    let same : filter p es ≡ es = filter_alike p true es (each keeps) in
    let waiting : before.pending ≡ length (filter p es) = pending ∙ ap length (sym same) in
    let none : length es - length (filter p es) ≡ 0 = omega (arith, pending, waiting) in
    let dropped : before.counts.dropped ≡ plus before.counts.dropped (length es - length (filter p es)) = sym (ap (plus before.counts.dropped) none ∙ plus_none before.counts.dropped c.get-dropped.ensures.within) in
    record {
      keeps = subst (λ es. Keeps (record kept { entries = es }) (state g.S.Store c.args.tx.now.conn.now)) (sym same) was;
      counted = λ i. record before { counts = record before.counts { dropped = dropped i }; pending = waiting i };
    }
