use Rattle.std.proofs.Common.{◌≡◌, ◌-◌, not, length, filter, refl, ap, subst, ◌∙◌, arith}
use Rattle.std.proofs.lemmas.List.{length-map}
use Rattle.std.proofs.lemmas.List.Filters.{length-filter_both}
use Rattle.adr_delivery.specs.Outboxes.{has_addressee}
use Rattle.adr_delivery.specs.Tallies.{plus}
use Rattle.adr_db.proofs.Common.{state, HasCleanDisk}
use Rattle.adr_db.proofs.Rises.{waiting_rises}
use Rattle.adr_db.specs.Kept.{Keeps}
use Rattle.adr_outbox.specs.Dropped.{without_entries}
use Rattle.adr_outbox.proofs.Lost.{others_stay}
use Rattle.adr_outbox.proofs.dropping.drop_lost.Goals as goal

pub returns-clause-drops : goal.returns-clause-drops
returns-clause-drops g c clean kept was same =
    let old = state g.S.Store c.args.tx.now.conn.now in
    let new = state g.S.Store c.remove_each.new.tx.conn.now in
    let before = c.args.meta.now in
    let es = kept.entries in
    let p = has_addressee kept.portfolio.subs in
    let early : HasCleanDisk (state g.S.Store c.read_lost.new.tx.conn.now) = omega (arith, c.remove_each.ensures.lent.stays.crash.clean) in
    let found = c.in_ok-lost.ensures.finds early kept was in
    let left = c.in_ok-remove_each.ensures.leaves clean kept found.1 in
    let stay : without_entries c.in_ok-lost.lost es ≡ filter p es = ap (λ ns. without_entries ns es) found.0 ∙ others_stay p es (waiting_rises kept old was) in
    let both = length-filter_both p (λ e. not (p e)) (λ e. refl) es in
    let lost : length c.in_ok-lost.lost ≡ length (filter (λ e. not (p e)) es) = ap length found.0 ∙ length-map _ _ in
    let many : c.len-many.result ≡ length es - length (filter p es) = omega (arith, c.len-many.ensures, lost, both) in
    let waiting : c.saturating_sub-meta.result ≡ length (filter p es) = omega (arith, c.saturating_sub-meta.ensures, same, many, both) in
    let dropped = c.plus-meta.ensures ∙ ap (plus before.counts.dropped) many in
    record {
      keeps = subst (λ es. Keeps (record kept { entries = es }) new) stay left;
      counted = λ i. record before { counts = record before.counts { dropped = dropped i }; pending = waiting i };
    }
