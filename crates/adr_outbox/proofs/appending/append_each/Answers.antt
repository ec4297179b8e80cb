use Rattle.std.proofs.Common.{◌≡◌, ◌+◌, drop, length, refl, sym, ap, subst, ◌∙◌, arith}
use Rattle.std.proofs.lemmas.List.{drop_all}
use Rattle.adr_delivery.specs.Outboxes.{with_entries}
use Rattle.adr_notices.specs.Committed.{numbered}
use Rattle.adr_db.proofs.Common.{state, HasCleanDisk, lent_itself, lent_then, insert_entry, nat_cmp}
use Rattle.adr_db.specs.declared.meta.Meta.{Meta}
use Rattle.adr_db.specs.Kept.{Keeps}
use Rattle.adr_outbox.proofs.Further.{first_put}
use Rattle.adr_outbox.proofs.appending.append_each.Goals as goal

pub entries-init : goal.entries-init
entries-init g c = record {
  lent = lent_itself g.S.Store _ _;
  drawn = omega arith;
  few = omega arith;
  others = refl;
  put = λ clean kept was. (kept.entries, was, λ same. same, refl);
}

-- one entry more
pub entries-preserved : goal.entries-preserved
entries-preserved g c =
    let old = c.args.tx.now.conn.now in
    let next = c.append_one.new.tx.conn.now in
    let serial = c.in_ok-append_one.ensures.drawn in
    record {
      lent = lent_then g.S.Store _ _ _ _ _ c.entries.invariant.lent c.in_ok-append_one.ensures.lent;
      drawn = omega (arith, serial, c.entries.invariant.drawn);
      few = omega (arith, c.in_ok-append_one.ensures.few, c.entries.invariant.few);
      others = c.in_ok-append_one.ensures.others ∙ ap (λ (m : Meta). let after : Meta = record m { serial = c.append_one.new.meta.serial; pending = c.append_one.new.meta.pending } in after) c.entries.invariant.others;
      put = λ clean kept was.
          let early : HasCleanDisk (state g.S.Store c.entries.tx.conn.now) = omega (arith, c.append_one.ensures.lent.stays.crash.clean) in
          let so_far = c.entries.invariant.put early kept was in
          let now = so_far.0 in
          let step = c.in_ok-append_one.ensures.turns clean (record kept { entries = now }) so_far.1 in
          let counted : c.args.meta.now.pending ≡ length kept.entries → c.append_one.new.meta.pending ≡ length (insert_entry nat_cmp now (c.entries.meta.serial + 1) c.entry-item.result) = λ same. ap (λ (m : Meta). m.pending) (step.0 (so_far.2 same)) in
          let made = sym (first_put c.entries.meta.serial c.entries.entry-index c.args.entries.now c.entry-item.result now c.entries-test.true c.entry-item.is) ∙ so_far.3 in
          (insert_entry nat_cmp now (c.entries.meta.serial + 1) c.entry-item.result, step.1, counted, ap (λ n. with_entries (numbered n (drop (c.entries.entry-index + 1) c.args.entries.now)) (insert_entry nat_cmp now (c.entries.meta.serial + 1) c.entry-item.result)) serial ∙ made);
    }

pub returns-clause-turns : goal.returns-clause-turns
returns-clause-turns g c clean kept was =
    let before = c.args.meta.now in
    let entries = c.args.entries.now in
    let done = c.entries.invariant.put clean kept was in
    let left = drop_all c.entries.entry-index entries (omega (arith, c.entries-test.false)) in
    let is : done.0 ≡ with_entries (numbered before.serial entries) kept.entries = ap (λ left. with_entries (numbered c.entries.meta.serial left) done.0) (sym left) ∙ done.3 in
    let serial : c.entries.meta.serial ≡ before.serial + length entries = omega (arith, c.entries.invariant.drawn, c.entries-test.false, c.entries.auto.entry-index-end) in (
      λ same. let waiting = done.2 same ∙ ap length is in c.entries.invariant.others ∙ (λ i. record before { serial = serial i; pending = waiting i }),
      subst (λ es. Keeps (record kept { entries = es }) (state g.S.Store c.entries.tx.conn.now)) is done.1,
    )
