use Rattle.std.proofs.Common.{◌≡◌, ◌+◌, length, Ok, Err, Result, IfOk, OnOk, sym, ap, ◌∙◌}
use Rattle.std.proofs.lemmas.List.FromFn.{length-enumerate_from}
use Rattle.adr_text.specs.Refusals.{◌>>=◌}
use Rattle.adr_text.specs.declared.refusal.Refusal.{Refusal}
use Rattle.adr_delivery.specs.Outboxes.{check_room, appended}
use Rattle.adr_delivery.specs.Tallies.{plus}
use Rattle.adr_notices.specs.Committed.{numbered, with_further}
use Rattle.adr_db.specs.declared.meta.Meta.{Meta}
use Rattle.adr_db.specs.Images.{outbox_of}
use Rattle.adr_outbox.specs.Appended.{with_drawn}
use Rattle.adr_outbox.proofs.appending.append.Goals as goal

on_from : {T E X : Type 0} {P : T → Type 0} (r : Result T E) → ((x : T) → P x → X) → IfOk r P → OnOk r X
on_from (Ok x) f h = f x h
on_from (Err e) f h = tt

pub returns-clause-appends : goal.returns-clause-appends
returns-clause-appends g c clean =
    let before = c.args.meta.now in
    let limits = c.args.limits.now in
    let entries = c.args.entries.now in
    on_from c.append_each.result (λ x turns kept was same.
    let o = outbox_of before kept in
    let room : check_room limits.serial limits.pending before.serial (length kept.entries) (length entries) ≡ Ok tt =
    ap (λ n. check_room limits.serial limits.pending before.serial n (length entries)) (sym same) ∙ sym (rw (c.get.ensures.value, c.get-2.ensures.value, c.get-3.ensures.value) at c.in_ok-check_room.ensures) in
    let both = turns kept was in
    let made = c.plus-meta.ensures in
    record {
      outbox = appended (numbered before.serial entries) o;
      serial = before.serial + length entries;
      decided = ap (λ (r : Result Unit Refusal). r >>= λ _. Ok (with_further before.serial entries o)) room;
      keeps = both.1;
      counted = both.0 same ∙ ap (λ n. let after : Meta = with_drawn (length entries) (length (appended (numbered before.serial entries) o).entries) (record before { counts = record before.counts { made = n } }) in after) (made ∙ ap (plus before.counts.made) (sym (length-enumerate_from (before.serial + 1) entries)));
    }) (c.append_each.ensures.turns clean)
