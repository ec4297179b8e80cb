use Rattle.std.proofs.Common.{◌≡◌, ◌⊎◌, ◌<◌, true, length, Err, sym, ap, subst, ◌∙◌}
use Rattle.adr_text.specs.declared.refusal.Refusal.TheVariants.{Exhausted, OutboxFull}
use Rattle.adr_db.proofs.Common.{state}
use Rattle.adr_db.proofs.Results.{on_then}
use Rattle.adr_db.specs.Images.{outbox_of}
use Rattle.adr_db.specs.Kept.{Keeps}
use Rattle.adr_outbox.specs.Appended.{further, IsAppended}
use Rattle.adr_room.specs.declared.room.Room.{Room}
use Rattle.adr_room.proofs.Come.{positive, was_enough, was_fit, now_kept, come_more}
use Rattle.adr_room.proofs.room.Room.add.Goals as goal

pub returns-clause-adds : goal.returns-clause-adds
returns-clause-adds g c clean =
    let limits = c.args.limits.now in
    let fs = c.args.entries.now in
    let numbers = c.args.meta.now in
    let later = c.write.new.meta in
    let before = c.args.self.now in
    let after = c.write.new.self in
    let new = state g.S.Store c.write.new.tx.conn.now in
    let some : 0 < length fs = positive (length fs) (sym (c.if-is_empty.ensures)) in
    let enough = ap (λ (r : Room). r.is_short) (sym c.take.ensures) ∙ c.if-self.false in
    let fit = ap (λ (r : Room). r.is_full) (sym c.take.ensures) ∙ c.if-self-2.false in
    on_then c.write.result (λ writes first kept es waits drawn so.
    let there = now_kept limits first es fs some kept numbers later (state g.S.Store c.args.tx.now.conn.now) new drawn waits (so.written (was_enough limits first es fs some before enough, was_fit limits first es fs some before fit)) in
    come_more limits first es fs some kept numbers later (state g.S.Store c.args.tx.now.conn.now) new before after there.0 so.come.left fit there.1
    (subst (λ (r : Room).
    ((after ≡ r) × IsAppended limits fs numbers later there.0 new)
    ⊎ ((after ≡ record r { is_full = true }) × (further limits numbers.serial fs (outbox_of numbers there.0) ≡ Err OutboxFull) × Keeps there.0 new)
    ⊎ ((after ≡ record r { is_short = true }) × (further limits numbers.serial fs (outbox_of numbers there.0) ≡ Err Exhausted) × Keeps there.0 new))
    c.take.ensures (writes there.0 there.1.held there.1.pending)))
    (c.write.ensures.writes clean)
