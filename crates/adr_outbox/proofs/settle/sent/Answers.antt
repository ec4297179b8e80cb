use Rattle.std.proofs.Common.{Ok, ap, ◌∙◌, arith}
use Rattle.std.specs.Option.{option_copied}
use Rattle.adr_text.specs.Refusals.{◌>>=◌}
use Rattle.adr_delivery.specs.Outboxes.{with_remote, sent_at}
use Rattle.adr_db.proofs.Common.{state, HasCleanDisk}
use Rattle.adr_db.specs.Images.{outbox_of}
use Rattle.adr_outbox.specs.Told.{done}
use Rattle.adr_outbox.proofs.Waiting.{one_less, leased_there}
use Rattle.adr_outbox.proofs.settle.sent.Goals as goal

pub returns-clause-turns : goal.returns-clause-turns
returns-clause-turns g c clean kept was same =
    let before = c.args.meta.now in
    let n = c.args.number in
    let entry = c.in_ok-entry.entry in
    let remote = option_copied c.args.remote in
    let noted : HasCleanDisk (state g.S.Store c.note_remote.new.tx.conn.now) = omega (arith, c.remove_entry.ensures.lent.stays.crash.clean) in
    let early : HasCleanDisk (state g.S.Store c.entry_leased.new.tx.conn.now) = omega (arith, noted, c.note_remote.ensures.lent.stays.crash.clean) in
    let found = c.in_ok-entry.ensures.finds early kept was in
    let with_id = c.in_ok-note_remote.ensures.leaves noted kept found.1 in
    let waiting = c.saturating_sub-meta.ensures ∙ one_less n entry kept.entries before.pending (leased_there n c.args.lease kept.entries entry found.0) same in
    let count = c.plus-meta.ensures in
    record {
      outbox = sent_at n entry remote (outbox_of before kept);
      decided = ap (λ r. done (r >>= λ e. Ok (sent_at n e remote (outbox_of before kept)))) found.0;
      keeps = c.in_ok-remove_entry.ensures.leaves clean (record kept { remotes = with_remote entry.addressee remote kept.remotes }) with_id;
      counted = λ i. record before { counts = record before.counts { sent = count i }; pending = waiting i };
    }
