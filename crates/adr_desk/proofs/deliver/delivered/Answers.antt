use Rattle.std.proofs.Common.{ℕ, ap}
use Rattle.adr_db.specs.declared.meta.Meta.{Meta}
use Rattle.adr_db.specs.Images.{outbox_of}
use Rattle.adr_desk.proofs.DeliveryLemmas.{rest_done}
use Rattle.adr_desk.proofs.deliver.delivered.Goals as goal

pub returns-in_default-clause-turns : goal.returns-in_default-clause-turns
returns-in_default-clause-turns g c clean = λ kept was same.
    let meta = c.args.meta.now in
    record {
      outbox = outbox_of meta kept;
      decided = rest_done c.args.limits.now c.args.now (outbox_of meta kept) c.args.command.now c.in_default.not-Lease c.in_default.not-Sent c.in_default.not-Failed;
      keeps = was;
      counted = ap (λ (n : ℕ). let numbers : Meta = record meta { pending = n } in numbers) same;
    }

pub returns-in-Lease-clause-listed : goal.returns-in-Lease-clause-listed
returns-in-Lease-clause-listed g c = rw c.in-Lease.is c.leased.ensures.listed

pub returns-in-Sent-clause-listed : goal.returns-in-Sent-clause-listed
returns-in-Sent-clause-listed g c = rw c.in-Sent.is c.was_sent.ensures.listed

pub returns-in-Failed-clause-listed : goal.returns-in-Failed-clause-listed
returns-in-Failed-clause-listed g c = rw c.in-Failed.is c.has_failed.ensures.listed
