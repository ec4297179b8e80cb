use Rattle.std.proofs.Common.{[], ◌∷◌, refl, arith}
use Rattle.std.specs.Option.{option_copied}
use Rattle.adr_text.specs.declared.refusal.Refusal.TheVariants.{LeaseLost}
use Rattle.adr_delivery.specs.Outboxes.{sent}
use Rattle.adr_queries.specs.declared.answer.Answer.TheVariants as answer
use Rattle.adr_desk.proofs.DeliveryLemmas.{done_turns, done_refused}
use Rattle.adr_desk.proofs.ListedLemmas.{told_either}
use Rattle.adr_desk.proofs.deliver.was_sent.Goals as goal

pub returns-clause-turns : goal.returns-clause-turns
returns-clause-turns g c = rw c.after.ensures (done_turns g.S.Store c.args.tx.now.conn.now c.sent.new.tx.conn.now (sent c.args.entry c.args.lease (option_copied c.args.remote)) c.args.meta.now c.sent.new.meta c.sent.result c.sent.ensures.turns)

pub returns-clause-refuses : goal.returns-clause-refuses
returns-clause-refuses g c = rw c.after.ensures (done_refused g.S.Store c.args.tx.now.conn.now c.sent.new.tx.conn.now (sent c.args.entry c.args.lease (option_copied c.args.remote)) c.args.meta.now c.sent.result c.sent.ensures.refuses)

pub returns-clause-listed : goal.returns-clause-listed
returns-clause-listed g c = rw c.after.ensures (told_either (LeaseLost ∷ []) (λ u. answer.Done) LeaseLost (0, omega arith, refl) c.sent.result c.sent.ensures.refused)
