use Rattle.std.proofs.Common.{[], ◌∷◌, refl, arith}
use Rattle.adr_text.specs.declared.refusal.Refusal.TheVariants.{LeaseLost}
use Rattle.adr_delivery.specs.Outboxes.{failed}
use Rattle.adr_queries.specs.declared.answer.Answer.TheVariants as answer
use Rattle.adr_desk.proofs.DeliveryLemmas.{done_turns, done_refused}
use Rattle.adr_desk.proofs.ListedLemmas.{told_either}
use Rattle.adr_desk.proofs.deliver.has_failed.Goals as goal

pub returns-clause-turns : goal.returns-clause-turns
returns-clause-turns g c = rw c.after.ensures (done_turns g.S.Store c.args.tx.now.conn.now c.failed.new.tx.conn.now (failed c.args.now c.args.entry c.args.lease c.args.forget) c.args.meta.now c.failed.new.meta c.failed.result c.failed.ensures.turns)

pub returns-clause-refuses : goal.returns-clause-refuses
returns-clause-refuses g c = rw c.after.ensures (done_refused g.S.Store c.args.tx.now.conn.now c.failed.new.tx.conn.now (failed c.args.now c.args.entry c.args.lease c.args.forget) c.args.meta.now c.failed.result c.failed.ensures.refuses)

pub returns-clause-listed : goal.returns-clause-listed
returns-clause-listed g c = rw c.after.ensures (told_either (LeaseLost ∷ []) (λ u. answer.Done) LeaseLost (0, omega arith, refl) c.failed.result c.failed.ensures.refused)
