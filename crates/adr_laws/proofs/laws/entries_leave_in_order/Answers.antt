use Rattle.adr_laws.proofs.OutboxLemmas.{leased_first, leave_in_order, others_leave_with_theirs}
use Rattle.adr_laws.proofs.laws.entries_leave_in_order.Goals as goal

pub returns-clause-leased : goal.returns-clause-leased
returns-clause-leased c = leased_first

pub returns-clause-order : goal.returns-clause-order
returns-clause-order c = leave_in_order

pub returns-clause-others : goal.returns-clause-others
returns-clause-others c = others_leave_with_theirs
