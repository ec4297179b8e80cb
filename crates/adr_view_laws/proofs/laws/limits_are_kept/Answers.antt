use Rattle.adr_view_laws.proofs.LimitLemmas.{limits_kept, states_fit}
use Rattle.adr_view_laws.proofs.laws.limits_are_kept.Goals as goal

pub returns-clause-own : goal.returns-clause-own
returns-clause-own c = limits_kept

pub returns-clause-largest : goal.returns-clause-largest
returns-clause-largest c = states_fit
