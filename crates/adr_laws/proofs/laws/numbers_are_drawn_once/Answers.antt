use Rattle.adr_laws.proofs.PortfolioLemmas.{numbers_own, revisions_own, numbers_drawn_once}
use Rattle.adr_laws.proofs.laws.numbers_are_drawn_once.Goals as goal

pub returns-clause-own : goal.returns-clause-own
returns-clause-own c = numbers_own

pub returns-clause-once : goal.returns-clause-once
returns-clause-once c = numbers_drawn_once

pub returns-clause-revisions : goal.returns-clause-revisions
returns-clause-revisions c = revisions_own
