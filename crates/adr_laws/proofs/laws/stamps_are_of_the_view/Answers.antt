use Rattle.adr_laws.proofs.StampLemmas.{stamps_of_view, stamps_in_time}
use Rattle.adr_laws.proofs.laws.stamps_are_of_the_view.Goals as goal

pub returns-clause-view : goal.returns-clause-view
returns-clause-view c = stamps_of_view

pub returns-clause-time : goal.returns-clause-time
returns-clause-time c = stamps_in_time
