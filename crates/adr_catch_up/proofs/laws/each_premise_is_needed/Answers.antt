use Rattle.adr_catch_up.proofs.NeededLemmas.{each_is_needed, the_premises}
use Rattle.adr_catch_up.proofs.laws.each_premise_is_needed.Goals as goal

pub returns-clause-all : goal.returns-clause-all
returns-clause-all c = the_premises

pub returns-clause-needed : goal.returns-clause-needed
returns-clause-needed c = each_is_needed
