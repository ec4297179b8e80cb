use Rattle.adr_answers.specs.Told.{program_in}
use Rattle.adr_answers.proofs.KeyLemmas.{pushed}
use Rattle.adr_answers.proofs.of_programs.programs_in.Goals as goal

pub known-preserved : goal.known-preserved
known-preserved c = pushed program_in c.known.yielded c.in-Some.row _ _ _ c.in_ok-push_some.ensures.ok c.known.invariant c.in_ok-program_in.ensures
