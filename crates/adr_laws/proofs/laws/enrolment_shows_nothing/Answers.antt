use Rattle.adr_laws.proofs.EnrolmentLemmas.{enrolment_unseen}
use Rattle.adr_laws.proofs.laws.enrolment_shows_nothing.Goals as goal

pub returns : goal.returns
returns c = enrolment_unseen
