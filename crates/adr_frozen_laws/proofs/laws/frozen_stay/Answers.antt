use Rattle.adr_frozen_laws.proofs.Frozen.{freezes_are_kept, kept_take_part}
use Rattle.adr_frozen_laws.proofs.Runs.{frozen_stay}
use Rattle.adr_frozen_laws.proofs.laws.frozen_stay.Goals as goal

pub returns-clause-kept : goal.returns-clause-kept
returns-clause-kept c = frozen_stay

pub returns-clause-participants : goal.returns-clause-participants
returns-clause-participants c = kept_take_part

pub returns-clause-answered : goal.returns-clause-answered
returns-clause-answered c = freezes_are_kept
