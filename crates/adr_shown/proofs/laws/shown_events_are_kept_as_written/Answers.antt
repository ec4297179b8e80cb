use Rattle.std.proofs.Common.{refl}
use Rattle.adr_shown.proofs.laws.shown_events_are_kept_as_written.Goals as goal

pub returns : goal.returns
returns c = λ x. refl
