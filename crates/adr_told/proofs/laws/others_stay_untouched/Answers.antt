use Rattle.adr_told.proofs.Commits.{others_untouched}
use Rattle.adr_told.proofs.laws.others_stay_untouched.Goals as goal

pub returns : goal.returns
returns c = others_untouched
