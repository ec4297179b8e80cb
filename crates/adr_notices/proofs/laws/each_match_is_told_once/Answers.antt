use Rattle.adr_notices.proofs.LawLemmas.{told_once}
use Rattle.adr_notices.proofs.laws.each_match_is_told_once.Goals as goal

pub returns : goal.returns
returns c = told_once
