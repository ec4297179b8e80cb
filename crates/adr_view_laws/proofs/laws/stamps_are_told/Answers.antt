use Rattle.adr_view_laws.proofs.ToldStampLemmas.{stamps_told}
use Rattle.adr_view_laws.proofs.laws.stamps_are_told.Goals as goal

pub returns : goal.returns
returns c = stamps_told
