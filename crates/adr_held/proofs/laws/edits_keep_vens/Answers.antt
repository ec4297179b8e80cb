use Rattle.adr_held.proofs.VenLemmas.{edits_keep}
use Rattle.adr_held.proofs.laws.edits_keep_vens.Goals as goal

pub returns : goal.returns
returns c = edits_keep
