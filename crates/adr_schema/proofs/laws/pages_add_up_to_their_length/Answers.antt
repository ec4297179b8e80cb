use Rattle.adr_schema.proofs.LawLemmas.{pages_add_up}
use Rattle.adr_schema.proofs.laws.pages_add_up_to_their_length.Goals as goal

pub returns : goal.returns
returns c = pages_add_up
