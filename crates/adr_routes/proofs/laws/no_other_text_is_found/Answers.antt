use Rattle.adr_routes.proofs.FoundTexts.{no_other_text}
use Rattle.adr_routes.proofs.laws.no_other_text_is_found.Goals as goal

pub returns : goal.returns
returns c = no_other_text
