use Rattle.adr_routes.proofs.FoundTexts.{every_path}
use Rattle.adr_routes.proofs.laws.every_path_is_found.Goals as goal

pub returns : goal.returns
returns c = every_path
