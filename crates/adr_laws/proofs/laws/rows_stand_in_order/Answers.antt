use Rattle.adr_laws.proofs.PortfolioLemmas.{rows_in_order}
use Rattle.adr_laws.proofs.laws.rows_stand_in_order.Goals as goal

pub returns : goal.returns
returns c = rows_in_order
