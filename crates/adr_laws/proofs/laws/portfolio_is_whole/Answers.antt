use Rattle.adr_laws.proofs.PortfolioLemmas.{portfolio_whole}
use Rattle.adr_laws.proofs.laws.portfolio_is_whole.Goals as goal

pub returns : goal.returns
returns c = portfolio_whole
