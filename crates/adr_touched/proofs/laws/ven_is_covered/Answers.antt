use Rattle.adr_state.specs.Portfolios.{DropVen}
use Rattle.adr_touched.proofs.Covered.{suffice}
use Rattle.adr_touched.proofs.laws.ven_is_covered.Goals as goal

pub returns : goal.returns
returns c = λ ven beside base. suffice (DropVen ven) base
