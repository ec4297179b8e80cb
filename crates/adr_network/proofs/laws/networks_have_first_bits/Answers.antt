use Rattle.adr_network.proofs.FirstBits.{has_first_bits}
use Rattle.adr_network.proofs.laws.networks_have_first_bits.Goals as goal

pub returns : goal.returns
returns c = has_first_bits
