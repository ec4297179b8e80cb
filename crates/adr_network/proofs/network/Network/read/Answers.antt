use Rattle.std.proofs.Common.{◌≡◌, option_and_then}
use Rattle.adr_network.specs.Texts.{length_part, length_in}
use Rattle.adr_network.proofs.Reading.{of_equal}
use Rattle.adr_network.proofs.network.Network.read.Goals as goal

pub returns-clause-none : goal.returns-clause-none
returns-clause-none c =
    let length : c.length_said.result ≡ option_and_then length_in (length_part c.args.text.now) = cc in
    of_equal _ _ _ _ _ c.parts.ensures.front length c.network_of.ensures.none
