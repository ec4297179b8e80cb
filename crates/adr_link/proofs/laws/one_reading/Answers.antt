use Rattle.adr_link.proofs.OneReply.{one_reply}
use Rattle.adr_link.proofs.laws.one_reading.Goals as goal

pub returns : goal.returns
returns c = one_reply
