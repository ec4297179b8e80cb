use Rattle.adr_exchange.proofs.ReplyBack.{reads_back}
use Rattle.adr_exchange.proofs.laws.replies_read_back.Goals as goal

pub returns : goal.returns
returns c = reads_back
