use Rattle.adr_outbox_laws.proofs.CountLemmas.{each_count_tells}
use Rattle.adr_outbox_laws.proofs.laws.each_count_tells.Goals as goal

pub returns : goal.returns
returns c = each_count_tells
