use Rattle.adr_shown.proofs.RollupLemmas.{rollup_text_reads_back}
use Rattle.adr_shown.proofs.laws.rollup_texts_read_back.Goals as goal

pub returns : goal.returns
returns c = rollup_text_reads_back
