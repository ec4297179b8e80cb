use Rattle.adr_shown.proofs.ShownLemmas.{shown_text_reads_back}
use Rattle.adr_shown.proofs.laws.shown_texts_read_back.Goals as goal

pub returns : goal.returns
returns c = shown_text_reads_back
