use Rattle.adr_shown.proofs.RollupLemmas.{rollup_text_differs}
use Rattle.adr_shown.proofs.laws.rollup_texts_differ.Goals as goal

pub returns : goal.returns
returns c = rollup_text_differs
