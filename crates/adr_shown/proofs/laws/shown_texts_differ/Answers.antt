use Rattle.adr_shown.proofs.ShownLemmas.{shown_text_differs}
use Rattle.adr_shown.proofs.laws.shown_texts_differ.Goals as goal

pub returns : goal.returns
returns c = shown_text_differs
