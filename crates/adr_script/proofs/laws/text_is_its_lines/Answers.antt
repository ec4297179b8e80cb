use Rattle.adr_script.proofs.Lines.{text_is_its_lines}
use Rattle.adr_script.proofs.laws.text_is_its_lines.Goals as goal

pub returns : goal.returns
returns c = text_is_its_lines
