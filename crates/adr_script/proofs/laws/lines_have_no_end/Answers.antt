use Rattle.adr_script.proofs.Lines.{lines_have_no_end}
use Rattle.adr_script.proofs.laws.lines_have_no_end.Goals as goal

pub returns : goal.returns
returns c = lines_have_no_end
