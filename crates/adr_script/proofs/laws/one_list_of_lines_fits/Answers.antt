use Rattle.adr_script.proofs.Lines.{one_list_fits}
use Rattle.adr_script.proofs.laws.one_list_of_lines_fits.Goals as goal

pub returns : goal.returns
returns c = one_list_fits
