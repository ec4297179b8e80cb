use Rattle.adr_http.proofs.MethodsByPath as by_path
use Rattle.adr_http.proofs.laws.methods_are_served.Goals as goal

pub returns : goal.returns
returns c = by_path.methods_are_served
