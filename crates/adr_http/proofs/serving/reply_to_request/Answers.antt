use Rattle.std.proofs.Common.{refl}
use Rattle.adr_http.specs.Takers.{as_built, without_text}
use Rattle.adr_http.proofs.serving.reply_to_request.Goals as goal

pub returns-in-Ok-clause-replied : goal.returns-in-Ok-clause-replied
returns-in-Ok-clause-replied g c = as_built c.in-Ok.ensures.ok

pub returns-in-Err-clause-replied : goal.returns-in-Err-clause-replied
returns-in-Err-clause-replied g c = without_text refl c.in-Err.ensures.err
