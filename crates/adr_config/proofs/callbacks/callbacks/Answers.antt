use Rattle.std.proofs.Common.{codes, sym}
use Rattle.serde_json.specs.View.{view}
use Rattle.adr_text.specs.Fields.{member_of}
use Rattle.adr_config.proofs.Calling.{called_err}
use Rattle.adr_config.proofs.callbacks.callbacks.Goals as goal

pub returns-in-Some-clause-err : goal.returns-in-Some-clause-err
returns-in-Some-clause-err c = called_err (member_of (codes "callbacks") (view c.args.value.now)) (view c.in-Some.said.now) c.called.result (sym c.in-Some.ensures) c.called.ensures.err
