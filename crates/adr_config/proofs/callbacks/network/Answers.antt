use Rattle.serde_json.specs.View.{view}
use Rattle.adr_config.proofs.Calling.{in_text_err}
use Rattle.adr_config.proofs.callbacks.network.Goals as goal

pub returns-in-Ok-clause-err : goal.returns-in-Ok-clause-err
returns-in-Ok-clause-err c = in_text_err (view c.args.value.now) c.in-Ok.text.now c.network_of.result c.in-Ok.ensures c.network_of.ensures.err
