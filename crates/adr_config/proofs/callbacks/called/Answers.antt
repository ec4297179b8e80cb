use Rattle.serde_json.specs.View.{view}
use Rattle.adr_config.proofs.Calling.{none_called}
use Rattle.adr_config.proofs.callbacks.called.Goals as goal

pub returns-in-Err-clause-err : goal.returns-in-Err-clause-err
returns-in-Err-clause-err c = none_called (view c.args.value.now) c.in-Err.fault c.in-Err.ensures.err
