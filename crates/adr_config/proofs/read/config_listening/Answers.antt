use Rattle.serde_json.specs.View.{view}
use Rattle.adr_config.proofs.Calling.{none_calls}
use Rattle.adr_config.proofs.read.config_listening.Goals as goal

pub returns-in-Err-clause-err : goal.returns-in-Err-clause-err
returns-in-Err-clause-err c = none_calls c.args.listen c.in-Err.fault (view c.args.value.now) c.in-Err.ensures.err
