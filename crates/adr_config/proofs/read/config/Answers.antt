use Rattle.serde_json.specs.View.{view}
use Rattle.adr_config.proofs.Listening.{none_listens, says_none}
use Rattle.adr_config.proofs.read.config.Goals as goal

pub returns-in-Ok-clause-err : goal.returns-in-Ok-clause-err
returns-in-Ok-clause-err c = says_none c.in-Ok.listen (view c.args.value.now) c.in-Ok.ensures.ok c.config_listening.result c.config_listening.ensures.err

pub returns-in-Err-clause-err : goal.returns-in-Err-clause-err
returns-in-Err-clause-err c = none_listens c.in-Err.fault (view c.args.value.now) c.in-Err.ensures.err
