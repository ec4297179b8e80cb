use Rattle.serde_json.specs.View.{view}
use Rattle.adr_config.proofs.Listening.{of_value}
use Rattle.adr_config.proofs.config.Config.read_or_tell.Goals as goal

pub returns-in-Ok-clause-err : goal.returns-in-Ok-clause-err
returns-in-Ok-clause-err c = of_value c.args.bytes.now (view c.in-Ok.value) c.in-Ok.ensures c.config_in.result c.config_in.ensures.err
