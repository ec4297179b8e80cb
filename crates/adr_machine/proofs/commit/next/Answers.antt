use Rattle.adr_machine.specs.Listed.{listed}
use Rattle.adr_machine.specs.Steps.{step}
use Rattle.adr_queries.proofs.Listed.{as_listed}
use Rattle.adr_machine.proofs.Listed.{step_listed}
use Rattle.adr_machine.proofs.Fitting.{left_fitting, step_fits}
use Rattle.adr_machine.proofs.commit.next.Goals as goal

pub returns-clause-listed : goal.returns-clause-listed
returns-clause-listed c =
    let settings = c.args.settings.now in
    let s = c.args.state.now in
    let command = c.args.command.now in
    as_listed (listed command) c.stepped.result (step settings s c.args.now command) (step_listed settings s c.args.now command) c.stepped.ensures.refused c.stepped.ensures.no_store

pub returns-clause-fits : goal.returns-clause-fits
returns-clause-fits c =
    let settings = c.args.settings.now in
    let s = c.args.state.now in
    let command = c.args.command.now in
    λ fits. left_fitting c.stepped.result (step settings s c.args.now command) c.stepped.ensures.ok (step_fits settings c.are_small.ensures s c.args.now command fits)
