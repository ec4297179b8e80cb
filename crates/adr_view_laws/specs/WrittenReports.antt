-- That a report that is written is there.
use Rattle.std.specs.Prelude.{◌≡◌, ℕ, List, Some, option_map, IfOk}
use Rattle.std.specs.List.{All}
use Rattle.std.specs.Ordering.{nat_cmp}
use Rattle.adr_objects.specs.declared.report.ReportBody.{ReportBody}
use Rattle.adr_state.specs.declared.limits.Settings.{Settings}
use Rattle.adr_state.specs.declared.portfolio.Report.{Report}
use Rattle.adr_state.specs.declared.state.State.{State}
use Rattle.adr_state.specs.Keys.{at}
use Rattle.adr_machine.specs.declared.command.Command.{Command}
use Rattle.adr_machine.specs.Runs.{step_at}
use Rattle.adr_laws.specs.Reported.{written_by}

-- what was written is there: the report of its number says just that
abbrev pub IsThere : List (ℕ × Report) → ℕ × ReportBody → Type 0
IsThere reports w = option_map (λ r. r.body) (at nat_cmp w.0 reports) ≡ Some w.1

-- whatever the state, what an accepted post or replacement is answered as written is there after it
abbrev pub WrittenReportsAreThere : Type 0
WrittenReportsAreThere = (settings : Settings) (s : State) (c : ℕ × Command) → IfOk (step_at settings s c) (λ taken. All (IsThere taken.1.base.portfolio.reports) (written_by c.1 taken.0))
