-- The stamps by which a report is answered.
use Rattle.std.specs.Prelude.{List, Option, None}
use Rattle.adr_objects.specs.declared.shown.Stamps.{Stamps}
use Rattle.adr_state.specs.declared.keys.ViewKey.{ViewKey}
use Rattle.adr_state.specs.declared.keys.ViewKey.TheVariants as key
use Rattle.adr_state.specs.Keys.{view_cmp, at}
use Rattle.adr_machine.specs.declared.outcome.Outcome.{Outcome}
use Rattle.adr_machine.specs.declared.outcome.Outcome.TheVariants as outcome

-- the stamps of the report that comes of a command, by these; of another outcome none
abbrev pub stamps_reported : Outcome → List (ViewKey × Stamps) → Option Stamps
stamps_reported (outcome.ReportKept n body) stamps = at view_cmp (key.Report n) stamps
stamps_reported (outcome.ReportGone n body) stamps = at view_cmp (key.Report n) stamps
stamps_reported _ stamps = None
