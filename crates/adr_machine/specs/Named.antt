-- Which report a command names.
use Rattle.std.specs.Prelude.{◌≡◌, ℕ, Some}
use Rattle.adr_state.specs.Digits.{number_in}
use Rattle.adr_machine.specs.declared.command.Command.{Command}
use Rattle.adr_machine.specs.declared.command.Command.TheVariants.{ReportPut, ReportDelete}

-- a command names the report of a number: it replaces or removes the one of an id that is read as that number
abbrev pub NamesReport : Command → ℕ → Type 0
NamesReport (ReportPut role id report) n = number_in 112 id ≡ Some n
NamesReport (ReportDelete role id) n = number_in 112 id ≡ Some n
NamesReport _ n = ⊥
