-- How much a state holds, against the limits of its node.
use Rattle.std.specs.Prelude.{ℕ, List}
use Rattle.adr_state.specs.declared.limits.Settings.{Settings}
use Rattle.adr_state.specs.Fitting.{Fits}
use Rattle.adr_state.specs.Limits.{AreSmall}
use Rattle.adr_machine.specs.declared.command.Command.{Command}
use Rattle.adr_machine.specs.Within.{IsWithin}
use Rattle.adr_laws.specs.Entries.{reached}

-- after any run of a node from an empty start, the state is within the limits of that node
abbrev pub LimitsAreKept : Type 0
LimitsAreKept = (settings : Settings) (cs : List (ℕ × Command)) → IsWithin settings.limits (reached settings cs)

-- so where none of these limits is above its largest, it is a state that a desk may hold
abbrev pub StatesFit : Type 0
StatesFit = (settings : Settings) (cs : List (ℕ × Command)) → AreSmall settings.limits → Fits (reached settings cs)
