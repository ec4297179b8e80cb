-- A script that runs from the empty state, over a desk in memory, whose store may refuse: so a line that asks the desk may print the store's refusal in place
-- of its own, and then takes no step.
use Rattle.std.specs.Prelude.{ℕ, List, codes, Option}
use Rattle.adr_state.specs.States.{empty}
use Rattle.adr_state.specs.declared.state.State.{State}
use Rattle.adr_state.specs.declared.limits.Limits.{Limits}
use Rattle.adr_state.specs.declared.limits.Settings.{Settings}
use Rattle.adr_script.specs.Lines.{lines_of}
use Rattle.adr_script.specs.Scripts.{RunsScript, StopsScript, StopsAtLongLine, StopsAtManyLines}

-- what the program is set to: `aggregator`, the name under which it reports, and the limits of its arguments
abbrev pub settings_of : Limits → Settings
settings_of limits = record { client = codes "aggregator"; limits = limits }

-- from the empty state, all the lines of a text were taken, and what they print, n lines, is written
abbrev pub RunsFromEmpty : Limits → List ℕ → Option (List ℕ) → Option (List ℕ) → ℕ → Type 0
RunsFromEmpty limits text old new n = (t : State) × RunsScript (Unit {0}) (settings_of limits) empty (lines_of text) t old new 0 n

-- from the empty state, the first lines of a text were taken, and a part of what they print is written
abbrev pub StopsFromEmpty : Limits → List ℕ → Option (List ℕ) → Option (List ℕ) → Type 0
StopsFromEmpty limits text old new = (t : State) × StopsScript (Unit {0}) (settings_of limits) empty (lines_of text) t old new

-- from the empty state, all the lines before one that is too long were taken, and what they print is written
abbrev pub EndsAtLongLine : Limits → List ℕ → Option (List ℕ) → Option (List ℕ) → Type 0
EndsAtLongLine limits text old new = (t : State) × StopsAtLongLine (Unit {0}) (Unit {0}) (settings_of limits) empty (lines_of text) t old new 0 0

-- from the empty state, as many lines were taken as may be, what they print is written, and there are more
abbrev pub EndsAtManyLines : Limits → List ℕ → Option (List ℕ) → Option (List ℕ) → Type 0
EndsAtManyLines limits text old new = (t : State) × StopsAtManyLines (Unit {0}) (Unit {0}) (settings_of limits) empty (lines_of text) t old new 0 0
