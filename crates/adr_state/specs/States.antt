-- The state at first.
use Rattle.std.specs.Prelude.{[], None}
use Rattle.adr_delivery.specs.Outboxes.{no_entries}
use Rattle.adr_state.specs.Portfolios.{nobody}
use Rattle.adr_state.specs.declared.state.State.{State}

-- the state at first: nothing is known, no scan is open, nothing is kept, and the serial is 0
abbrev pub empty : State
empty = record { base = record { mirror = []; scan = None; portfolio = nobody; serial = 0 }; stamps = []; outbox = no_entries }
