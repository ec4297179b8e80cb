-- What the machine keeps right of a state.
use Rattle.std.specs.Prelude.{◌≡◌, ◌≤◌, true, All}
use Rattle.std.specs.Map.{keys_of}
use Rattle.adr_delivery.specs.Outboxes.{has_addressee}
use Rattle.adr_refresh.specs.Refresh.{AreStamped}
use Rattle.adr_state.specs.declared.state.State.{State}

-- exactly what is shown has stamps; the number of each resource and of each entry that waits was drawn; and each such entry
-- goes to the utility, or to a subscription that is there
pub record IsRight (state : State) : Type 0 where
  pub stamped : AreStamped state.stamps state.base
  pub resources_drawn : All (λ n. n ≤ state.base.serial) (keys_of state.base.portfolio.resources)
  pub entries_drawn : All (λ e. e.0 ≤ state.base.serial) state.outbox.entries
  pub addressed : All (λ e. has_addressee state.base.portfolio.subs e ≡ true) state.outbox.entries
