-- What stamps tell: when something appeared, and when it was last changed.
use Rattle.std.specs.Prelude.{◌≡◌, ◌≢◌, ℕ, None, Some, IfOk}
use Rattle.adr_objects.specs.declared.shown.Stamps.{Stamps}
use Rattle.adr_state.specs.declared.keys.ViewKey.{ViewKey}
use Rattle.adr_state.specs.declared.limits.Settings.{Settings}
use Rattle.adr_state.specs.declared.state.State.{State}
use Rattle.adr_state.specs.Keys.{view_cmp, at}
use Rattle.adr_view.specs.declared.view.Content.{Content}
use Rattle.adr_view.specs.Views.{view}
use Rattle.adr_machine.specs.declared.command.Command.{Command}
use Rattle.adr_machine.specs.Runs.{step_at}

-- of what is shown at a key after a command: where it appears, both stamps are of that moment; where it differs from what was shown there, the modified stamp is, and the created one stays; and where it is as it was, both stay
pub record StampsTell (now : ℕ) (before after : State) (k : ViewKey) (shown : Content) : Type 0 where
  pub appears : at view_cmp k (view before.base) ≡ None → at view_cmp k after.stamps ≡ Some (record { created = now; modified = now })
  pub differs : (old : Content) (its : Stamps) → at view_cmp k (view before.base) ≡ Some old → at view_cmp k before.stamps ≡ Some its → old ≢ shown → at view_cmp k after.stamps ≡ Some (record its { modified = now })
  pub stays : (its : Stamps) → at view_cmp k (view before.base) ≡ Some shown → at view_cmp k before.stamps ≡ Some its → at view_cmp k after.stamps ≡ Some its

-- so the stamps tell after each command that is accepted, whatever the state
abbrev pub StampsAreTold : Type 0
StampsAreTold = (settings : Settings) (s : State) (c : ℕ × Command) → IfOk (step_at settings s c) (λ taken. (k : ViewKey) (shown : Content) → at view_cmp k (view taken.1.base) ≡ Some shown → StampsTell c.0 s taken.1 k shown)
