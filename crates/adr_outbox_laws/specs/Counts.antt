-- What each count of the outbox counts.
use Rattle.std.specs.Prelude.{◌≡◌, ◌-◌, ℕ, Bool, true, false, List, length, filter, IfOk, if◌then◌else◌}
use Rattle.adr_subscription.specs.declared.kept_sub.Sub.{Sub}
use Rattle.adr_delivery.specs.declared.entry.Entry.{Entry}
use Rattle.adr_delivery.specs.Outboxes.{has_addressee}
use Rattle.adr_delivery.specs.Tallies.{plus}
use Rattle.adr_state.specs.declared.limits.Settings.{Settings}
use Rattle.adr_state.specs.declared.state.State.{State}
use Rattle.adr_machine.specs.declared.command.Command.{Command}
use Rattle.adr_machine.specs.declared.command.Command.TheVariants.{Sent, Failed}
use Rattle.adr_machine.specs.Edits.{is_delivery}
use Rattle.adr_machine.specs.Runs.{step_at}

-- one more was sent after a `Sent`, and as many as before after any other command
abbrev pub sent_then : Command → ℕ → ℕ
sent_then (Sent entry lease remote) sent = plus sent 1
sent_then _ sent = sent

-- whether a command says that an entry failed
abbrev pub is_failure : Command → Bool
is_failure (Failed entry lease forget) = true
is_failure _ = false

-- how many entries wait for a subscription that is not among these
abbrev pub count_unsubscribed : List (ℕ × Sub) → List (ℕ × Entry) → ℕ
count_unsubscribed subs entries = length entries - length (filter (has_addressee subs) entries)

-- as many more were dropped as waited for a subscription that is not there after the command; and none by a command about an entry
abbrev pub dropped_then : Command → State → List (ℕ × Sub) → ℕ
dropped_then c before subs = if is_delivery c then before.outbox.counts.dropped else plus before.outbox.counts.dropped (count_unsubscribed subs before.outbox.entries)

-- each count counts what its name says: sent is raised by each `Sent` alone, given up is changed by `Failed` alone, dropped is raised by the entries whose subscription went, and made is changed by no command about an entry
pub record CountsTell (c : Command) (before after : State) : Type 0 where
  pub sent : after.outbox.counts.sent ≡ sent_then c before.outbox.counts.sent
  pub given_up : is_failure c ≡ false → after.outbox.counts.given_up ≡ before.outbox.counts.given_up
  pub dropped : after.outbox.counts.dropped ≡ dropped_then c before after.base.portfolio.subs
  pub made : is_delivery c ≡ true → after.outbox.counts.made ≡ before.outbox.counts.made

-- so it is after each command that is accepted, whatever the state
abbrev pub EachCountTells : Type 0
EachCountTells = (settings : Settings) (s : State) (c : ℕ × Command) → IfOk (step_at settings s c) (λ taken. CountsTell c.1 s taken.1)
