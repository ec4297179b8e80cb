-- A new ven and a new resource: nothing that is shown changes by them.
use Rattle.std.specs.Prelude.{◌≡◌, ◌≢◌, ℕ, Bool, true, false, List, [], IfOk, IfErr}
use Rattle.adr_text.specs.declared.refusal.Refusal.TheVariants.{OutboxFull}
use Rattle.adr_state.specs.declared.limits.Settings.{Settings}
use Rattle.adr_state.specs.declared.state.State.{State}
use Rattle.adr_state.specs.States.{empty}
use Rattle.adr_machine.specs.declared.command.Command.{Command}
use Rattle.adr_machine.specs.declared.command.Command.TheVariants.{VenAdd, ResourceAdd}
use Rattle.adr_machine.specs.Edits.{edit}
use Rattle.adr_machine.specs.Runs.{step_at}
use Rattle.adr_machine.specs.Steps.{changes_of, step}
use Rattle.adr_laws.specs.Standing.{state_of}

-- whether a command enrols a ven or a resource
abbrev pub enrols : Command → Bool
enrols (VenAdd role ven) = true
enrols (ResourceAdd role ven resource) = true
enrols _ = false

-- where its edit is accepted nothing that is shown changes, so the step is not refused for want of room in the outbox
pub record ShowsNothing (settings : Settings) (s : State) (now : ℕ) (c : Command) : Type 0 where
  pub unchanged : IfOk (edit settings.limits now s.base c) (λ e. changes_of s e.1 ≡ [])
  pub finds_room : IfErr (step settings s now c) (λ refusal. refusal ≢ OutboxFull)

-- so it is after any run from an empty start
abbrev pub EnrolmentShowsNothing : Type 0
EnrolmentShowsNothing = (settings : Settings) (cs : List (ℕ × Command)) (now : ℕ) (c : Command) → enrols c ≡ true → ShowsNothing settings (state_of (step_at settings) empty cs) now c
