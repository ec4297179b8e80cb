-- A run leaves a state that is within the limits of its node.
use Rattle.std.proofs.Common.{ℕ, List, Result, Ok, Err, IfOk}
use Rattle.adr_text.specs.declared.refusal.Refusal.{Refusal}
use Rattle.adr_state.specs.declared.limits.Limits.{Limits}
use Rattle.adr_state.specs.declared.limits.Settings.{Settings}
use Rattle.adr_state.specs.declared.state.State.{State}
use Rattle.adr_state.specs.Limits.{largest}
use Rattle.adr_state.specs.States.{empty}
use Rattle.adr_queries.specs.declared.answer.Answer.{Answer}
use Rattle.adr_machine.specs.declared.command.Command.{Command}
use Rattle.adr_machine.specs.Runs.{state_after, step_at}
use Rattle.adr_machine.specs.Within.{IsWithin}
use Rattle.adr_machine.proofs.Fitting.{AreUnder, empty_within, fits_within, step_within, under_largest, under_themselves}
use Rattle.adr_laws.specs.Entries.{reached}
use Rattle.adr_laws.proofs.RunLemmas.{run_keeps}
use Rattle.adr_view_laws.specs.KeptLimits.{LimitsAreKept, StatesFit}

-- what is answered leaves a state within the limits, and a refusal the one that there was
still_within : (limits : Limits) (s : State) (r : Result (Answer × State) Refusal) → IsWithin limits s → IfOk r (λ next. IsWithin limits next.1) → IsWithin limits (state_after s r)
still_within limits s (Ok next) before after = after
still_within limits s (Err refusal) before after = before

-- so does a run, within limits that no limit of the node is above
run_within : (settings : Settings) (most : Limits) → AreUnder settings.limits most → (cs : List (ℕ × Command)) → IsWithin most (reached settings cs)
run_within settings most small cs =
    run_keeps (step_at settings) (IsWithin most) (λ s c h. still_within most s (step_at settings s c) h (step_within settings most small s c.0 c.1 h)) empty cs (empty_within most)

pub limits_kept : LimitsAreKept
limits_kept settings cs = run_within settings settings.limits (under_themselves settings.limits) cs

pub states_fit : StatesFit
states_fit settings cs small = fits_within (reached settings cs) (run_within settings largest (under_largest small) cs)
