-- That the machine refuses as is listed.
use Rattle.std.specs.Prelude.{◌≡◌, ℕ, true, IfErr}
use Rattle.std.specs.List.{Contains, list_all}
use Rattle.adr_state.specs.declared.base.Base.{Base}
use Rattle.adr_state.specs.declared.state.State.{State}
use Rattle.adr_state.specs.declared.limits.Limits.{Limits}
use Rattle.adr_state.specs.declared.limits.Settings.{Settings}
use Rattle.adr_machine.specs.declared.command.Command.{Command}
use Rattle.adr_queries.specs.declared.query.Query.{Query}
use Rattle.adr_machine.specs.Edits.{edit}
use Rattle.adr_queries.specs.Listed.{listed_for, is_of_machine}
use Rattle.adr_machine.specs.Listed.{listed}
use Rattle.adr_queries.specs.Replies.{reply}
use Rattle.adr_machine.specs.Steps.{step}

-- whatever the base, the state, the limits and the moment: an edit, a step and a reply are refused by nothing but what is listed for their command or query; and all that is listed is the machine's own, so never want of memory, the store's refusal, a full trail or a pass that is ahead
pub record RefusalsAreListed : Type 0 where
  pub of_edits : (limits : Limits) (now : ℕ) (base : Base) (c : Command) → IfErr (edit limits now base c) (Contains (listed c))
  pub of_steps : (settings : Settings) (s : State) (now : ℕ) (c : Command) → IfErr (step settings s now c) (Contains (listed c))
  pub of_replies : (s : State) (q : Query) → IfErr (reply s q) (Contains (listed_for q))
  pub of_machine : (c : Command) → list_all is_of_machine (listed c) ≡ true
  pub of_machine_for : (q : Query) → list_all is_of_machine (listed_for q) ≡ true
