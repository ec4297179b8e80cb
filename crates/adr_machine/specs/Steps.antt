-- One step of the machine, and the whole state as it is told.
use Rattle.std.specs.Prelude.{ℕ, List, length, Result, Ok, if◌then◌else◌}
use Rattle.adr_text.specs.Refusals.{◌>>=◌}
use Rattle.adr_text.specs.declared.refusal.Refusal.{Refusal}
use Rattle.adr_objects.specs.declared.shown.Stamps.{Stamps}
use Rattle.adr_state.specs.declared.base.Base.{Base}
use Rattle.adr_state.specs.declared.state.State.{State}
use Rattle.adr_state.specs.declared.keys.ViewKey.{ViewKey}
use Rattle.adr_state.specs.declared.limits.Settings.{Settings}
use Rattle.adr_machine.specs.declared.command.Command.{Command}
use Rattle.adr_queries.specs.declared.answer.Answer.{Answer}
use Rattle.adr_queries.specs.declared.answer.Answer.TheVariants as answer
use Rattle.adr_view.specs.Views.{view}
use Rattle.adr_view.specs.declared.changes.Change.{Change}
use Rattle.adr_view.specs.Changes.{changes, restamped}
use Rattle.adr_delivery.specs.declared.entry.Entry.{Entry}
use Rattle.adr_delivery.specs.declared.outbox.Outbox.{Outbox}
use Rattle.adr_notices.specs.Shown.{Side}
use Rattle.adr_notices.specs.Made.{entries_made}
use Rattle.adr_notices.specs.Committed.{outbox_after}
use Rattle.adr_machine.specs.Deliveries.{delivered}
use Rattle.adr_machine.specs.Edits.{is_delivery, edit}
use Rattle.adr_machine.specs.declared.outcome.Outcome.{Outcome}
use Rattle.adr_machine.specs.declared.outcome.Outcome.TheVariants as outcome
use Rattle.adr_state.specs.declared.keys.ViewKey.TheVariants as key
use Rattle.adr_view.specs.declared.view.Content.TheVariants as content
use Rattle.adr_queries.specs.Shown.{object_at, told}

-- what is shown before an edit, with the base and the stamps of that
abbrev pub side_before : State → Side
side_before s = record { base = s.base; view = view s.base; stamps = s.stamps }

-- what is shown after an edit, with the base and the stamps of that, which are those before, restamped
abbrev pub side_after : State → ℕ → Base → Side
side_after s now base = record { base = base; view = view base; stamps = restamped s.stamps (view s.base) (view base) now }

-- the changes from the view before an edit to the view after it, in the order of the keys
abbrev pub changes_of : State → Base → List Change
changes_of s base = changes (view s.base) (view base)

-- how many keys change from the view before an edit to the view after it, and the stamps then
abbrev pub changed : State → ℕ → Base → ℕ × List (ViewKey × Stamps)
changed s now base = (length (changes_of s base), (side_after s now base).stamps)

-- what is told of the changes, to the utility and to the subscriptions that there are then
abbrev pub entries_then : Settings → State → ℕ → Base → List Entry
entries_then settings s now base = entries_made settings.client base.portfolio.subs (side_before s) (side_after s now base) (changes_of s base)

-- the outbox then, with what is told of the changes, and the last number that was drawn, where there are numbers and
-- room for all
abbrev pub outbox_then : Settings → State → ℕ → Base → Result (Outbox × ℕ) Refusal
outbox_then settings s now base = outbox_after settings.limits base.serial s.outbox base.portfolio.subs (entries_then settings s now base)

-- the answer, where the stamps before are known, and the changes with the stamps after: how many keys changed, where
-- that is counted; a report that is kept is told with its stamps after, and one that went with those before, and one
-- that has none there is 6
abbrev pub answered_by : Outcome → List (ViewKey × Stamps) → ℕ × List (ViewKey × Stamps) → Result Answer Refusal
answered_by (outcome.Told a) before after = Ok a
answered_by outcome.Counted before after = Ok (answer.Changes after.0)
answered_by (outcome.ReportKept n body) before after = told (object_at after.1 (key.Report n, content.Report body))
answered_by (outcome.ReportGone n body) before after = told (object_at before (key.Report n, content.Report body))

-- the state after an edit, with the stamps after its changes and what is told of them; and the answer. On every state that a run reaches a report that is told has stamps (law `reports_are_answered` of adr_laws)
abbrev pub committed : Settings → State → ℕ → Outcome → Base → Result (Answer × State) Refusal
committed settings s now comes base =
    outbox_then settings s now base >>= λ next. answered_by comes s.stamps (changed s now base) >>= λ a.
    Ok (a, record { base = record base { serial = next.1 }; stamps = (changed s now base).1; outbox = next.0 })

-- what is about an entry leaves all but the outbox: its answer, and the state with the outbox then
abbrev pub delivery_step : Settings → State → ℕ → Command → Result (Answer × State) Refusal
delivery_step settings s now command = delivered settings.limits now s.outbox command >>= λ d. Ok (d.0, record s { outbox = d.1 })

-- an edit, and then its commit
abbrev pub edit_step : Settings → State → ℕ → Command → Result (Answer × State) Refusal
edit_step settings s now command = edit settings.limits now s.base command >>= λ e. committed settings s now e.0 e.1

-- what is about an entry, else an edit and its commit: a refusal changes nothing
abbrev pub step : Settings → State → ℕ → Command → Result (Answer × State) Refusal
step settings s now command = if is_delivery command then delivery_step settings s now command else edit_step settings s now command

-- the answer to who asks for the whole state
abbrev pub image_of : State → Result State Refusal
image_of s = Ok s
