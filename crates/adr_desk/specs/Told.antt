-- What is told of a command, and what becomes of the outbox that the tables hold.
use Rattle.std.specs.Prelude.{◌≡◌, ℕ, true, false, length, Result, Ok, IfOk, IfErr, OnOk, All}
use Rattle.sqlite.specs.Store.{Ghosts}
use Rattle.sqlite.specs.Held.{Held, state}
use Rattle.sqlite.specs.State.{State, HasCleanDisk}
use Rattle.adr_text.specs.declared.refusal.Refusal.{Refusal}
use Rattle.adr_text.specs.Refusals.{IsRefusalOf}
use Rattle.adr_delivery.specs.declared.outbox.Outbox.{Outbox}
use Rattle.adr_delivery.specs.Outboxes.{has_addressee}
use Rattle.adr_state.specs.declared.base.Base.{Base}
use Rattle.adr_state.specs.declared.limits.Settings.{Settings}
use Rattle.adr_view.specs.Changes.{changes, restamped}
use Rattle.adr_view.specs.Views.{view}
use Rattle.adr_notices.specs.Committed.{outbox_after}
use Rattle.adr_machine.specs.declared.command.Command.{Command}
use Rattle.adr_machine.specs.Edits.{is_quiet, unsubscribes}
use Rattle.adr_db.specs.declared.meta.Meta.{Meta}
use Rattle.adr_db.specs.Kept.{Kept, Keeps}
use Rattle.adr_db.specs.Bases.{Beside, kept_beside, counting, HoldsBeside}
use Rattle.adr_db.specs.Images.{outbox_of}
use Rattle.adr_outbox.specs.Dropped.{IsDropped}
use Rattle.adr_outbox.specs.Turned.{with_outbox}
use Rattle.adr_kept_base.specs.Bases.{KeepsShown}
use Rattle.adr_touched.specs.declared.touched.Touched.{Touched}
use Rattle.adr_commit.specs.Commits.{IsEdited, entries_told}

-- the outbox without the entries of subscriptions that are not there, and with what is told of a change from one base to
-- another; and the last number that was drawn
abbrev pub outbox_then : Settings → Base → Base → Beside → ℕ → Meta → Result (Outbox × ℕ) Refusal
outbox_then settings before after beside now numbers = outbox_after settings.limits numbers.serial (outbox_of numbers (kept_beside beside after)) after.portfolio.subs (entries_told settings.client before after beside.stamps now)

-- so it is told, and the changes are counted; the tables keep what is shown then, with its stamps, and that outbox, and the
-- numbers count it
pub record IsTold (settings : Settings) (now : ℕ) (before after : Base) (beside : Beside) (numbers then : Meta) (many : ℕ) (s : State) : Type 0 where
  pub end : Beside
  pub changed : many ≡ length (changes (view before) (view after))
  pub stamped : end.stamps ≡ restamped beside.stamps (view before) (view after) now
  pub shown : KeepsShown end after
  pub alone : end.numbers ≡ beside.numbers
  pub outbox : Outbox
  pub serial : ℕ
  pub decided : outbox_then settings before after beside now numbers ≡ Ok (outbox, serial)
  pub holds : Keeps (with_outbox outbox (kept_beside end after)) s
  pub counted : then ≡ record (counting outbox numbers) { serial = serial }

-- each entry goes to the utility, or to a subscription that is there
abbrev pub AreAddressed : Kept → Type 0
AreAddressed kept = All (λ e. has_addressee kept.portfolio.subs e ≡ true) kept.entries

-- where a command stands once its edit is made; one that leaves all that is shown left it, and behind one by which no subscription may go no
-- entry lacks its own
pub record IsMade (before after : Base) (beside : Beside) (numbers : Meta) (command : Command) (touched : Touched) : Type 0 where
  pub edited : IsEdited before after beside numbers touched
  pub quiet : is_quiet command ≡ true → view after ≡ view before
  pub addressed : unsubscribes command ≡ false → AreAddressed (kept_beside beside after)

module _ {S : Type 0} (g : Ghosts S) (old new : Held S) where
  -- after Ok the tables keep the outbox without the entries of subscriptions that are not there, and the caller's numbers count it, where they
  -- said how many entries wait, and where none lacks its subscription, unless one may have gone by the command
  abbrev pub DropsGone : {T E : Type 0} → Command → Meta → Meta → Result T E → Type 0
  DropsGone command numbers then result =
      HasCleanDisk (state g new)
      → OnOk result ((kept : Kept) → Keeps kept (state g old) → numbers.pending ≡ length kept.entries → (unsubscribes command ≡ false → AreAddressed kept) → IsDropped numbers then kept (state g new))

  -- after Ok it is told, of each base that the tables held behind such an edit
  abbrev pub KeepsTold : {E : Type 0} → Settings → ℕ → Command → Touched → Meta → Meta → Result ℕ E → Type 0
  KeepsTold settings now command touched numbers then result =
      HasCleanDisk (state g new)
      → IfOk result (λ many. (before after : Base) (beside : Beside) → HoldsBeside beside after (state g old) → IsMade before after beside numbers command touched → IsTold settings now before after beside numbers then many (state g new))

  -- a refusal is for want of numbers or of room, or want of memory or the store's in its place
  abbrev pub RefusesTold : {T : Type 0} → Settings → ℕ → Command → Touched → Meta → Result T Refusal → Type 0
  RefusesTold settings now command touched numbers result =
      HasCleanDisk (state g new)
      → IfErr result (λ refusal. (before after : Base) (beside : Beside) → HoldsBeside beside after (state g old) → IsMade before after beside numbers command touched → IsRefusalOf refusal (outbox_then settings before after beside now numbers))
