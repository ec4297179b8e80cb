-- What a commit makes of what tables keep, where it visits no more than a command touched.
use Rattle.std.specs.Prelude.{◌≡◌, ℕ, List, length, Result, Ok, IfOk, IfErr}
use Rattle.sqlite.specs.Store.{Ghosts}
use Rattle.sqlite.specs.Held.{Held, state}
use Rattle.sqlite.specs.State.{State, HasCleanDisk}
use Rattle.adr_text.specs.declared.refusal.Refusal.{Refusal}
use Rattle.adr_text.specs.Refusals.{IsRefusalOf}
use Rattle.adr_objects.specs.declared.shown.Stamps.{Stamps}
use Rattle.adr_delivery.specs.declared.entry.Entry.{Entry}
use Rattle.adr_delivery.specs.declared.outbox.Outbox.{Outbox}
use Rattle.adr_state.specs.declared.base.Base.{Base}
use Rattle.adr_state.specs.declared.keys.ViewKey.{ViewKey}
use Rattle.adr_state.specs.declared.limits.Settings.{Settings}
use Rattle.adr_view.specs.Changes.{changes}
use Rattle.adr_view.specs.Laws.{StandsInOrder}
use Rattle.adr_view.specs.Views.{view}
use Rattle.adr_notices.specs.Made.{entries_made}
use Rattle.adr_refresh.specs.Laws.{HasAllThatDiffer}
use Rattle.adr_db.specs.declared.meta.Meta.{Meta}
use Rattle.adr_db.specs.Kept.{Keeps}
use Rattle.adr_db.specs.Bases.{Beside, kept_beside, counting, HoldsBeside}
use Rattle.adr_db.specs.Images.{outbox_of}
use Rattle.adr_outbox.specs.Appended.{further}
use Rattle.adr_outbox.specs.Turned.{with_outbox}
use Rattle.adr_room.specs.Rooms.{AreDrawn}
use Rattle.adr_kept_base.specs.Bases.{KeepsShown, VensStay}
use Rattle.adr_touched.specs.declared.touched.Touched.{Touched}
use Rattle.adr_touched.specs.Touched.{sources_in, StandsTouched}
use Rattle.adr_told.specs.Laws.{side_before, side_after}
use Rattle.adr_told.specs.Commits.{IsAsComputed}

-- where a command stands once its edit is made: the tables keep still what was shown of the base before it, a resource that
-- stays has its ven, and among what it touched is each source that is not shown as before
pub record IsEdited (before after : Base) (beside : Beside) (numbers : Meta) (touched : Touched) : Type 0 where
  pub stood : StandsInOrder before
  pub vens : VensStay before.portfolio after.portfolio
  pub keeps : KeepsShown beside before
  pub stands : StandsTouched before touched
  pub all : HasAllThatDiffer before after (sources_in touched)
  pub waits : numbers.pending ≡ length beside.entries
  pub drawn : AreDrawn numbers (kept_beside beside after)

-- what the machine tells of it, with stamps as they were
abbrev pub entries_told : List ℕ → Base → Base → List (ViewKey × Stamps) → ℕ → List Entry
entries_told client before after stamps now = entries_made client after.portfolio.subs (side_before before stamps) (side_after before stamps after now) (changes (view before) (view after))

-- the outbox with that, and the last number that was drawn, where there are numbers and room for all of it
abbrev pub outbox_told : Settings → Base → Base → Beside → ℕ → Meta → Result (Outbox × ℕ) Refusal
outbox_told settings before after beside now numbers = further settings.limits numbers.serial (entries_told settings.client before after beside.stamps now) (outbox_of numbers (kept_beside beside after))

-- so it is told, and the changes are counted; the tables keep what is shown then, with its stamps, and that outbox, and the
-- numbers count it
pub record IsCommitted (settings : Settings) (now : ℕ) (before after : Base) (beside : Beside) (numbers then : Meta) (many : ℕ) (s : State) : Type 0 where
  pub end : Beside
  pub computed : IsAsComputed settings.client after.portfolio.subs before after now beside end (entries_told settings.client before after beside.stamps now) many
  pub outbox : Outbox
  pub serial : ℕ
  pub decided : outbox_told settings before after beside now numbers ≡ Ok (outbox, serial)
  pub holds : Keeps (with_outbox outbox (kept_beside end after)) s
  pub counted : then ≡ record (counting outbox numbers) { serial = serial }

module _ {S : Type 0} (g : Ghosts S) (old new : Held S) where
  -- after Ok, so it is of each base that the tables held behind such an edit
  abbrev pub CommitsTouched : {E : Type 0} → Settings → ℕ → Touched → Meta → Meta → Result ℕ E → Type 0
  CommitsTouched settings now touched numbers then result =
      HasCleanDisk (state g new)
      → IfOk result (λ many. (before after : Base) (beside : Beside) → HoldsBeside beside after (state g old) → IsEdited before after beside numbers touched → IsCommitted settings now before after beside numbers then many (state g new))

  -- a refusal is for want of numbers or of room for all that is told, or want of memory or the store's in its place
  abbrev pub RefusesTouched : {T : Type 0} → Settings → ℕ → Touched → Meta → Result T Refusal → Type 0
  RefusesTouched settings now touched numbers result =
      HasCleanDisk (state g new)
      → IfErr result (λ refusal. (before after : Base) (beside : Beside) → HoldsBeside beside after (state g old) → IsEdited before after beside numbers touched → IsRefusalOf refusal (outbox_told settings before after beside now numbers))
