-- What is told of the changes of a command: each change has its entries, and these stand behind those that waited.
use Rattle.std.specs.Prelude.{◌≡◌, ◌≢◌, ◌+◌, ◌↔◌, ℕ, Bool, true, false, List, [], ◌∷◌, ◌++◌, map, filter, length, Option, Some, None, is_some, IfOk}
use Rattle.std.specs.List.{All, AllZip, Contains, enumerate_from, flat_map}
use Rattle.std.specs.List.Sorted.{IsStrictlySortedBy}
use Rattle.adr_objects.specs.declared.report.Rollup.{Rollup}
use Rattle.adr_subscription.specs.declared.kept_sub.Sub.{Sub}
use Rattle.adr_delivery.specs.declared.entry.Entry.{Entry}
use Rattle.adr_delivery.specs.Entries.{destination}
use Rattle.adr_delivery.specs.Outboxes.{has_addressee}
use Rattle.adr_state.specs.declared.base.Base.{Base}
use Rattle.adr_state.specs.declared.keys.ViewKey.{ViewKey}
use Rattle.adr_state.specs.declared.keys.ViewKey.TheVariants as key
use Rattle.adr_state.specs.declared.limits.Settings.{Settings}
use Rattle.adr_state.specs.declared.state.State.{State}
use Rattle.adr_state.specs.Keys.{view_cmp, at}
use Rattle.adr_view.specs.declared.changes.Change.{Change}
use Rattle.adr_view.specs.declared.changes.Operation.{Operation}
use Rattle.adr_view.specs.declared.changes.Operation.TheVariants as operation
use Rattle.adr_view.specs.declared.view.Content.{Content}
use Rattle.adr_view.specs.declared.view.Content.TheVariants as content
use Rattle.adr_view.specs.Changes.{changes}
use Rattle.adr_notices.specs.declared.notice.Notice.{Notice}
use Rattle.adr_notices.specs.Made.{judged_in}
use Rattle.adr_notices.specs.Matching.{entries_of, matching}
use Rattle.adr_notices.specs.Notices.{notice_of}
use Rattle.adr_notices.specs.RollupEntries.{rollup_entry}
use Rattle.adr_notices.specs.Shown.{Side}
use Rattle.adr_machine.specs.declared.command.Command.{Command}
use Rattle.adr_machine.specs.Edits.{draws_number, is_delivery}
use Rattle.adr_machine.specs.Runs.{step_at}
use Rattle.adr_machine.specs.Steps.{changes_of, entries_then, side_after, side_before}
use Rattle.adr_laws.specs.Entries.{numbers_waiting, reached}
use Rattle.adr_laws.specs.Laws.{IsStampedAsShown}
use Rattle.adr_laws.specs.Told.{is_object}

-- ---- which changes there are

-- what happens at a key, by what stood there before and what stands there after: something appears, differs or goes; that a roll-up goes, which is no object, is no change
abbrev pub Happens : ViewKey → Option Content → Option Content → Operation → Type 0
Happens k None (Some new) operation.Post = Unit {0}
Happens k (Some old) (Some new) operation.Put = old ≢ new
Happens k (Some old) None operation.Delete = is_object k ≡ true
Happens k old new other = ⊥

-- changes stand in the order of their keys, each once, and are exactly what happens at keys
pub record AreWhatHappens (before after : List (ViewKey × Content)) (cs : List Change) : Type 0 where
  pub each_once_in_order : IsStrictlySortedBy view_cmp (map (λ c. c.key) cs)
  pub are_what_happens : (k : ViewKey) (o : Operation) → Contains cs (record { key = k; operation = o }) ↔ Happens k (at view_cmp k before) (at view_cmp k after) o

-- so are the changes between any two views
abbrev pub ChangesAreWhatHappens : Type 0
ChangesAreWhatHappens = (before after : List (ViewKey × Content)) → AreWhatHappens before after (changes before after)

-- ---- one change

-- a roll-up stands at a key, and is told by one entry, to the utility
pub record IsToldToTheUtility (client : List ℕ) (shown : Side) (operation : Operation) (event : List ℕ) (entries : List Entry) : Type 0 where
  pub rollup : Rollup
  pub stands_there : at view_cmp (key.Rollup event) shown.view ≡ Some (content.Rollup rollup)
  pub one_entry : entries ≡ rollup_entry client operation event rollup ∷ []

-- something else stands at a key; it is told, and by one entry for each subscription that matches what is told, in the order of their numbers
pub record IsToldToWhoMatches (subs : List (ℕ × Sub)) (shown : Side) (operation : Operation) (k : ViewKey) (entries : List Entry) : Type 0 where
  pub stands : Content
  pub stands_there : at view_cmp k shown.view ≡ Some stands
  pub notice : Notice
  pub is_told : notice_of shown.base shown.stamps operation (k, stands) ≡ Some notice
  pub its_entries : entries ≡ entries_of subs notice
  pub one_each : map (λ e. destination e.addressee) entries ≡ map (λ s. s.0) (filter (λ s. is_some (matching s.1 notice)) subs)

-- the entries of a change of what stands at a key: of a roll-up, and of anything else
abbrev pub IsToldAt : List ℕ → List (ℕ × Sub) → Side → Operation → ViewKey → List Entry → Type 0
IsToldAt client subs shown operation (key.Rollup event) entries = IsToldToTheUtility client shown operation event entries
IsToldAt client subs shown operation k entries = IsToldToWhoMatches subs shown operation k entries

-- so a change is told by its entries, where it is judged: after the command, or before it where something goes; and for the subscriptions that there are after it
abbrev pub IsTold : Settings → State → ℕ → Base → Change → List Entry → Type 0
IsTold settings s now base change entries = IsToldAt settings.client base.portfolio.subs (judged_in change.operation (side_before s) (side_after s now base)) change.operation change.key entries

-- ---- all changes

-- all entries are those of each change, one change after another
pub record AreOfTheChanges (settings : Settings) (s : State) (now : ℕ) (base : Base) (entries : List Entry) : Type 0 where
  pub of_each : List (List Entry)
  pub each_is_told : AllZip (IsTold settings s now base) (changes_of s base) of_each
  pub in_turn : entries ≡ flat_map (λ of_one. of_one) of_each

-- where what is shown is stamped, so they are, whatever an edit makes of the base
abbrev pub EachChangeIsTold : Type 0
EachChangeIsTold = (settings : Settings) (s : State) (now : ℕ) (base : Base) → IsStampedAsShown s → AreOfTheChanges settings s now base (entries_then settings s now base)

-- ---- runs

-- the serial, with the number that a command draws, where it draws one
abbrev pub serial_with : ℕ → Bool → ℕ
serial_with serial true = serial + 1
serial_with serial false = serial

-- after a command those wait that waited before it and whose subscription is there still, and behind them the entries of each change, numbered one after another from the serial on
pub record WaitsThen (settings : Settings) (before : State) (c : ℕ × Command) (after : State) : Type 0 where
  pub told : List Entry
  pub are_of_the_changes : AreOfTheChanges settings before c.0 after.base told
  pub wait_behind_the_others : after.outbox.entries ≡ filter (has_addressee after.base.portfolio.subs) before.outbox.entries ++ enumerate_from (serial_with before.base.serial (draws_number c.1) + 1) told
  pub draw_the_next_numbers : after.base.serial ≡ serial_with before.base.serial (draws_number c.1) + length told

-- so it is after any run from an empty start and one more accepted command that is not about an entry
abbrev pub EachChangeIsToldAfterRuns : Type 0
EachChangeIsToldAfterRuns = (settings : Settings) (cs : List (ℕ × Command)) (c : ℕ × Command) → is_delivery c.1 ≡ false → IfOk (step_at settings (reached settings cs) c) (λ taken. WaitsThen settings (reached settings cs) c taken.1)

-- while a command about an entry tells nothing: each number that waits after it waited before it
abbrev pub DeliveriesTellNothing : Type 0
DeliveriesTellNothing = (settings : Settings) (cs : List (ℕ × Command)) (c : ℕ × Command) → is_delivery c.1 ≡ true → All (Contains (numbers_waiting (reached settings cs))) (numbers_waiting (reached settings (cs ++ c ∷ [])))
