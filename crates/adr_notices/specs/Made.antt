-- All that is told of the changes of a command.
use Rattle.std.specs.Prelude.{ℕ, List, [], ◌∷◌, Option}
use Rattle.std.specs.List.{flat_map}
use Rattle.std.specs.Option.{option_map_or}
use Rattle.adr_subscription.specs.declared.kept_sub.Sub.{Sub}
use Rattle.adr_delivery.specs.declared.entry.Entry.{Entry}
use Rattle.adr_state.specs.declared.keys.ViewKey.{ViewKey}
use Rattle.adr_state.specs.declared.keys.ViewKey.TheVariants as key
use Rattle.adr_state.specs.Keys.{view_cmp, at}
use Rattle.adr_view.specs.declared.view.Content.{Content}
use Rattle.adr_view.specs.declared.view.Content.TheVariants as content
use Rattle.adr_view.specs.declared.changes.Operation.{Operation}
use Rattle.adr_view.specs.declared.changes.Operation.TheVariants as operation
use Rattle.adr_view.specs.declared.changes.Change.{Change}
use Rattle.adr_notices.specs.declared.notice.Notice.{Notice}
use Rattle.adr_notices.specs.Notices.{notice_of}
use Rattle.adr_notices.specs.Matching.{entries_of}
use Rattle.adr_notices.specs.RollupEntries.{rollup_entry}
use Rattle.adr_notices.specs.Shown.{Side}

-- the entries for the subscriptions that match what is told, and none where nothing is told
abbrev pub entries_noticed : List (ℕ × Sub) → Option Notice → List Entry
entries_noticed subs notice = option_map_or (entries_of subs) notice []

-- a change of what stands at a key is told of a roll-up to the utility alone, and of anything else to the subscriptions that match
abbrev pub entries_at : List ℕ → List (ℕ × Sub) → Side → Operation → ViewKey → Content → List Entry
entries_at client subs shown operation (key.Rollup event) (content.Rollup rollup) = rollup_entry client operation event rollup ∷ []
entries_at client subs shown operation k c = entries_noticed subs (notice_of shown.base shown.stamps operation (k, c))

-- what appears or differs is judged as it is after the command, and what goes as it was before
abbrev pub judged_in : Operation → Side → Side → Side
judged_in operation.Post before after = after
judged_in operation.Put before after = after
judged_in operation.Delete before after = before

-- the entries of a change where it is judged, for the subscriptions that there are after the command
abbrev pub entries_in : List ℕ → List (ℕ × Sub) → Side → Change → List Entry
entries_in client subs shown change = option_map_or (entries_at client subs shown change.operation change.key) (at view_cmp change.key shown.view) []

-- the entries of a change, as it is judged, for the subscriptions that there are after the command
abbrev pub entries_of_change : List ℕ → List (ℕ × Sub) → Side → Side → Change → List Entry
entries_of_change client subs before after change = entries_in client subs (judged_in change.operation before after) change

-- the entries of all changes, in their order
abbrev pub entries_made : List ℕ → List (ℕ × Sub) → Side → Side → List Change → List Entry
entries_made client subs before after changes = flat_map (entries_of_change client subs before after) changes
