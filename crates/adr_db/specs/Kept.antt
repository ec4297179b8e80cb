-- The tables hold the state: the rows of each, read by key, are the corresponding map.
use Rattle.std.specs.List.{AllByRecursion, flat_map}
use Rattle.std.specs.Prelude.{ℕ, ℤ, pos, negsuc, not, false, Option, None, Some, take, bytes_eq, List, [], ◌∷◌, map, filter, fold}
use Rattle.std.specs.BTreeMap.{insert_entry, is_at}
use Rattle.std.specs.BTreeSet.{insert_key}
use Rattle.std.specs.Map.{remove_entry}
use Rattle.std.specs.Option.{option_map_or}
use Rattle.std.specs.Ordering.{nat_cmp}
use Rattle.sqlite.specs.Order.{Row}
use Rattle.sqlite.specs.State.{State}
use Rattle.adr_objects.specs.Bodies.{IsBody}
use Rattle.adr_objects.specs.declared.shown.Stamps.{Stamps}
use Rattle.adr_objects.specs.declared.report.UsageInterval.{UsageInterval}
use Rattle.adr_subscription.specs.declared.kept_sub.Sub.{Sub}
use Rattle.adr_subscription.specs.Types.{IsSub}
use Rattle.adr_delivery.specs.declared.entry.Entry.{Entry}
use Rattle.adr_delivery.specs.Counts.{no_counts}
use Rattle.adr_delivery.specs.Entries.{destination}
use Rattle.adr_delivery.specs.Outboxes.{has_addressee}
use Rattle.adr_state.specs.declared.base.Mark.{Mark}
use Rattle.adr_state.specs.declared.base.Mark.TheVariants.{Live, Dead}
use Rattle.adr_state.specs.declared.portfolio.Portfolio.{Portfolio}
use Rattle.adr_state.specs.declared.portfolio.Report.{Report}
use Rattle.adr_state.specs.declared.keys.MirrorKey.{MirrorKey}
use Rattle.adr_state.specs.declared.keys.ViewKey.{ViewKey}
use Rattle.adr_state.specs.Keys.{id_cmp, mirror_cmp, view_cmp, at}
use Rattle.adr_state.specs.Portfolios.{nobody}
use Rattle.adr_sql.specs.Keys.{with_row}
use Rattle.adr_sql.specs.Contents.{Contents, Holds}
use Rattle.adr_db.specs.declared.meta.Meta.{Meta}
use Rattle.adr_db.specs.Tables.{schema}
use Rattle.adr_db.specs.declared.report_columns.ReportColumns.{ReportColumns}
use Rattle.adr_db.specs.declared.shown.RollupColumns.{RollupColumns}
use Rattle.adr_db.specs.declared.shown.ShownColumns.{ShownColumns}
use Rattle.adr_db.specs.declared.shown.ShownKey.{ShownKey}
use Rattle.adr_db.specs.ShownKeys.{shown_cmp}
use Rattle.adr_db.specs.Rows.{meta_row, mark_row, key_row, ven_row, resource_row, share_row, stamp_row, report_row, value_rows, sub_row, remote_row, entry_row, head_row, shown_row, rollup_row, event_key_row, frozen_share_row}

-- what is kept: the numbers of the node, the mirror in the order of its keys, the polled keys in that order, the portfolio, the stamps of
-- what is shown, the utility's ids of reports, the entries that wait, and what is kept of shown events and of roll-ups
pub record Kept : Type 0 where
  pub meta : Meta
  pub mirror : List (MirrorKey × Mark)
  pub polled : List MirrorKey
  pub portfolio : Portfolio
  pub stamps : List (ViewKey × Stamps)
  pub remotes : List (List ℕ × List ℕ)
  pub entries : List (ℕ × Entry)
  pub shown : List (ShownKey × ShownColumns)
  pub rollups : List (List ℕ × RollupColumns)

-- the destinations of these entries, in their order, each with the number of the first entry that goes there: one that stands before others takes their
-- place
abbrev pub heads_of : List (ℕ × Entry) → List (ℕ × ℕ)
heads_of [] = []
heads_of (e ∷ es) = insert_entry nat_cmp (heads_of es) (destination e.1.addressee) e.0

-- the rows of each table, in the order of the tables, with these in `report`, these in `report_value` and these in `head`
abbrev pub contents_among : List Row → List Row → List Row → Kept → Contents
contents_among reports values heads kept =
    (meta_row kept.meta ∷ [])
    ∷ map mark_row kept.mirror
    ∷ map key_row kept.polled
    ∷ map ven_row kept.portfolio.vens
    ∷ map resource_row kept.portfolio.resources
    ∷ map share_row kept.portfolio.shares
    ∷ map stamp_row kept.stamps
    ∷ reports
    ∷ values
    ∷ map sub_row kept.portfolio.subs
    ∷ map remote_row kept.remotes
    ∷ map entry_row kept.entries
    ∷ map shown_row kept.shown
    ∷ map rollup_row kept.rollups
    ∷ heads
    ∷ map (λ e. event_key_row e.0) kept.portfolio.frozen
    ∷ map frozen_share_row kept.portfolio.frozen_shares
    ∷ []

-- so with these in `report` and these in `report_value`: while a report is put, they are of no state
abbrev pub contents_with : List Row → List Row → Kept → Contents
contents_with reports values kept = contents_among reports values (map head_row (heads_of kept.entries)) kept

-- so with these destinations and numbers in `head`: while an entry is put or removed, they are of no state
abbrev pub contents_with_heads : List (ℕ × ℕ) → Kept → Contents
contents_with_heads heads kept = contents_among (map report_row kept.portfolio.reports) (flat_map value_rows kept.portfolio.reports) (map head_row heads) kept

-- the rows of each table: of `report` those of the reports, and of `report_value` those of the intervals of each
abbrev pub contents_of : Kept → Contents
contents_of kept = contents_with (map report_row kept.portfolio.reports) (flat_map value_rows kept.portfolio.reports) kept

-- a version says what the types admit, so that its canonical text reads back
abbrev pub IsMark : Mark → Type 0
IsMark (Live moment body) = IsBody body
IsMark Dead = Unit {0}

-- each mark of the mirror is so
abbrev pub AreMarks : List (MirrorKey × Mark) → Type 0
AreMarks = AllByRecursion (λ e. IsMark e.1)

-- so does a subscription, so that the text that is kept of it reads back
abbrev pub AreSubs : List (ℕ × Sub) → Type 0
AreSubs = AllByRecursion (λ e. IsSub e.1.body)

-- the tables hold this: the rows of each are the corresponding map, in key order, and each version and each
-- subscription says what the types admit
pub record Keeps (kept : Kept) (s : State) : Type 0 where
  pub rows : Holds schema (contents_of kept) s
  pub marks : AreMarks kept.mirror
  pub subs : AreSubs kept.portfolio.subs

-- ---- what is kept of a new node, and the changes of it

-- the numbers of a new node: the serial 0, no scan open, each count 0, no entry that waits, no key of the mirror, and no ven, resource, share, report,
-- subscription or frozen share
abbrev pub first_meta : Meta
first_meta = record { serial = 0; scan = false; counts = no_counts; pending = 0; keys = 0; vens = 0; resources = 0; shares = 0; reports = 0; subs = 0; frozen = 0 }

-- what is kept of a new node: its numbers, and nothing else
abbrev pub nothing_kept : Kept
nothing_kept = record { meta = first_meta; mirror = []; polled = []; portfolio = nobody; stamps = []; remotes = []; entries = []; shown = []; rollups = [] }

-- what is kept with these numbers of the node
abbrev pub with_meta : Meta → Kept → Kept
with_meta meta kept = record kept { meta = meta }

-- what is kept with a mark at an upstream key, in the place of the one that was there
abbrev pub with_mark : MirrorKey → Mark → Kept → Kept
with_mark key mark kept = record kept { mirror = insert_entry mirror_cmp kept.mirror key mark }

-- what is kept with an upstream key among those that were polled
abbrev pub with_polled : MirrorKey → Kept → Kept
with_polled key kept = record kept { polled = insert_key mirror_cmp kept.polled key }

-- what is kept with no polled keys
abbrev pub with_none_polled : Kept → Kept
with_none_polled kept = record kept { polled = [] }

-- what is kept with a change of the portfolio
abbrev pub with_portfolio : (Portfolio → Portfolio) → Kept → Kept
with_portfolio change kept = record kept { portfolio = change kept.portfolio }

-- what is kept with the stamps of a key of what is shown, in the place of those that were there
abbrev pub with_stamps : ViewKey → Stamps → Kept → Kept
with_stamps key stamps kept = record kept { stamps = insert_entry view_cmp kept.stamps key stamps }

-- what is kept without the stamps of a key, where it had some
abbrev pub without_stamps : ViewKey → Kept → Kept
without_stamps key kept = record kept { stamps = remove_entry (is_at (view_cmp key)) kept.stamps }

-- ---- what is shown

-- what is kept with that of a shown event, in the place of what was kept of it
abbrev pub with_shown : ShownKey → ShownColumns → Kept → Kept
with_shown key columns kept = record kept { shown = insert_entry shown_cmp kept.shown key columns }

-- what is kept without a shown event, where it was there
abbrev pub without_shown : ShownKey → Kept → Kept
without_shown key kept = record kept { shown = remove_entry (is_at (shown_cmp key)) kept.shown }

-- what is kept with that of the roll-up of an upstream event, in the place of what was kept of it
abbrev pub with_rollup : List ℕ → RollupColumns → Kept → Kept
with_rollup event columns kept = record kept { rollups = insert_entry id_cmp kept.rollups event columns }

-- what is kept without the roll-up of an upstream event, where there was one
abbrev pub without_rollup : List ℕ → Kept → Kept
without_rollup event kept = record kept { rollups = remove_entry (is_at (id_cmp event)) kept.rollups }

-- ---- the outbox

-- an entry waits at a number, in the place of the one that was there
abbrev pub with_waiting : ℕ → Entry → Kept → Kept
with_waiting n entry kept = record kept { entries = insert_entry nat_cmp kept.entries n entry }

-- what is kept without the entry at a number, where there was one
abbrev pub without_waiting : ℕ → Kept → Kept
without_waiting n kept = record kept { entries = remove_entry (is_at (nat_cmp n)) kept.entries }

-- the utility gave the report on an event that id
abbrev pub with_remote_id : List ℕ → List ℕ → Kept → Kept
with_remote_id event id kept = record kept { remotes = insert_entry id_cmp kept.remotes event id }

-- what is kept without the utility's id of the report on an event, where there was one
abbrev pub without_remote_id : List ℕ → Kept → Kept
without_remote_id event kept = record kept { remotes = remove_entry (is_at (id_cmp event)) kept.remotes }

-- the numbers of the entries that go neither to the utility nor to a subscription that is there
abbrev pub numbers_lost : Kept → List ℕ
numbers_lost kept = map (λ e. e.0) (filter (λ e. not (has_addressee kept.portfolio.subs e)) kept.entries)

-- ---- reports

-- the intervals of the report of a number; none where there is none
abbrev pub intervals_of : ℕ → Kept → List UsageInterval
intervals_of n kept = option_map_or (λ report. report.body.intervals) (at nat_cmp n kept.portfolio.reports) []

-- a report of its columns and its intervals
abbrev pub whole_report : ReportColumns → List UsageInterval → Report
whole_report columns intervals = record { revision = columns.revision; body = record { head = columns.head; intervals = intervals } }

-- behind its number, with the intervals that are kept for that
abbrev pub report_of : Kept → ℕ × ReportColumns → ℕ × Report
report_of kept e = (e.0, whole_report e.1 (intervals_of e.0 kept))

-- rows of `report_value` that are put one after another
abbrev pub with_value_rows : List Row → List Row → List Row
with_value_rows rows values = fold (λ values row. with_row 2 row values) values rows

-- ---- names

-- the numbers of those that have a name
abbrev pub numbers_named : {V : Type 0} → (V → List ℕ) → List ℕ → List (ℕ × V) → List ℕ
numbers_named name_of name es = map (λ e. e.0) (filter (λ e. bytes_eq (name_of e.1) name) es)

-- ---- limits

-- at most so many, where there is a limit
abbrev pub at_most : {X : Type 0} → Option ℕ → List X → List X
at_most None xs = xs
at_most (Some n) xs = take n xs

-- a limit as a number of SQL: below 0 there is none
abbrev pub limit_number : Option ℕ → ℤ
limit_number None = negsuc 0
limit_number (Some n) = pos n
