-- How what is kept stands in rows of SQL's values.
use Rattle.std.specs.Prelude.{ℕ, suc, ℤ, pos, Bool, List, ◌==◌, if◌then◌else◌, [], ◌∷◌, ◌++◌, string_bytes, Option, None, Some, is_some, Result, Ok, Err}
use Rattle.sqlite.specs.declared.types.Value.{Value}
use Rattle.sqlite.specs.declared.types.Value.TheVariants.{Int, Text}
use Rattle.sqlite.specs.Values.{or_null}
use Rattle.sqlite.specs.Order.{Row}
use Rattle.adr_text.specs.declared.refusal.Refusal.{Refusal}
use Rattle.adr_text.specs.declared.refusal.Refusal.TheVariants.{OutOfMemory, Store}
use Rattle.adr_text.specs.Moments.{moment_at}
use Rattle.adr_objects.specs.declared.body.Body.{Body}
use Rattle.adr_objects.specs.declared.body.Body.TheVariants as body
use Rattle.adr_objects.specs.Canonical.{canonical_text}
use Rattle.adr_objects.specs.ReadBack.{canonical_of}
use Rattle.adr_objects.specs.declared.kind.Kind.{Kind}
use Rattle.adr_objects.specs.declared.kind.Kind.TheVariants.{Program, Event}
use Rattle.adr_subscription.specs.declared.kept_sub.Sub.{Sub}
use Rattle.adr_subscription.specs.Kept.{kept_text}
use Rattle.adr_subscription.specs.declared.words.OperationKind.{OperationKind}
use Rattle.adr_subscription.specs.declared.words.OperationKind.TheVariants.{Get, Post, Put, Delete}
use Rattle.adr_delivery.specs.declared.addressee.Addressee.{Addressee}
use Rattle.adr_delivery.specs.declared.addressee.Addressee.TheVariants.{Utility, Subscriber}
use Rattle.adr_delivery.specs.declared.delivery.Delivery.{Delivery}
use Rattle.adr_delivery.specs.declared.entry.Entry.{Entry}
use Rattle.adr_delivery.specs.declared.outbox.EntryCounts.{EntryCounts}
use Rattle.adr_delivery.specs.Entries.{destination, event_of}
use Rattle.adr_delivery.specs.Jobs.{token_for}
use Rattle.adr_state.specs.declared.base.Mark.{Mark}
use Rattle.adr_state.specs.declared.base.Mark.TheVariants.{Live, Dead}
use Rattle.adr_state.specs.declared.portfolio.Ven.{Ven}
use Rattle.adr_state.specs.declared.portfolio.Resource.{Resource}
use Rattle.adr_state.specs.declared.portfolio.Report.{Report}
use Rattle.adr_state.specs.declared.keys.MirrorKey.{MirrorKey}
use Rattle.adr_state.specs.declared.keys.ShareKey.{ShareKey}
use Rattle.adr_state.specs.declared.keys.FrozenKey.{FrozenKey}
use Rattle.adr_state.specs.declared.keys.ViewKey.{ViewKey}
use Rattle.adr_state.specs.declared.keys.ViewKey.TheVariants as view
use Rattle.adr_state.specs.declared.participants.Participant.{Participant}
use Rattle.adr_objects.specs.declared.shown.Stamps.{Stamps}
use Rattle.adr_objects.specs.declared.report.ReportHead.{ReportHead}
use Rattle.adr_objects.specs.declared.report.UsageInterval.{UsageInterval}
use Rattle.adr_db.specs.declared.meta.Meta.{Meta}
use Rattle.adr_db.specs.declared.known.MarkColumns.{MarkColumns}
use Rattle.adr_db.specs.declared.report_columns.ReportColumns.{ReportColumns}
use Rattle.adr_db.specs.declared.shown.RollupColumns.{RollupColumns}
use Rattle.adr_db.specs.declared.shown.ShownColumns.{ShownColumns}
use Rattle.adr_db.specs.declared.shown.ShownKey.{ShownKey}
use Rattle.adr_db.specs.Tables.{version}

-- a number as an integer of SQL
abbrev pub number : ℕ → Value
number n = Int (pos n)

-- 1 for yes, 0 for no
abbrev pub flag_cell : Bool → Value
flag_cell b = Int (if b then pos 1 else pos 0)

-- how many entries were made, and how many were sent, given up and dropped
abbrev pub counts_row : EntryCounts → Row
counts_row c = number c.made ∷ number c.sent ∷ number c.given_up ∷ number c.dropped ∷ []

-- the numbers of the node: the serial, whether a scan is open, the counts made, sent, given up and dropped, how many entries
-- wait, how many keys the mirror has, and how many vens, resources, shares, reports, subscriptions and frozen shares there are
abbrev pub meta_numbers : Meta → Row
meta_numbers m =
    number m.serial
    ∷ flag_cell m.scan
    ∷ number m.counts.made
    ∷ number m.counts.sent
    ∷ number m.counts.given_up
    ∷ number m.counts.dropped
    ∷ number m.pending
    ∷ number m.keys
    ∷ number m.vens
    ∷ number m.resources
    ∷ number m.shares
    ∷ number m.reports
    ∷ number m.subs
    ∷ number m.frozen
    ∷ []

-- behind the key 1 and a version of the tables
abbrev pub versioned_row : ℕ → Meta → Row
versioned_row n m = number 1 ∷ number n ∷ meta_numbers m

-- and behind that of the tables of today
abbrev pub meta_row : Meta → Row
meta_row m = versioned_row version m

-- 1 a program, 2 an event
abbrev pub kind_number : Kind → ℕ
kind_number Program = 1
kind_number Event = 2

-- a key: the kind, and then the id
abbrev pub key_row : MirrorKey → Row
key_row key = number (kind_number key.kind) ∷ Text key.id ∷ []

-- a mark: 1 with its moment and its canonical text where it is live; 2, 0 and no text where it is dead
abbrev pub mark_columns : Mark → Row
mark_columns (Live moment body) = number 1 ∷ number moment ∷ Text (canonical_text body) ∷ []
mark_columns Dead = number 2 ∷ number 0 ∷ Text [] ∷ []

-- the program of a live event
abbrev pub program_of : Mark → Option (List ℕ)
program_of (Live moment (body.Event event)) = Some event.program
program_of mark = None

-- the program of a live event, and NULL of any other mark
abbrev pub program_cell : Mark → Value
program_cell mark = or_null Text (program_of mark)

-- a mark, and the program of a live event
abbrev pub known_columns : Mark → Row
known_columns mark = mark_columns mark ++ program_cell mark ∷ []

-- a key with its mark, and the program of a live event
abbrev pub mark_row : MirrorKey × Mark → Row
mark_row e = key_row e.0 ++ known_columns e.1

-- ---- vens, resources and shares

-- a number alone, as the key of a row
abbrev pub number_row : ℕ → Row
number_row n = number n ∷ []

-- when it was created, and when it was modified, in nanoseconds from 1970
abbrev pub stamps_columns : Stamps → Row
stamps_columns stamps = number stamps.created ∷ number stamps.modified ∷ []

-- a ven's name and its stamps
abbrev pub ven_columns : Ven → Row
ven_columns ven = Text ven.name ∷ stamps_columns ven.stamps

-- a ven behind its number
abbrev pub ven_row : ℕ × Ven → Row
ven_row e = number e.0 ∷ ven_columns e.1

-- a resource's ven, its name and its stamps
abbrev pub resource_columns : Resource → Row
resource_columns resource = number resource.ven ∷ Text resource.name ∷ stamps_columns resource.stamps

-- a resource behind its number
abbrev pub resource_row : ℕ × Resource → Row
resource_row e = number e.0 ∷ resource_columns e.1

-- the key of a share: the program, and then the resource
abbrev pub share_key_row : ShareKey → Row
share_key_row key = Text key.program ∷ number key.resource ∷ []

-- a share behind its key
abbrev pub share_row : ShareKey × ℕ → Row
share_row e = Text e.0.program ∷ number e.0.resource ∷ number e.1 ∷ []

-- the key of a frozen share: the event, and then the resource
abbrev pub frozen_key_row : FrozenKey → Row
frozen_key_row key = Text key.event ∷ number key.resource ∷ []

-- a frozen share behind its key
abbrev pub frozen_share_row : FrozenKey × ℕ → Row
frozen_share_row e = Text e.0.event ∷ number e.0.resource ∷ number e.1 ∷ []

-- ---- reports

-- a name, and NULL where there is none
abbrev pub name_cell : Option (List ℕ) → Value
name_cell = or_null Text

-- what a report is about, and its revision: event, resource, program, client, name or NULL, resource name, revision
abbrev pub head_columns : ReportHead → ℕ → Row
head_columns head revision = Text head.event ∷ number head.resource ∷ Text head.program ∷ Text head.client ∷ name_cell head.name ∷ Text head.resource_name ∷ number revision ∷ []

-- what a report is about, and its revision
abbrev pub report_columns : Report → Row
report_columns report = head_columns report.body.head report.revision

-- a report behind its number, without its intervals
abbrev pub report_row : ℕ × Report → Row
report_row e = number e.0 ∷ report_columns e.1

-- a usage, and NULL where there is none
abbrev pub usage_cell : Option ℤ → Value
usage_cell = or_null Int

-- the id of an interval, and its usage or NULL
abbrev pub interval_columns : UsageInterval → Row
interval_columns interval = Int interval.id ∷ usage_cell interval.usage ∷ []

-- the interval at a place of the report of a number: both, its id, and its usage or NULL
abbrev pub value_row : ℕ → ℕ → UsageInterval → Row
value_row n place interval = number n ∷ number place ∷ interval_columns interval

-- so of all from a place on
abbrev pub value_rows_from : ℕ → ℕ → List UsageInterval → List Row
value_rows_from n place [] = []
value_rows_from n place (interval ∷ intervals) = value_row n place interval ∷ value_rows_from n (suc place) intervals

-- the intervals of a report behind its number
abbrev pub value_rows : ℕ × Report → List Row
value_rows e = value_rows_from e.0 0 e.1.body.intervals

-- ---- subscriptions

-- the ven that one is of, and NULL where it is of none
abbrev pub owner_cell : Option ℕ → Value
owner_cell = or_null number

-- the ven that it is of or NULL, its body as the text that is kept of it, with its tokens, and its stamps
abbrev pub sub_columns : Sub → Row
sub_columns sub = owner_cell sub.owner ∷ Text (kept_text sub.body) ∷ stamps_columns sub.stamps

-- a subscription behind its number
abbrev pub sub_row : ℕ × Sub → Row
sub_row e = number e.0 ∷ sub_columns e.1

-- ---- the outbox

-- an upstream event, as the key of a row of `remote`
abbrev pub event_key_row : List ℕ → Row
event_key_row event = Text event ∷ []

-- the utility's id of a report behind the upstream event
abbrev pub remote_row : List ℕ × List ℕ → Row
remote_row e = Text e.0 ∷ Text e.1 ∷ []

-- what was done: 1 POST, 2 PUT, 3 DELETE, and 4 GET, which no entry has
abbrev pub operation_number : OperationKind → ℕ
operation_number Post = 1
operation_number Put = 2
operation_number Delete = 3
operation_number Get = 4

-- the address of a subscription; of the utility the empty text
abbrev pub address_of : Addressee → List ℕ
address_of (Utility event) = []
address_of (Subscriber subscription address token) = address

-- the end of the present lease; 0 where there is none
abbrev pub lease_end : Option ℕ → ℕ
lease_end None = 0
lease_end (Some until) = until

-- failures, leases, whether there is a lease, its end, and from when on the entry is due
abbrev pub delivery_columns : Delivery → Row
delivery_columns d = number d.failures ∷ number d.leases ∷ flag_cell (is_some d.lease) ∷ number (lease_end d.lease) ∷ number d.due ∷ []

-- an entry: destination, event or NULL, operation, address, token or NULL, body, and its delivery
abbrev pub entry_columns : Entry → Row
entry_columns e =
    number (destination e.addressee)
    ∷ or_null Text (event_of e.addressee)
    ∷ number (operation_number e.operation)
    ∷ Text (address_of e.addressee)
    ∷ or_null Text (token_for e.addressee)
    ∷ Text e.body
    ∷ delivery_columns e.delivery

-- an entry behind its number
abbrev pub entry_row : ℕ × Entry → Row
entry_row e = number e.0 ∷ entry_columns e.1

-- a destination with the number of its first entry
abbrev pub head_row : ℕ × ℕ → Row
head_row e = number e.0 ∷ number e.1 ∷ []

-- ---- the stamps of what is shown

-- 1 a program, 2 what a resource is shown of an event, 3 a report, 4 the roll-up of an event
abbrev pub view_kind : ViewKey → ℕ
view_kind (view.Program id) = 1
view_kind (view.Event id resource) = 2
view_kind (view.Report n) = 3
view_kind (view.Rollup id) = 4

-- the upstream id; of a report the empty text
abbrev pub view_id : ViewKey → List ℕ
view_id (view.Program id) = id
view_id (view.Event id resource) = id
view_id (view.Report n) = []
view_id (view.Rollup id) = id

-- the number of the resource that is shown an event, and that of a report; else 0
abbrev pub view_number : ViewKey → ℕ
view_number (view.Program id) = 0
view_number (view.Event id resource) = resource
view_number (view.Report n) = n
view_number (view.Rollup id) = 0

-- a key of what is shown: its kind, the upstream id, and the number
abbrev pub view_key_row : ViewKey → Row
view_key_row key = number (view_kind key) ∷ Text (view_id key) ∷ number (view_number key) ∷ []

-- the stamps of a key behind it
abbrev pub stamp_row : ViewKey × Stamps → Row
stamp_row e = view_key_row e.0 ++ stamps_columns e.1

-- ---- what is shown

-- an upstream event and a resource, as the key of a row of `shown`
abbrev pub shown_key_row : ShownKey → Row
shown_key_row key = Text key.event ∷ number key.resource ∷ []

-- what is kept of a shown event: the program, the ven with its name, the name of the resource, and the object
abbrev pub shown_columns : ShownColumns → Row
shown_columns c = Text c.program ∷ number c.ven ∷ Text c.ven_name ∷ Text c.resource_name ∷ Text c.body ∷ []

-- a shown event behind its key
abbrev pub shown_row : ShownKey × ShownColumns → Row
shown_row e = shown_key_row e.0 ++ shown_columns e.1

-- what is kept of a roll-up: the program, and the object
abbrev pub rollup_columns : RollupColumns → Row
rollup_columns c = Text c.program ∷ Text c.body ∷ []

-- a roll-up behind the upstream event
abbrev pub rollup_row : List ℕ × RollupColumns → Row
rollup_row e = Text e.0 ∷ rollup_columns e.1

-- ---- participants

-- a resource with its weight in a program and the names
abbrev pub participant_row : Participant → Row
participant_row p = number p.resource ∷ number p.weight ∷ Text p.name ∷ Text p.ven_name ∷ []

-- ---- rows as they are read, by their columns

-- what is read of a column: a value that no call wrote is the store's refusal
abbrev pub as_stored : {A : Type 0} → Result A Refusal → Result A Refusal
as_stored (Ok x) = Ok x
as_stored (Err OutOfMemory) = Err OutOfMemory
as_stored (Err e) = Err Store

-- a version of that moment which says that; the store's refusal where either was not read
abbrev pub live_from : Result ℕ Refusal → Result Body Refusal → Result Mark Refusal
live_from (Ok moment) (Ok body) = Ok (Live moment body)
live_from (Ok moment) (Err e) = Err Store
live_from (Err e) body = Err Store

-- the mark that the columns stand for: they have no other state, no moment after the last one, and no text but a canonical one
abbrev pub mark_from : MarkColumns → Result Mark Refusal
mark_from columns =
    if columns.state == 1 then live_from (moment_at (pos columns.moment)) (canonical_of (string_bytes columns.body)) else (if columns.state == 2 then Ok Dead else Err Store)

-- the state, the moment and the text of a mark, as the row has them
abbrev pub columns_row : MarkColumns → Row
columns_row columns = number columns.state ∷ number columns.moment ∷ Text (string_bytes columns.body) ∷ []

-- the columns of a report, without its intervals
abbrev pub report_columns_row : ReportColumns → Row
report_columns_row columns = head_columns columns.head columns.revision
