-- What the types of what is kept admit, and how a row reads.
use Rattle.std.specs.Prelude.{◌≡◌, ◌≤◌, ⊤, length, ◌<◌, ◌^◌, ℕ, ℤ, List, Option, string_bytes, IsUtf8, IsTrue, IfSome, FitsSigned, Ok}
use Rattle.std.specs.Int.{w32}
use Rattle.sqlite.specs.Order.{Row, column}
use Rattle.sqlite.specs.Values.{or_null}
use Rattle.sqlite.specs.declared.types.Value.{Value}
use Rattle.sqlite.specs.declared.types.Value.TheVariants.{Text}
use Rattle.adr_text.specs.Ids.{is_id}
use Rattle.adr_text.specs.Names.{is_name}
use Rattle.adr_text.specs.Moments.{last_nanos}
use Rattle.adr_objects.specs.Limits.{is_resource_name, is_setpoint}
use Rattle.adr_objects.specs.declared.report.UsageInterval.{UsageInterval}
use Rattle.adr_objects.specs.declared.shown.Stamps.{Stamps}
use Rattle.adr_subscription.specs.declared.kept_sub.Sub.{Sub}
use Rattle.adr_subscription.specs.declared.subscription.SubIn.{SubIn}
use Rattle.adr_subscription.specs.Kept.{kept_of}
use Rattle.adr_subscription.specs.Tokens.{is_token}
use Rattle.adr_delivery.specs.declared.addressee.Addressee.{Addressee}
use Rattle.adr_delivery.specs.declared.addressee.Addressee.TheVariants.{Utility, Subscriber}
use Rattle.adr_delivery.specs.declared.delivery.Delivery.{Delivery}
use Rattle.adr_delivery.specs.declared.entry.Entry.{Entry}
use Rattle.adr_delivery.specs.declared.outbox.EntryCounts.{EntryCounts}
use Rattle.adr_delivery.specs.Entries.{destination, event_of}
use Rattle.adr_delivery.specs.Jobs.{token_for}
use Rattle.adr_delivery.specs.Failing.{most_failures}
use Rattle.adr_delivery.specs.Tallies.{most_tally}
use Rattle.adr_state.specs.declared.base.Mark.{Mark}
use Rattle.adr_state.specs.declared.keys.MirrorKey.{MirrorKey}
use Rattle.adr_state.specs.declared.keys.ShareKey.{ShareKey}
use Rattle.adr_state.specs.declared.keys.FrozenKey.{FrozenKey}
use Rattle.adr_state.specs.declared.keys.ViewKey.{ViewKey}
use Rattle.adr_state.specs.declared.keys.ViewKey.TheVariants as view
use Rattle.adr_state.specs.declared.portfolio.Ven.{Ven}
use Rattle.adr_state.specs.declared.portfolio.Resource.{Resource}
use Rattle.adr_state.specs.declared.participants.Participant.{Participant}
use Rattle.adr_state.specs.Digits.{most_number}
use Rattle.adr_state.specs.Weights.{is_weight}
use Rattle.adr_db.specs.declared.meta.Meta.{Meta}
use Rattle.adr_db.specs.declared.meta.FirstMeta.{FirstMeta}
use Rattle.adr_db.specs.declared.known.MarkColumns.{MarkColumns}
use Rattle.adr_db.specs.declared.outbox.RemoteRow.{RemoteRow}
use Rattle.adr_db.specs.declared.report_columns.ReportColumns.{ReportColumns}
use Rattle.adr_db.specs.declared.shown.RollupColumns.{RollupColumns}
use Rattle.adr_db.specs.declared.shown.ShownColumns.{ShownColumns}
use Rattle.adr_db.specs.declared.shown.ShownKey.{ShownKey}
use Rattle.adr_sql.specs.Keys.{cells}
use Rattle.adr_db.specs.Tables.{first_version}
use Rattle.adr_db.specs.Rows.{number, versioned_row, meta_row, key_row, columns_row, mark_from, ven_columns, resource_columns, share_key_row, frozen_key_row, view_key_row, stamps_columns, participant_row, report_columns_row, interval_columns, owner_cell, remote_row, address_of, entry_columns, shown_key_row, shown_columns, rollup_columns}

-- any number: nothing more is asked of it
abbrev pub IsNumber : ℕ → Type 0
IsNumber n = ⊤

-- an object id as UTF-8: 1 to 128 letters, digits, `-` and `_`
abbrev pub IsIdText : List ℕ → Type 0
IsIdText text = IsUtf8 text × IsTrue (is_id text)

-- a name: a UTF-8 text of 1 to 128 bytes
abbrev pub IsNameText : List ℕ → Type 0
IsNameText text = IsUtf8 text × IsTrue (is_name text)

-- a moment: at most 2199-12-31T23:59:59.999999999Z, in nanoseconds from 1970
abbrev pub IsMoment : ℕ → Type 0
IsMoment moment = moment ≤ last_nanos

-- when it was created and when it was modified are each such a moment
abbrev pub AreStamps : Stamps → Type 0
AreStamps stamps = IsMoment stamps.created × IsMoment stamps.modified

-- the counts made, sent, given up and dropped are each at most 9·10^15
abbrev pub AreCounts : EntryCounts → Type 0
AreCounts counts = (counts.made ≤ most_tally) × ((counts.sent ≤ most_tally) × ((counts.given_up ≤ most_tally) × (counts.dropped ≤ most_tally)))

-- of the numbers of the node the serial and each of the four counts is at most 9·10^15
abbrev pub AreNumbers : Meta → Type 0
AreNumbers meta = (meta.serial ≤ most_number) × AreCounts meta.counts

-- the id of an upstream key is an object id
abbrev pub IsKey : MirrorKey → Type 0
IsKey key = IsIdText key.id

-- the columns of a mark: the state is below 2^32, and the body is UTF-8
abbrev pub AreColumns : MarkColumns → Type 0
AreColumns columns = (columns.state < 2 ^ 32) × IsUtf8 (string_bytes columns.body)

-- a ven: its name has 1 to 128 bytes, and its stamps are in range
abbrev pub IsVen : Ven → Type 0
IsVen ven = IsNameText ven.name × AreStamps ven.stamps

-- a name that stands for one resource: 1 to 128 bytes of UTF-8, but not `AGGREGATED_REPORT`
abbrev pub IsResourceNameText : List ℕ → Type 0
IsResourceNameText text = IsUtf8 text × IsTrue (is_resource_name text)

-- a resource: its name stands for one resource, and its stamps are in range
abbrev pub IsResource : Resource → Type 0
IsResource resource = IsResourceNameText resource.name × AreStamps resource.stamps

-- the key of a share: its program is an object id
abbrev pub IsShareKey : ShareKey → Type 0
IsShareKey key = IsIdText key.program

-- the key of a frozen share: its event is an object id
abbrev pub IsFrozenKey : FrozenKey → Type 0
IsFrozenKey key = IsIdText key.event

-- the upstream id in a key of what is shown is an object id; the key of a report has no id
abbrev pub IsViewKey : ViewKey → Type 0
IsViewKey (view.Program id) = IsIdText id
IsViewKey (view.Event id resource) = IsIdText id
IsViewKey (view.Report n) = IsNumber n
IsViewKey (view.Rollup id) = IsIdText id

-- a key of what is shown with its stamps: its upstream id, where it has one, is an object id; they are in range
abbrev pub IsStamped : ViewKey × Stamps → Type 0
IsStamped e = IsViewKey e.0 × AreStamps e.1

-- a weight from 1 to 1,000,000, and the names of the resource and of its ven, of 1 to 128 bytes each
abbrev pub IsParticipant : Participant → Type 0
IsParticipant p = IsTrue (is_weight p.weight) × (IsNameText p.name × IsNameText p.ven_name)

-- the name of a report, where it has one: at most 256 bytes of UTF-8
abbrev pub IsReportNameText : List ℕ → Type 0
IsReportNameText text = IsUtf8 text × (length text ≤ 256)

-- what a report is about: event and program are object ids, client and resource name are names, and its own name,
-- where it has one, has at most 256 bytes
abbrev pub AreReportColumns : ReportColumns → Type 0
AreReportColumns columns = IsIdText columns.head.event × (IsIdText columns.head.program × (IsNameText columns.head.client × (IfSome columns.head.name IsReportNameText × IsNameText columns.head.resource_name)))

-- a usage: its magnitude is at most 10^12
abbrev pub IsUsage : ℤ → Type 0
IsUsage usage = IsTrue (is_setpoint usage)

-- an interval of a report: its id fits in 32 bits with a sign, and its usage, where it has one, is of at most 10^12
abbrev pub IsUsageInterval : UsageInterval → Type 0
IsUsageInterval interval = FitsSigned w32 interval.id × IfSome interval.usage IsUsage

-- of a subscription, its stamps: its body reads of a text
abbrev pub IsKeptSub : Sub → Type 0
IsKeptSub sub = AreStamps sub.stamps

-- the utility's id of a report, and the upstream event
abbrev pub IsRemote : RemoteRow → Type 0
IsRemote remote = IsIdText remote.event × IsIdText remote.id

-- a bearer token: 1 to 1,024 characters from `!` to `~`
abbrev pub IsTokenText : List ℕ → Type 0
IsTokenText text = IsUtf8 text × IsTrue (is_token text)

-- the event that the utility is told of is an object id; an address is UTF-8, and its token, if any, a bearer token
abbrev pub IsAddressee : Addressee → Type 0
IsAddressee (Utility event) = IsIdText event
IsAddressee (Subscriber subscription address token) = IsUtf8 address × IfSome token IsTokenText

-- a delivery: it failed at most seven times, and the end of its lease, if any, and when it is due are in range
abbrev pub IsDelivery : Delivery → Type 0
IsDelivery d = (d.failures ≤ most_failures) × (IfSome d.lease IsMoment × IsMoment d.due)

-- an entry that waits: its addressee and its delivery are so, and its body is UTF-8
abbrev pub IsWaiting : Entry → Type 0
IsWaiting entry = IsAddressee entry.addressee × (IsUtf8 entry.body × IsDelivery entry.delivery)

-- a weight alone, from 1 to 1,000,000
abbrev pub IsShareWeight : ℕ → Type 0
IsShareWeight weight = IsTrue (is_weight weight)

-- an upstream key, whose id is an object id, with a mark of which nothing is asked
abbrev pub IsEntry : MirrorKey × Mark → Type 0
IsEntry e = IsKey e.0 × ⊤

-- a subscription behind its number
abbrev pub IsSubEntry : ℕ × Sub → Type 0
IsSubEntry e = IsNumber e.0 × IsKeptSub e.1

-- an entry that waits behind its number
abbrev pub IsWaitingEntry : ℕ × Entry → Type 0
IsWaitingEntry e = IsNumber e.0 × IsWaiting e.1

-- a frozen share: its event is an object id, and its weight is from 1 to 1,000,000
abbrev pub IsFrozenShare : FrozenKey × ℕ → Type 0
IsFrozenShare e = IsFrozenKey e.0 × IsShareWeight e.1

-- the key of a shown event: its upstream event is an object id
abbrev pub IsShownKey : ShownKey → Type 0
IsShownKey key = IsIdText key.event

-- what is kept of a shown event: the program is an object id, the names have 1 to 128 bytes each, and the object is UTF-8
abbrev pub AreShownColumns : ShownColumns → Type 0
AreShownColumns c = IsIdText c.program × (IsNameText c.ven_name × (IsNameText c.resource_name × IsUtf8 c.body))

-- what is kept of a roll-up: the program is an object id, and the object is UTF-8
abbrev pub AreRollupColumns : RollupColumns → Type 0
AreRollupColumns c = IsIdText c.program × IsUtf8 c.body

-- ---- how a row reads

-- the first column is this number
abbrev pub ReadsNumber : Row → ℕ → Type 0
ReadsNumber row n = number n ≡ column row 0

-- the row is that of these numbers of the node: 16 columns from the first on
abbrev pub ReadsMeta : Row → Meta → Type 0
ReadsMeta row meta = meta_row meta ≡ cells 0 16 row

-- so it is, where the row says this version of the tables
abbrev pub ReadsVersioned : ℕ → Row → Meta → Type 0
ReadsVersioned n row meta = versioned_row n meta ≡ cells 0 16 row

-- and where it says the first one
abbrev pub ReadsFirst : Row → FirstMeta → Type 0
ReadsFirst row first = ReadsVersioned first_version row first.numbers

-- the first two columns are the kind and the id of this upstream key
abbrev pub ReadsKey : Row → MirrorKey → Type 0
ReadsKey row key = key_row key ≡ cells 0 2 row

-- the three columns behind a key are these: the state, the moment and the text of a mark
abbrev pub ReadsColumns : Row → MarkColumns → Type 0
ReadsColumns row columns = columns_row columns ≡ cells 2 3 row

-- a mark as it is read of a row: the columns stand for it
abbrev pub ReadsMark : Row → Mark → Type 0
ReadsMark row mark = (columns : MarkColumns) × AreColumns columns × (columns_row columns ≡ cells 2 3 row) × (mark_from columns ≡ Ok mark)

-- the row reads as this upstream key, and behind it as this mark
abbrev pub ReadsEntry : Row → MirrorKey × Mark → Type 0
ReadsEntry row e = ReadsKey row e.0 × ReadsMark row e.1

-- the three columns behind the number are this ven's: its name and its stamps
abbrev pub ReadsVen : Row → Ven → Type 0
ReadsVen row ven = ven_columns ven ≡ cells 1 3 row

-- the row reads as this ven behind its number
abbrev pub ReadsVenEntry : Row → ℕ × Ven → Type 0
ReadsVenEntry row e = ReadsNumber row e.0 × ReadsVen row e.1

-- the four columns behind the number are this resource's: its ven, its name and its stamps
abbrev pub ReadsResource : Row → Resource → Type 0
ReadsResource row resource = resource_columns resource ≡ cells 1 4 row

-- the row reads as this resource behind its number
abbrev pub ReadsResourceEntry : Row → ℕ × Resource → Type 0
ReadsResourceEntry row e = ReadsNumber row e.0 × ReadsResource row e.1

-- the first two columns are this program and this resource
abbrev pub ReadsShareKey : Row → ShareKey → Type 0
ReadsShareKey row key = share_key_row key ≡ cells 0 2 row

-- the third column is this weight
abbrev pub ReadsShareWeight : Row → ℕ → Type 0
ReadsShareWeight row weight = number weight ≡ column row 2

-- the row reads as this key of a share, and behind it as its weight
abbrev pub ReadsShare : Row → ShareKey × ℕ → Type 0
ReadsShare row e = ReadsShareKey row e.0 × ReadsShareWeight row e.1

-- the first column is this id
abbrev pub ReadsId : Row → List ℕ → Type 0
ReadsId row id = Text id ≡ column row 0

-- the first two columns are this event and this resource
abbrev pub ReadsFrozenKey : Row → FrozenKey → Type 0
ReadsFrozenKey row key = frozen_key_row key ≡ cells 0 2 row

-- the row reads as this key of a frozen share, and behind it as its weight
abbrev pub ReadsFrozenShare : Row → FrozenKey × ℕ → Type 0
ReadsFrozenShare row e = ReadsFrozenKey row e.0 × ReadsShareWeight row e.1

-- the first three columns are this key of what is shown: its kind, its upstream id and its number
abbrev pub ReadsViewKey : Row → ViewKey → Type 0
ReadsViewKey row key = view_key_row key ≡ cells 0 3 row

-- the two columns behind a key of what is shown are these stamps
abbrev pub ReadsStamps : Row → Stamps → Type 0
ReadsStamps row stamps = stamps_columns stamps ≡ cells 3 2 row

-- the row reads as this key of what is shown with its stamps
abbrev pub ReadsStamped : Row → ViewKey × Stamps → Type 0
ReadsStamped row e = ReadsViewKey row e.0 × ReadsStamps row e.1

-- the seven columns behind the number are these of a report: what it is about, and its revision
abbrev pub ReadsReportColumns : Row → ReportColumns → Type 0
ReadsReportColumns row columns = report_columns_row columns ≡ cells 1 7 row

abbrev pub ReadsReportEntry : Row → ℕ × ReportColumns → Type 0
ReadsReportEntry row e = ReadsNumber row e.0 × ReadsReportColumns row e.1

-- the third and the fourth column are this interval's id and its usage, or NULL
abbrev pub ReadsUsageInterval : Row → UsageInterval → Type 0
ReadsUsageInterval row interval = interval_columns interval ≡ cells 2 2 row

-- the body of a subscription is what the text in its column is read as
abbrev pub ReadsBody : Value → SubIn → Type 0
ReadsBody value body = (text : List ℕ) × IsUtf8 text × (value ≡ Text text) × (kept_of text ≡ Ok body)

-- the row reads as this subscription: behind its number the ven or NULL, the text of its body, and its stamps
abbrev pub ReadsSub : Row → Sub → Type 0
ReadsSub row sub = (owner_cell sub.owner ≡ column row 1) × (ReadsBody (column row 2) sub.body × (stamps_columns sub.stamps ≡ cells 3 2 row))

-- the row reads as this subscription behind its number
abbrev pub ReadsSubEntry : Row → ℕ × Sub → Type 0
ReadsSubEntry row e = ReadsNumber row e.0 × ReadsSub row e.1

-- the first two columns are this upstream event and the utility's id of the report on it
abbrev pub ReadsRemote : Row → RemoteRow → Type 0
ReadsRemote row remote = remote_row (remote.event, remote.id) ≡ cells 0 2 row

-- an addressee of its parts: the destination, the event, the address and the token
abbrev pub AreParts : Addressee → ℕ → Option (List ℕ) → List ℕ → Option (List ℕ) → Type 0
AreParts addressee dest event address token = (destination addressee ≡ dest) × ((event_of addressee ≡ event) × ((address_of addressee ≡ address) × (token_for addressee ≡ token)))

-- the second, third, fifth and sixth column are this addressee's: destination, event or NULL, address, token or NULL
abbrev pub ReadsAddressee : Row → Addressee → Type 0
ReadsAddressee row a = (number (destination a) ≡ column row 1) × ((or_null Text (event_of a) ≡ column row 2) × ((Text (address_of a) ≡ column row 4) × (or_null Text (token_for a) ≡ column row 5)))

-- the eleven columns behind the number are this entry's
abbrev pub ReadsWaiting : Row → Entry → Type 0
ReadsWaiting row entry = entry_columns entry ≡ cells 1 11 row

-- the row reads as this entry behind its number
abbrev pub ReadsWaitingEntry : Row → ℕ × Entry → Type 0
ReadsWaitingEntry row e = ReadsNumber row e.0 × ReadsWaiting row e.1

-- the first two columns are this key of a shown event
abbrev pub ReadsShownKey : Row → ShownKey → Type 0
ReadsShownKey row key = shown_key_row key ≡ cells 0 2 row

-- the five columns behind the key are these of a shown event
abbrev pub ReadsShownColumns : Row → ShownColumns → Type 0
ReadsShownColumns row c = shown_columns c ≡ cells 2 5 row

-- the two columns behind the upstream event are these of its roll-up
abbrev pub ReadsRollupColumns : Row → RollupColumns → Type 0
ReadsRollupColumns row c = rollup_columns c ≡ cells 1 2 row

-- the first four columns are this participant: its number, its weight, its name and its ven's name
abbrev pub ReadsParticipant : Row → Participant → Type 0
ReadsParticipant row p = participant_row p ≡ cells 0 4 row
