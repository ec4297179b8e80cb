-- What the tables hold, read back. What no call writes reads as a default: 0, no text, a program, deleted, or a subscription to nothing.
use Rattle.std.specs.Prelude.{ℕ, ℤ, pos, Bool, ◌==◌, if◌then◌else◌, List, [], map, drop, get_or, Option, None, Some, Result, Ok, Err}
use Rattle.sqlite.specs.declared.types.Value.{Value}
use Rattle.sqlite.specs.declared.types.Value.TheVariants.{Int, Text}
use Rattle.sqlite.specs.Order.{Row, column}
use Rattle.sqlite.specs.Tree.{Trees}
use Rattle.sqlite.specs.State as sql
use Rattle.adr_text.specs.declared.refusal.Refusal.{Refusal}
use Rattle.adr_objects.specs.declared.body.Body.{Body}
use Rattle.adr_objects.specs.declared.kind.Kind.{Kind}
use Rattle.adr_objects.specs.declared.kind.Kind.TheVariants.{Program, Event}
use Rattle.adr_objects.specs.declared.shown.Stamps.{Stamps}
use Rattle.adr_objects.specs.declared.report.ReportHead.{ReportHead}
use Rattle.adr_objects.specs.declared.report.UsageInterval.{UsageInterval}
use Rattle.adr_objects.specs.ReadBack.{canonical_of}
use Rattle.adr_subscription.specs.declared.kept_sub.Sub.{Sub}
use Rattle.adr_subscription.specs.declared.subscription.SubIn.{SubIn}
use Rattle.adr_subscription.specs.Kept.{kept_of}
use Rattle.adr_subscription.specs.declared.words.OperationKind.{OperationKind}
use Rattle.adr_subscription.specs.declared.words.OperationKind.TheVariants.{Get, Post, Put, Delete}
use Rattle.adr_delivery.specs.declared.addressee.Addressee.{Addressee}
use Rattle.adr_delivery.specs.declared.addressee.Addressee.TheVariants.{Utility, Subscriber}
use Rattle.adr_delivery.specs.declared.delivery.Delivery.{Delivery}
use Rattle.adr_delivery.specs.declared.entry.Entry.{Entry}
use Rattle.adr_state.specs.declared.base.Mark.{Mark}
use Rattle.adr_state.specs.declared.base.Mark.TheVariants.{Live, Dead}
use Rattle.adr_state.specs.declared.portfolio.Ven.{Ven}
use Rattle.adr_state.specs.declared.portfolio.Resource.{Resource}
use Rattle.adr_state.specs.declared.portfolio.Report.{Report}
use Rattle.adr_state.specs.declared.keys.MirrorKey.{MirrorKey}
use Rattle.adr_state.specs.declared.keys.ShareKey.{ShareKey}
use Rattle.adr_state.specs.declared.keys.FrozenKey.{FrozenKey}
use Rattle.adr_state.specs.declared.keys.ViewKey.{ViewKey}
use Rattle.adr_state.specs.declared.keys.ViewKey.TheVariants as view
use Rattle.adr_state.specs.declared.state.State.{State}
use Rattle.adr_sql.specs.Keys.{rows_at}
use Rattle.adr_sql.specs.Contents.{Contents, rows_of_table}
use Rattle.adr_sql.specs.Stored.{contents_in}
use Rattle.adr_db.specs.declared.meta.Meta.{Meta}
use Rattle.adr_db.specs.declared.shown.RollupColumns.{RollupColumns}
use Rattle.adr_db.specs.declared.shown.ShownColumns.{ShownColumns}
use Rattle.adr_db.specs.declared.shown.ShownKey.{ShownKey}
use Rattle.adr_db.specs.Tables.{schema}
use Rattle.adr_db.specs.Kept.{Kept}
use Rattle.adr_db.specs.Images.{image_kept}

-- the number that a value is, and 0 of any other value
abbrev pub number_of : Value → ℕ
number_of (Int (pos n)) = n
number_of _ = 0

-- the text that a value is, and no text of any other value
abbrev pub text_of : Value → List ℕ
text_of (Text t) = t
text_of _ = []

-- an integer
abbrev pub integer_of : Value → ℤ
integer_of (Int n) = n
integer_of _ = pos 0

-- what a value is that may be NULL
abbrev pub name_of : Value → Option (List ℕ)
name_of (Text t) = Some t
name_of _ = None

abbrev pub usage_of : Value → Option ℤ
usage_of (Int n) = Some n
usage_of _ = None

-- 1 is yes
abbrev pub flag_of : Value → Bool
flag_of v = number_of v == 1

-- 2 is an event
abbrev pub kind_of : Value → Kind
kind_of v = if number_of v == 2 then Event else Program

-- ---- a row of each table, and what stands behind a key

-- the numbers of the node
abbrev pub meta_in : Row → Meta
meta_in row = record {
  serial = number_of (column row 2);
  scan = flag_of (column row 3);
  counts = record { made = number_of (column row 4); sent = number_of (column row 5); given_up = number_of (column row 6); dropped = number_of (column row 7) };
  pending = number_of (column row 8);
  keys = number_of (column row 9);
  vens = number_of (column row 10);
  resources = number_of (column row 11);
  shares = number_of (column row 12);
  reports = number_of (column row 13);
  subs = number_of (column row 14);
  frozen = number_of (column row 15);
}

-- a key of the mirror
abbrev pub key_in : Row → MirrorKey
key_in row = record { kind = kind_of (column row 0); id = text_of (column row 1) }

-- a version of that moment, where its canonical text reads, and else a deletion
abbrev pub live_in : ℕ → Result Body Refusal → Mark
live_in moment (Ok body) = Live moment body
live_in moment (Err e) = Dead

-- a mark: 1 is a version
abbrev pub mark_in : Row → Mark
mark_in columns = if number_of (column columns 0) == 1 then live_in (number_of (column columns 1)) (canonical_of (text_of (column columns 2))) else Dead

-- a key with its mark
abbrev pub entry_in : Row → MirrorKey × Mark
entry_in row = (key_in row, mark_in (drop 2 row))

-- when it was created and when it was modified, of the first two columns
abbrev pub stamps_in : Row → Stamps
stamps_in columns = record { created = number_of (column columns 0); modified = number_of (column columns 1) }

-- a ven of the columns behind its number: its name and its stamps
abbrev pub ven_in : Row → Ven
ven_in columns = record { name = text_of (column columns 0); stamps = stamps_in (drop 1 columns) }

-- a resource of the columns behind its number: its ven, its name and its stamps
abbrev pub resource_in : Row → Resource
resource_in columns = record { ven = number_of (column columns 0); name = text_of (column columns 1); stamps = stamps_in (drop 2 columns) }

-- what a report is about
abbrev pub head_in : Row → ReportHead
head_in columns = record {
  program = text_of (column columns 2);
  event = text_of (column columns 0);
  resource = number_of (column columns 1);
  client = text_of (column columns 3);
  name = name_of (column columns 4);
  resource_name = text_of (column columns 5);
}

-- an interval of a report, behind its number and its place
abbrev pub interval_in : Row → UsageInterval
interval_in row = record { id = integer_of (column row 2); usage = usage_of (column row 3) }

-- a report behind its number: its intervals are the rows of the other table that begin with that, in their order
abbrev pub report_in : List Row → Row → ℕ × Report
report_in values row = (number_of (column row 0), record { revision = number_of (column row 7); body = record { head = head_in (drop 1 row); intervals = map interval_in (rows_at 1 row values) } })

-- the ven that a subscription is of, where it is of one
abbrev pub owner_of : Value → Option ℕ
owner_of (Int (pos n)) = Some n
owner_of _ = None

-- the body of a subscription, where its text reads; else one to nothing, of a client without a name
abbrev pub body_in : Result SubIn Refusal → SubIn
body_in (Ok body) = body
body_in (Err e) = record { client_name = []; program = None; items = []; targets = None }

-- a subscription of the columns behind its number: its body is what its text reads as
abbrev pub sub_in : Row → Sub
sub_in columns = record { owner = owner_of (column columns 0); body = body_in (kept_of (text_of (column columns 1))); stamps = stamps_in (drop 2 columns) }

-- what stands behind a number, with it
abbrev pub numbered_in : {V : Type 0} → (Row → V) → Row → ℕ × V
numbered_in value_in row = (number_of (column row 0), value_in (drop 1 row))

-- a key of the shares
abbrev pub share_key_in : Row → ShareKey
share_key_in row = record { program = text_of (column row 0); resource = number_of (column row 1) }

-- a share behind its key
abbrev pub share_in : Row → ShareKey × ℕ
share_in row = (share_key_in row, number_of (column row 2))

-- an event whose shares are frozen
abbrev pub frozen_in : Row → List ℕ × Unit {0}
frozen_in row = (text_of (column row 0), tt)

-- a key of the frozen shares
abbrev pub frozen_key_in : Row → FrozenKey
frozen_key_in row = record { event = text_of (column row 0); resource = number_of (column row 1) }

-- a frozen share behind its key
abbrev pub frozen_share_in : Row → FrozenKey × ℕ
frozen_share_in row = (frozen_key_in row, number_of (column row 2))

-- a key of what is shown, from its kind, its id and its number: 2 is what a resource is shown of an event, 3 a report, 4 the roll-up of an event
abbrev pub view_key_of : ℕ → List ℕ → ℕ → ViewKey
view_key_of kind id n = if kind == 2 then view.Event id n else (if kind == 3 then view.Report n else (if kind == 4 then view.Rollup id else view.Program id))

abbrev pub view_key_in : Row → ViewKey
view_key_in row = view_key_of (number_of (column row 0)) (text_of (column row 1)) (number_of (column row 2))

-- a key of what is shown with its stamps
abbrev pub stamped_in : Row → ViewKey × Stamps
stamped_in row = (view_key_in row, stamps_in (drop 3 row))

-- the utility's id of a report behind the upstream event
abbrev pub remote_in : Row → List ℕ × List ℕ
remote_in row = (text_of (column row 0), text_of (column row 1))

-- 2 is PUT, 3 DELETE, 4 GET
abbrev pub operation_of : ℕ → OperationKind
operation_of n = if n == 2 then Put else (if n == 3 then Delete else (if n == 4 then Get else Post))

-- where an entry goes: to the utility where it has an event
abbrev pub addressee_in : Option (List ℕ) → Row → Addressee
addressee_in (Some event) columns = Utility event
addressee_in None columns = Subscriber (number_of (column columns 0)) (text_of (column columns 3)) (name_of (column columns 4))

-- failures, leases, the end of the lease where there is one, and from when on the entry is due
abbrev pub delivery_in : Row → Delivery
delivery_in columns = record {
  failures = number_of (column columns 0);
  leases = number_of (column columns 1);
  lease = if flag_of (column columns 2) then Some (number_of (column columns 3)) else None;
  due = number_of (column columns 4);
}

-- an entry of the columns behind its number: it goes to the utility where the row has an event
abbrev pub waiting_in : Row → Entry
waiting_in columns = record {
  addressee = addressee_in (name_of (column columns 1)) columns;
  operation = operation_of (number_of (column columns 2));
  body = text_of (column columns 5);
  delivery = delivery_in (drop 6 columns);
}

-- a key of a shown event
abbrev pub shown_key_in : Row → ShownKey
shown_key_in row = record { event = text_of (column row 0); resource = number_of (column row 1) }

-- a shown event behind its key
abbrev pub shown_in : Row → ShownKey × ShownColumns
shown_in row = (shown_key_in row, record { program = text_of (column row 2); ven = number_of (column row 3); ven_name = text_of (column row 4); resource_name = text_of (column row 5); body = text_of (column row 6) })

-- a roll-up behind the upstream event
abbrev pub rollup_in : Row → List ℕ × RollupColumns
rollup_in row = (text_of (column row 0), record { program = text_of (column row 1); body = text_of (column row 2) })

-- ---- all tables

-- what is kept, of the rows of the tables in their order
abbrev pub kept_from : Contents → Kept
kept_from all = record {
  meta = meta_in (get_or (rows_of_table all 0) 0 []);
  mirror = map entry_in (rows_of_table all 1);
  polled = map key_in (rows_of_table all 2);
  portfolio = record {
    vens = map (numbered_in ven_in) (rows_of_table all 3);
    resources = map (numbered_in resource_in) (rows_of_table all 4);
    shares = map share_in (rows_of_table all 5);
    reports = map (report_in (rows_of_table all 8)) (rows_of_table all 7);
    subs = map (numbered_in sub_in) (rows_of_table all 9);
    frozen = map frozen_in (rows_of_table all 15);
    frozen_shares = map frozen_share_in (rows_of_table all 16);
  };
  stamps = map stamped_in (rows_of_table all 6);
  remotes = map remote_in (rows_of_table all 10);
  entries = map (numbered_in waiting_in) (rows_of_table all 11);
  shown = map shown_in (rows_of_table all 12);
  rollups = map rollup_in (rows_of_table all 13);
}

-- what trees keep
unfoldable pub kept_in : Trees → Kept
kept_in trees = kept_from (contents_in schema.tables trees)

-- what a store holds, as a state
unfoldable pub state_in : sql.State → State
state_in s = image_kept (kept_in s.now.trees)
