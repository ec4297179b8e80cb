-- The tables of the node, in the order in which they are made. The tree of each follows from that order.
use Rattle.std.specs.Prelude.{ℕ, pos, List, [], ◌∷◌, ◌++◌, codes}
use Rattle.sqlite.specs.Kind.TheVariants.{Integer, Text}
use Rattle.sqlite.specs.Table.{Table}
use Rattle.sqlite.specs.Schema.{Schema}
use Rattle.sqlite_value.specs.declared.keys.Collation.TheVariants.{Binary}
use Rattle.sqlite_value.specs.declared.value.Value.TheVariants.{Int}
use Rattle.sqlite_sql.specs.declared.ops.BinaryOp.TheVariants.{And, Compare}
use Rattle.sqlite_sql.specs.declared.ops.CompareOp.TheVariants.{Ge, Le}
use Rattle.sqlite_sql.specs.Term.{Term, col, lit, op2}
use Rattle.adr_sql.specs.Schemas.{column, nullable_column, cascades_to, table, checked_table, schema_of}

-- one row, of key 1: the version of these tables, and the numbers of the node
abbrev pub meta_table : Table
meta_table =
    table (codes "meta") (column (codes "k") Integer
    ∷ column (codes "version") Integer
    ∷ column (codes "serial") Integer
    ∷ column (codes "scan") Integer
    ∷ column (codes "made") Integer
    ∷ column (codes "sent") Integer
    ∷ column (codes "given_up") Integer
    ∷ column (codes "dropped") Integer
    ∷ column (codes "pending") Integer
    ∷ column (codes "keys") Integer
    ∷ column (codes "vens") Integer
    ∷ column (codes "resources") Integer
    ∷ column (codes "shares") Integer
    ∷ column (codes "reports") Integer
    ∷ column (codes "subs") Integer
    ∷ column (codes "frozen") Integer
    ∷ []) ((1 ∷ []) ∷ []) (1 ∷ []) []

-- what is known of each upstream key, and of a live event its program: the second unique key is there to find the live events of a program
abbrev pub mirror_table : Table
mirror_table =
    table (codes "mirror") (column (codes "kind") Integer
    ∷ column (codes "id") Text
    ∷ column (codes "state") Integer
    ∷ column (codes "moment") Integer
    ∷ column (codes "body") Text
    ∷ nullable_column (codes "program") Text
    ∷ []) ((1 ∷ 2 ∷ []) ∷ (6 ∷ 1 ∷ 2 ∷ []) ∷ []) (1 ∷ 2 ∷ []) []

-- the keys that were polled since the scan began
abbrev pub polled_table : Table
polled_table = table (codes "polled") (column (codes "kind") Integer ∷ column (codes "id") Text ∷ []) ((1 ∷ 2 ∷ []) ∷ []) (1 ∷ 2 ∷ []) []

-- the vens that are enrolled
abbrev pub ven_table : Table
ven_table =
    table (codes "ven") (column (codes "id") Integer
    ∷ column (codes "name") Text
    ∷ column (codes "created") Integer
    ∷ column (codes "modified") Integer
    ∷ []) ((1 ∷ []) ∷ (2 ∷ []) ∷ []) (1 ∷ []) []

-- their resources, which go with their ven: the last unique key is there to find them by it
abbrev pub resource_table : Table
resource_table =
    table (codes "resource") (column (codes "id") Integer
    ∷ column (codes "ven") Integer
    ∷ column (codes "name") Text
    ∷ column (codes "created") Integer
    ∷ column (codes "modified") Integer
    ∷ []) ((1 ∷ []) ∷ (3 ∷ []) ∷ (2 ∷ 1 ∷ []) ∷ []) (1 ∷ []) (cascades_to 2 (codes "ven") (codes "id") ∷ [])

-- a weight is from 1 to 1,000,000
abbrev pub weight_check : Term
weight_check = op2 And (op2 (Compare Ge Binary) (col 1 3) (lit (Int (pos 1)))) (op2 (Compare Le Binary) (col 1 3) (lit (Int (pos 1_000_000))))

-- the shares of resources in programs, which go with their resource: the second unique key is there to find them by it
abbrev pub share_table : Table
share_table =
    checked_table (codes "share") (column (codes "program") Text
    ∷ column (codes "resource") Integer
    ∷ column (codes "weight") Integer
    ∷ []) ((1 ∷ 2 ∷ []) ∷ (2 ∷ 1 ∷ []) ∷ []) (1 ∷ 2 ∷ []) (weight_check ∷ []) (cascades_to 2 (codes "resource") (codes "id") ∷ [])

-- when each key of what is shown appeared and changed
abbrev pub stamp_table : Table
stamp_table =
    table (codes "stamp") (column (codes "kind") Integer
    ∷ column (codes "a") Text
    ∷ column (codes "b") Integer
    ∷ column (codes "created") Integer
    ∷ column (codes "modified") Integer
    ∷ []) ((1 ∷ 2 ∷ 3 ∷ []) ∷ []) (1 ∷ 2 ∷ 3 ∷ []) []

-- the reports on resources, which go with their resource, without their intervals: a revision is that of one report, and the other unique keys are
-- there to find reports by their event and by their resource
abbrev pub report_table : Table
report_table =
    table (codes "report") (column (codes "id") Integer
    ∷ column (codes "event") Text
    ∷ column (codes "resource") Integer
    ∷ column (codes "program") Text
    ∷ column (codes "client") Text
    ∷ nullable_column (codes "name") Text
    ∷ column (codes "resource_name") Text
    ∷ column (codes "revision") Integer
    ∷ []) ((1 ∷ []) ∷ (8 ∷ []) ∷ (2 ∷ 1 ∷ []) ∷ (3 ∷ 1 ∷ []) ∷ []) (1 ∷ []) (cascades_to 3 (codes "resource") (codes "id") ∷ [])

-- the intervals of a report, by their places in it, which go with their report
abbrev pub report_value_table : Table
report_value_table =
    table (codes "report_value") (column (codes "report") Integer
    ∷ column (codes "pos") Integer
    ∷ column (codes "interval") Integer
    ∷ nullable_column (codes "value") Integer
    ∷ []) ((1 ∷ 2 ∷ []) ∷ []) (1 ∷ 2 ∷ []) (cascades_to 1 (codes "report") (codes "id") ∷ [])

-- the subscriptions, which go with the ven that they are of; those of no ven are the operator's. The second unique key is there to find them by
-- their ven
abbrev pub sub_table : Table
sub_table =
    table (codes "sub") (column (codes "id") Integer
    ∷ nullable_column (codes "ven") Integer
    ∷ column (codes "body") Text
    ∷ column (codes "created") Integer
    ∷ column (codes "modified") Integer
    ∷ []) ((1 ∷ []) ∷ (2 ∷ 1 ∷ []) ∷ []) (1 ∷ []) (cascades_to 2 (codes "ven") (codes "id") ∷ [])

-- the utility's ids of the reports that it was sent, by their upstream events
abbrev pub remote_table : Table
remote_table = table (codes "remote") (column (codes "event") Text ∷ column (codes "id") Text ∷ []) ((1 ∷ []) ∷ []) (1 ∷ []) []

-- the entries that wait: one for the utility has an event, one for a subscription an address and perhaps a token. The second unique key is there to
-- find those of a destination
abbrev pub outbox_table : Table
outbox_table =
    table (codes "outbox") (column (codes "id") Integer
    ∷ column (codes "dest") Integer
    ∷ nullable_column (codes "event") Text
    ∷ column (codes "operation") Integer
    ∷ column (codes "url") Text
    ∷ nullable_column (codes "token") Text
    ∷ column (codes "body") Text
    ∷ column (codes "failed") Integer
    ∷ column (codes "leases") Integer
    ∷ column (codes "leased") Integer
    ∷ column (codes "until") Integer
    ∷ column (codes "due") Integer
    ∷ []) ((1 ∷ []) ∷ (2 ∷ 1 ∷ []) ∷ []) (1 ∷ []) []

-- what the resources are shown of upstream events: the program, the ven and the names, and the object without its id, its client and its stamps. No
-- reference holds it, so that what goes is found by who compares; the further unique keys are there to find what a ven, and of a program, is shown
abbrev pub shown_table : Table
shown_table =
    table (codes "shown") (column (codes "event") Text
    ∷ column (codes "resource") Integer
    ∷ column (codes "program") Text
    ∷ column (codes "ven") Integer
    ∷ column (codes "ven_name") Text
    ∷ column (codes "resource_name") Text
    ∷ column (codes "body") Text
    ∷ []) ((1 ∷ 2 ∷ []) ∷ (4 ∷ 1 ∷ 2 ∷ []) ∷ (3 ∷ 1 ∷ 2 ∷ []) ∷ []) (1 ∷ 2 ∷ []) []

-- the roll-ups of upstream events: the program, and the object without its client
abbrev pub rollup_table : Table
rollup_table =
    table (codes "rollup") (column (codes "event") Text
    ∷ column (codes "program") Text
    ∷ column (codes "body") Text
    ∷ []) ((1 ∷ []) ∷ []) (1 ∷ []) []

-- the first entry of each destination, by its number: it follows from `outbox`, and is there to find what leaves next without a look at all that waits
abbrev pub head_table : Table
head_table = table (codes "head") (column (codes "dest") Integer ∷ column (codes "entry") Integer ∷ []) ((1 ∷ []) ∷ []) (1 ∷ []) []

-- the events whose shares are frozen
abbrev pub frozen_table : Table
frozen_table = table (codes "frozen") (column (codes "event") Text ∷ []) ((1 ∷ []) ∷ []) (1 ∷ []) []

-- the shares that are kept for frozen events, which go with their resource: the second unique key is there to find them by it
abbrev pub frozen_share_table : Table
frozen_share_table =
    checked_table (codes "frozen_share") (column (codes "event") Text
    ∷ column (codes "resource") Integer
    ∷ column (codes "weight") Integer
    ∷ []) ((1 ∷ 2 ∷ []) ∷ (2 ∷ 1 ∷ []) ∷ []) (1 ∷ 2 ∷ []) (weight_check ∷ []) (cascades_to 2 (codes "resource") (codes "id") ∷ [])

-- `meta`, `mirror`, `polled`, `ven`, `resource`, `share`, `stamp`, `report`, `report_value`, `sub`, `remote`, `outbox`,
-- `shown`, `rollup` and `head`, in this order: the tables of version 1
abbrev pub first_tables : List Table
first_tables =
    meta_table
    ∷ mirror_table
    ∷ polled_table
    ∷ ven_table
    ∷ resource_table
    ∷ share_table
    ∷ stamp_table
    ∷ report_table
    ∷ report_value_table
    ∷ sub_table
    ∷ remote_table
    ∷ outbox_table
    ∷ shown_table
    ∷ rollup_table
    ∷ head_table
    ∷ []

-- what version 2 has beside them: `frozen` and `frozen_share`
abbrev pub later_tables : List Table
later_tables = frozen_table ∷ frozen_share_table ∷ []

-- the tables of today: those of version 1 and then those of version 2
abbrev pub tables : List Table
tables = first_tables ++ later_tables

-- the schema of version 1
abbrev pub first_schema : Schema
first_schema = schema_of first_tables

-- the schema after these tables were made, one after another, from an empty database
abbrev pub schema : Schema
schema = schema_of tables

-- the version of these tables: a file that was kept with another one is no file of this node, but for one of the first
-- version, which becomes one of these
abbrev pub version : ℕ
version = 2

abbrev pub first_version : ℕ
first_version = 1
