-- What is kept of a base, and what stands beside it.
use Rattle.std.specs.Prelude.{ℕ, Option, None, Some, is_some, List, [], length}
use Rattle.sqlite.specs.State as sql
use Rattle.adr_objects.specs.declared.shown.Stamps.{Stamps}
use Rattle.adr_delivery.specs.declared.entry.Entry.{Entry}
use Rattle.adr_delivery.specs.declared.outbox.Outbox.{Outbox}
use Rattle.adr_state.specs.declared.base.Base.{Base}
use Rattle.adr_state.specs.declared.portfolio.Portfolio.{Portfolio}
use Rattle.adr_state.specs.declared.state.State.{State}
use Rattle.adr_state.specs.declared.keys.MirrorKey.{MirrorKey}
use Rattle.adr_state.specs.declared.keys.ViewKey.{ViewKey}
use Rattle.adr_db.specs.declared.meta.Meta.{Meta}
use Rattle.adr_db.specs.declared.shown.RollupColumns.{RollupColumns}
use Rattle.adr_db.specs.declared.shown.ShownColumns.{ShownColumns}
use Rattle.adr_db.specs.declared.shown.ShownKey.{ShownKey}
use Rattle.adr_db.specs.Kept.{Kept, Keeps, first_meta}

-- the keys that were polled; none where no scan is open
abbrev pub keys_polled : Option (List MirrorKey) → List MirrorKey
keys_polled None = []
keys_polled (Some keys) = keys

-- numbers of the node, with those of a portfolio: they say how many vens, resources, shares, reports, subscriptions and frozen shares there are
abbrev pub with_sizes : Meta → Portfolio → Meta
with_sizes numbers p = record numbers { vens = length p.vens; resources = length p.resources; shares = length p.shares; reports = length p.reports; subs = length p.subs; frozen = length p.frozen_shares }

-- numbers of the node, with those of a base: they say how many keys the mirror has, and the numbers of its portfolio
abbrev pub with_base : Meta → Base → Meta
with_base numbers base = record (with_sizes numbers base.portfolio) { serial = base.serial; scan = is_some base.scan; keys = length base.mirror }

-- and with the counts of an outbox: they say how many of its entries wait
abbrev pub counting : Outbox → Meta → Meta
counting o numbers = record numbers { counts = o.counts; pending = length o.entries }

-- those of a state
abbrev pub meta_of : State → Meta
meta_of state = with_base (counting state.outbox first_meta) state.base

-- what stands beside the maps of a base: the numbers of the node, the stamps of what is shown, the utility's ids of reports, the entries that
-- wait, and what is kept of shown events and of roll-ups
pub record Beside : Type 0 where
  pub numbers : Meta
  pub stamps : List (ViewKey × Stamps)
  pub remotes : List (List ℕ × List ℕ)
  pub entries : List (ℕ × Entry)
  pub shown : List (ShownKey × ShownColumns)
  pub rollups : List (List ℕ × RollupColumns)

-- the maps of a base, with what stands beside them
abbrev pub kept_beside : Beside → Base → Kept
kept_beside beside base = record {
  meta = beside.numbers;
  mirror = base.mirror;
  polled = keys_polled base.scan;
  portfolio = base.portfolio;
  stamps = beside.stamps;
  remotes = beside.remotes;
  entries = beside.entries;
  shown = beside.shown;
  rollups = beside.rollups;
}

-- the tables hold a base, beside these
abbrev pub HoldsBeside : Beside → Base → sql.State → Type 0
HoldsBeside beside base s = Keeps (kept_beside beside base) s
