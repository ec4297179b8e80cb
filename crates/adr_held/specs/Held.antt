-- The tables hold a state, and what is shown of it.
use Rattle.std.specs.Prelude.{◌⊎◌, All}
use Rattle.sqlite_catalog.specs.Listing.{IsSound}
use Rattle.sqlite.specs.Tree.{Trees}
use Rattle.sqlite.specs.State as sql
use Rattle.adr_state.specs.declared.state.State.{State}
use Rattle.adr_refresh.specs.Refresh.{kept_view}
use Rattle.adr_sql.specs.Contents.{StoresEach}
use Rattle.adr_db.specs.Tables.{schema, first_schema}
use Rattle.adr_db.specs.Kept.{Kept, Keeps, AreMarks, AreSubs, contents_of}
use Rattle.adr_db.specs.FirstVersion.{NothingIsFrozen, KeepsFirst, first_contents}
use Rattle.adr_db.specs.Bases.{Beside, meta_of, kept_beside}
use Rattle.adr_kept_view.specs.Changes.{owner_in}
use Rattle.adr_kept_view.specs.Columns.{shown_rows, rollup_rows}
use Rattle.adr_kept_view.specs.KeptViews.{ReadsBack}
use Rattle.adr_held.specs.Right.{IsRight}

-- what stands beside the base of a state: its own numbers, its stamps, its outbox, and what is shown of the base, each
-- event under the ven that owns its resource
abbrev pub beside_of : State → Beside
beside_of state = record {
  numbers = meta_of state;
  stamps = state.stamps;
  remotes = state.outbox.remotes;
  entries = state.outbox.entries;
  shown = shown_rows (owner_in state.base.portfolio) (kept_view state.base);
  rollups = rollup_rows (kept_view state.base);
}

-- what is kept of a state: its base, and what stands beside it
abbrev pub kept_of : State → Kept
kept_of state = kept_beside (beside_of state) state.base

-- the tables hold a state: they keep all that is kept of it, the texts of what is shown read back, and it is right
pub record HoldsState (state : State) (s : sql.State) : Type 0 where
  pub keeps : Keeps (kept_of state) s
  pub reads : All ReadsBack (kept_view state.base)
  pub right : IsRight state

-- Trees that a crash may leave hold a state: they list the schema and obey it, they store the rows of the state, and each
-- version, each subscription and each text of what is shown reads back; and the state is right.
pub record AreLeftWith (state : State) (trees : Trees) : Type 0 where
  pub sound : IsSound schema trees
  pub rows : StoresEach schema.tables trees (contents_of (kept_of state))
  pub marks : AreMarks state.base.mirror
  pub subs : AreSubs state.base.portfolio.subs
  pub reads : All ReadsBack (kept_view state.base)
  pub right : IsRight state

-- ---- version 1

-- tables of version 1 hold a state, in which nothing is frozen: else as those of today
pub record HoldsFirst (state : State) (s : sql.State) : Type 0 where
  pub keeps : KeepsFirst (kept_of state) s
  pub reads : All ReadsBack (kept_view state.base)
  pub right : IsRight state

-- trees that a crash may leave hold a state under the schema of version 1
pub record AreLeftFirst (state : State) (trees : Trees) : Type 0 where
  pub sound : IsSound first_schema trees
  pub rows : StoresEach first_schema.tables trees (first_contents (kept_of state))
  pub marks : AreMarks state.base.mirror
  pub subs : AreSubs state.base.portfolio.subs
  pub unfrozen : NothingIsFrozen state.base.portfolio
  pub reads : All ReadsBack (kept_view state.base)
  pub right : IsRight state

-- tables of today or of version 1 hold a state, and trees are left with it in one of them, whole
abbrev pub HoldsInEither : State → sql.State → Type 0
HoldsInEither state s = HoldsState state s ⊎ HoldsFirst state s

abbrev pub AreLeftInEither : State → Trees → Type 0
AreLeftInEither state trees = AreLeftWith state trees ⊎ AreLeftFirst state trees
