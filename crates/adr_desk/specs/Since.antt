-- What the tables stored as a desk was made, and what they hold since.
use Rattle.std.specs.Prelude.{◌≡◌, List, [], ◌∷◌, map, length, IsTrue, All}
use Rattle.sqlite.specs.Order.{Row}
use Rattle.sqlite.specs.Table.{Table}
use Rattle.sqlite.specs.Schema.{Schema}
use Rattle.sqlite.specs.Store.{Ghosts}
use Rattle.sqlite.specs.Held.{Held, state}
use Rattle.sqlite.specs.State.{HasCleanDisk}
use Rattle.sqlite.specs.State as sql
use Rattle.adr_state.specs.declared.state.State.{State}
use Rattle.adr_sql.specs.Contents.{Contents, Stores}
use Rattle.adr_sql.specs.Schemas.{no_schema}
use Rattle.adr_db.specs.Tables.{schema}
use Rattle.adr_db.specs.Kept.{contents_of, AreMarks, AreSubs}
use Rattle.adr_held.specs.Held.{kept_of, HoldsState}
use Rattle.adr_held.specs.Right.{IsRight}
use Rattle.adr_db.specs.ReadBack.{state_in}
use Rattle.adr_refresh.specs.Refresh.{kept_view}
use Rattle.adr_kept_view.specs.KeptViews.{ReadsBack}

-- a schema, and the rows that are stored in each of the node's tables, in their order
abbrev pub Stored : Type 0
Stored = Schema × List (List Row)

abbrev pub nothing_stored : Stored
nothing_stored = (no_schema, [])

abbrev pub stored_in : sql.State → Stored
stored_in s = (s.now.schema, map (λ t. s.now.trees t.tree) schema.tables)

-- what is stored in each table are its rows
abbrev pub StoredEach : List Table → List (List Row) → Contents → Type 0
StoredEach [] [] [] = Unit {0}
StoredEach (t ∷ ts) (stored ∷ others) (rows ∷ all) = Stores (length t.primary) (length t.columns) stored rows × StoredEach ts others all
StoredEach _ _ _ = ⊥

-- what was stored is this state
pub record WasHeld (held : State) (stored : Stored) : Type 0 where
  pub has : stored.0 ≡ schema
  pub each : StoredEach schema.tables stored.1 (contents_of (kept_of held))
  pub marks : AreMarks held.base.mirror
  pub subs : AreSubs held.base.portfolio.subs
  pub reads : All ReadsBack (kept_view held.base)
  pub right : IsRight held

-- where it was some state, the tables hold the one that they read back as, while the store is open and gave back what was written
abbrev pub HoldsSince : {S : Type 0} → Ghosts S → Stored → Held S → Type 0
HoldsSince g stored conn = (held : State) → WasHeld held stored → HasCleanDisk (state g conn) → IsTrue (state g conn).is_open → HoldsState (state_in (state g conn)) (state g conn)
