-- What a database becomes, as it is made ready for a desk.
use Rattle.std.specs.Prelude.{◌≡◌, []}
use Rattle.sqlite.specs.State as sql
use Rattle.adr_state.specs.declared.state.State.{State}
use Rattle.adr_state.specs.States.{empty}
use Rattle.adr_sql.specs.Contents.{Contents, Holds, rows_of_table}
use Rattle.adr_sql.specs.Schemas.{no_schema}
use Rattle.adr_db.specs.declared.version.Version.{Version}
use Rattle.adr_db.specs.Versions.{SayKnown, schema_of_version}
use Rattle.adr_held.specs.Held.{HoldsState, HoldsInEither}
use Rattle.adr_desk.specs.declared.ready.Start.{Start}
use Rattle.adr_desk.specs.declared.ready.Start.TheVariants.{New, Kept}

-- an empty database becomes the state of a new node; one that was kept, by this version or by the first one, stays the state that it
-- held
abbrev pub Becomes : Start → State → sql.State → Type 0
Becomes New held s = (held ≡ empty) × Holds no_schema [] s
Becomes Kept held s = HoldsInEither held s

-- tables that were kept, under the schema of either version, say that they are of a version that this node opens
abbrev pub AreKnown : sql.State → Type 0
AreKnown s = (of : Version) (all : Contents) → Holds (schema_of_version of) all s → SayKnown (rows_of_table all 0)

-- and a state that they held is held under the version of today
pub record UpgradedFrom (old new : sql.State) : Type 0 where
  pub holds : (held : State) → HoldsInEither held old → HoldsState held new
  pub known : AreKnown old
