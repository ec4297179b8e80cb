-- An empty database.
use Rattle.std.proofs.Common.{[], subst}
use Rattle.adr_db.proofs.Common.{IsEmpty, Holds, no_schema}
use Rattle.sqlite.specs.State as sql
use Rattle.sqlite_catalog.specs.Listing.{IsSound}

-- an empty database holds no tables
pub holds_none : (s : sql.State) → IsEmpty s → Holds no_schema [] s
holds_none s empty = record { has = empty.2; sound = subst (λ none. IsSound none s.now.trees) empty.2 (empty.1 empty.0.is_open).0; each = tt }
