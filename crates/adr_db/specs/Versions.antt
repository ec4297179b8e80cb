-- The version of the tables, by which a file that was kept is known as one of this node.
use Rattle.std.specs.Prelude.{◌≡◌, ◌⊎◌, ℕ, List, [], ◌∷◌}
use Rattle.sqlite.specs.Order.{Row, column}
use Rattle.sqlite.specs.Schema.{Schema}
use Rattle.sqlite.specs.State.{State}
use Rattle.adr_text.specs.declared.refusal.Refusal.{Refusal}
use Rattle.adr_text.specs.declared.refusal.Refusal.TheVariants.{OutOfMemory, BadFile}
use Rattle.adr_db.specs.declared.version.Version.{Version}
use Rattle.adr_db.specs.declared.version.Version.TheVariants.{First, Second}
use Rattle.adr_db.specs.Kept.{Kept, Keeps}
use Rattle.adr_db.specs.FirstVersion.{KeepsFirst}
use Rattle.adr_db.specs.Tables.{version, schema, first_version, first_schema}
use Rattle.adr_db.specs.Rows.{number}

-- rows of `meta`, of which the first says that the tables are of this version
abbrev pub SayVersion : ℕ → List Row → Type 0
SayVersion wanted [] = ⊥
SayVersion wanted (row ∷ rows) = column row 1 ≡ number wanted

-- the number by which a version is said, and the schema of its tables
abbrev pub number_of : Version → ℕ
number_of First = first_version
number_of Second = version

abbrev pub schema_of_version : Version → Schema
schema_of_version First = first_schema
schema_of_version Second = schema

-- they say that the tables are of a version that this node opens
abbrev pub SayKnown : List Row → Type 0
SayKnown rows = SayVersion first_version rows ⊎ SayVersion version rows

-- memory ran out as they were read, or they don't say so
abbrev pub CannotKnow : List Row → Refusal → Type 0
CannotKnow rows refusal = (refusal ≡ OutOfMemory) ⊎ ((refusal ≡ BadFile) × (¬ SayKnown rows))

-- tables of today keep this, or those of version 1 do
abbrev pub KeepsInEither : Kept → State → Type 0
KeepsInEither kept s = Keeps kept s ⊎ KeepsFirst kept s
