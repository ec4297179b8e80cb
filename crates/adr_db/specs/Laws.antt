-- What is true of what the tables keep.
use Rattle.std.specs.Prelude.{◌≡◌}
use Rattle.sqlite.specs.State as sql
use Rattle.adr_db.specs.Kept.{Kept, Keeps}
use Rattle.adr_db.specs.ReadBack.{kept_in}

-- what the tables keep is what they hold, read back
abbrev pub KeptReadsBack : sql.State → Type 0
KeptReadsBack s = (kept : Kept) → Keeps kept s → kept_in s.now.trees ≡ kept
