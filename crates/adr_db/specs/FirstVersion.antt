-- Tables of version 1, in which nothing is frozen: it had neither `frozen` nor `frozen_share`.
use Rattle.std.specs.Prelude.{◌≡◌, [], ◌∷◌, drop, take}
use Rattle.sqlite.specs.Order.{Row}
use Rattle.sqlite.specs.State.{State}
use Rattle.adr_state.specs.declared.portfolio.Portfolio.{Portfolio}
use Rattle.adr_sql.specs.Contents.{Contents, Holds}
use Rattle.adr_db.specs.declared.meta.Meta.{Meta}
use Rattle.adr_db.specs.Kept.{Kept, AreMarks, AreSubs, contents_of}
use Rattle.adr_db.specs.Rows.{versioned_row}
use Rattle.adr_db.specs.Tables.{first_version, first_schema}

-- the one row of `meta`, which says the version
abbrev pub first_row : Meta → Row
first_row meta = versioned_row first_version meta

-- the rows of each table: those of today but for that one, and without those of the last two tables
abbrev pub first_contents : Kept → Contents
first_contents kept = (first_row kept.meta ∷ []) ∷ take 14 (drop 1 (contents_of kept))

-- no event is frozen, and no share is kept for one
pub record NothingIsFrozen (p : Portfolio) : Type 0 where
  pub events : p.frozen ≡ []
  pub shares : p.frozen_shares ≡ []

-- tables of version 1 hold this: the rows of each are the corresponding map, in key order, each version and each subscription
-- says what the types admit, and nothing is frozen
pub record KeepsFirst (kept : Kept) (s : State) : Type 0 where
  pub rows : Holds first_schema (first_contents kept) s
  pub marks : AreMarks kept.mirror
  pub subs : AreSubs kept.portfolio.subs
  pub unfrozen : NothingIsFrozen kept.portfolio
