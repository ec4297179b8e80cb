-- What the rows of the view are made of: an upstream key, a report, or an upstream event that is rolled up.
use Rattle.std.specs.Prelude.{ℕ, Bool, List, [], ◌∷◌, Option, None, Some}
use Rattle.std.specs.declared.cmp.Ordering.{Ordering}
use Rattle.std.specs.Ordering.{nat_cmp, is_eq}
use Rattle.adr_objects.specs.declared.kind.Kind.TheVariants as kind
use Rattle.adr_state.specs.declared.base.Base.{Base}
use Rattle.adr_state.specs.declared.keys.MirrorKey.{MirrorKey}
use Rattle.adr_state.specs.declared.keys.ViewKey.{ViewKey}
use Rattle.adr_state.specs.declared.keys.ViewKey.TheVariants as key
use Rattle.adr_state.specs.declared.portfolio.Report.{Report}
use Rattle.adr_state.specs.Keys.{id_cmp, mirror_cmp, at}
use Rattle.adr_view.specs.declared.view.Content.{Content}
use Rattle.adr_view.specs.Rollups.{event_key, rollup_at}
use Rattle.adr_view.specs.Views.{rows_known, report_row, rolled_up}

-- a source of rows of the view: an upstream key, a report by its number, or the roll-up of an upstream event
pub data Source : Type 0 where
  Upstream : MirrorKey → Source
  Reported : ℕ → Source
  RolledUp : List ℕ → Source

-- where a source stands by its kind
abbrev pub rank : Source → ℕ
rank (Upstream k) = 0
rank (Reported n) = 1
rank (RolledUp id) = 2

-- sources stand as the keys of their rows do: upstream keys, programs first, then reports by number, and then roll-ups
abbrev pub source_cmp : Source → Source → Ordering
source_cmp (Upstream a) (Upstream b) = mirror_cmp a b
source_cmp (Reported m) (Reported n) = nat_cmp m n
source_cmp (RolledUp a) (RolledUp b) = id_cmp a b
source_cmp a b = nat_cmp (rank a) (rank b)

-- what the row at a key is made of
abbrev pub source_of : ViewKey → Source
source_of (key.Program id) = Upstream (record { kind = kind.Program; id = id })
source_of (key.Event id resource) = Upstream (event_key id)
source_of (key.Report n) = Reported n
source_of (key.Rollup id) = RolledUp id

-- whether the row at a key is made of this
abbrev pub is_of : Source → ViewKey → Bool
is_of s k = is_eq (source_cmp (source_of k) s)

-- what is shown of a report, where there is one
abbrev pub reported_rows : ℕ → Option Report → List (ViewKey × Content)
reported_rows n None = []
reported_rows n (Some report) = report_row (n, report) ∷ []

-- what is shown of a source
abbrev pub rows_of : Base → Source → List (ViewKey × Content)
rows_of base (Upstream k) = rows_known base k (at mirror_cmp k base.mirror)
rows_of base (Reported n) = reported_rows n (at nat_cmp n base.portfolio.reports)
rows_of base (RolledUp id) = rolled_up id (rollup_at base.mirror base.portfolio id)
