-- Laws of tables that keep what is shown of a base.
use Rattle.std.specs.Prelude.{◌≡◌, ℕ, []}
use Rattle.adr_state.specs.declared.base.Base.{Base}
use Rattle.adr_view.specs.Laws.{StandsInOrder}
use Rattle.adr_view.specs.Views.{view}
use Rattle.adr_refresh.specs.Refresh.{AreStamped, kept_view}
use Rattle.adr_db.specs.Bases.{Beside}
use Rattle.adr_kept_view.specs.KeptViews.{KeepsView, Owns}
use Rattle.adr_kept_base.specs.Bases.{KeepsShown, owner_between, VensStay}

-- what was shown of a base is kept under the owners between it and the one that follows, and these own what was there and
-- what is there then
abbrev pub KeptAsItChanges : Type 0
KeptAsItChanges = (beside : Beside) (before after : Base) → StandsInOrder before → VensStay before.portfolio after.portfolio → KeepsShown beside before
    → KeepsView (owner_between before.portfolio after.portfolio) (kept_view before) beside × Owns (owner_between before.portfolio after.portfolio) before × Owns (owner_between before.portfolio after.portfolio) after

-- what is shown of a base and kept under owners of what is there is kept as what is shown of it
abbrev pub KeptOnceRefreshed : Type 0
KeptOnceRefreshed = (owner : ℕ → ℕ) (beside : Beside) (base : Base) → StandsInOrder base → Owns owner base → KeepsView owner (kept_view base) beside → AreStamped beside.stamps base → KeepsShown beside base

-- tables without rows and stamps keep what is shown of a base of which nothing is
abbrev pub KeptOfNothing : Type 0
KeptOfNothing = (beside : Beside) (base : Base) → view base ≡ [] → beside.shown ≡ [] → beside.rollups ≡ [] → beside.stamps ≡ [] → KeepsShown beside base
