-- Tables that keep exactly what is shown of a base.
use Rattle.std.specs.Prelude.{◌≡◌, ℕ, Some}
use Rattle.std.specs.Option.{option_map_or}
use Rattle.std.specs.Ordering.{nat_cmp}
use Rattle.adr_state.specs.declared.base.Base.{Base}
use Rattle.adr_state.specs.declared.portfolio.Portfolio.{Portfolio}
use Rattle.adr_state.specs.declared.portfolio.Resource.{Resource}
use Rattle.adr_state.specs.Keys.{at}
use Rattle.adr_refresh.specs.Refresh.{AreStamped, kept_view}
use Rattle.adr_db.specs.Bases.{Beside}
use Rattle.adr_kept_view.specs.Changes.{owner_in}
use Rattle.adr_kept_view.specs.KeptViews.{KeepsView}

-- the tables keep the events and the roll-ups that are shown of a base, each event under the ven that owns its resource,
-- and exactly what is shown has stamps
pub record KeepsShown (beside : Beside) (base : Base) : Type 0 where
  pub view : KeepsView (owner_in base.portfolio) (kept_view base) beside
  pub stamped : AreStamped beside.stamps base

-- the ven that owns a resource then, or did where the resource is gone
abbrev pub owner_between : Portfolio → Portfolio → ℕ → ℕ
owner_between before after n = option_map_or (λ r. r.ven) (at nat_cmp n after.resources) (owner_in before n)

-- a resource that stays has the ven that it had
abbrev pub VensStay : Portfolio → Portfolio → Type 0
VensStay before after = (n : ℕ) (r s : Resource) → at nat_cmp n before.resources ≡ Some r → at nat_cmp n after.resources ≡ Some s → r.ven ≡ s.ven
