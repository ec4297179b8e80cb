-- What it is that tables keep what is shown of events, and roll-ups.
use Rattle.std.specs.Prelude.{◌≡◌, ℕ, true, List, Some, is_some, Ok, All}
use Rattle.std.specs.List.Sorted.{IsStrictlySortedBy}
use Rattle.std.specs.Map.{keys_of}
use Rattle.std.specs.Ordering.{nat_cmp}
use Rattle.adr_state.specs.declared.base.Base.{Base}
use Rattle.adr_state.specs.declared.keys.ViewKey.{ViewKey}
use Rattle.adr_state.specs.declared.keys.ViewKey.TheVariants as key
use Rattle.adr_state.specs.declared.portfolio.Resource.{Resource}
use Rattle.adr_state.specs.Keys.{view_cmp, at}
use Rattle.adr_view.specs.declared.view.Content.{Content}
use Rattle.adr_view.specs.declared.view.Content.TheVariants as content
use Rattle.adr_refresh.specs.Sources.{source_of}
use Rattle.adr_refresh.specs.Refresh.{is_kept}
use Rattle.adr_shown.specs.ShownTexts.{shown_text}
use Rattle.adr_shown.specs.ReadShown.{shown_of}
use Rattle.adr_shown.specs.RollupTexts.{kept_rollup_text}
use Rattle.adr_shown.specs.ReadRollups.{kept_rollup_of}
use Rattle.adr_db.specs.Bases.{Beside}
use Rattle.adr_kept_view.specs.Columns.{shown_rows, rollup_rows}

-- a shown event or a roll-up, at a key of its kind, whose text reads back
abbrev pub ReadsBack : ViewKey × Content → Type 0
ReadsBack (key.Event id n, content.Event e) = shown_of (shown_text e) ≡ Ok e
ReadsBack (key.Rollup id, content.Rollup r) = kept_rollup_of (kept_rollup_text id r) ≡ Ok (id, r)
ReadsBack _ = ⊥

-- the tables `shown` and `rollup` are these rows, by the ven that owns each resource; they stand in the order of their
-- keys, their texts read back, and exactly they have stamps among all keys of events and of roll-ups
pub record KeepsView (owner : ℕ → ℕ) (rows : List (ViewKey × Content)) (beside : Beside) : Type 0 where
  pub in_order : IsStrictlySortedBy view_cmp (keys_of rows)
  pub reads : All ReadsBack rows
  pub shown : beside.shown ≡ shown_rows owner rows
  pub rollups : beside.rollups ≡ rollup_rows rows
  pub stamps_in_order : IsStrictlySortedBy view_cmp (keys_of beside.stamps)
  pub stamped : (k : ViewKey) → is_kept (source_of k) ≡ true → is_some (at view_cmp k beside.stamps) ≡ is_some (at view_cmp k rows)

-- each resource that is there is owned by its ven; one that is gone has the owner that it had
abbrev pub Owns : (ℕ → ℕ) → Base → Type 0
Owns owner base = (n : ℕ) (r : Resource) → at nat_cmp n base.portfolio.resources ≡ Some r → owner n ≡ r.ven
