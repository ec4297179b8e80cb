-- What a key has on both sides of a change, and the change, by what happened.
use Rattle.std.specs.Prelude.{◌≡◌, ℕ, Option, Some}
use Rattle.adr_objects.specs.declared.shown.Stamps.{Stamps}
use Rattle.adr_state.specs.declared.keys.ViewKey.{ViewKey}
use Rattle.adr_state.specs.declared.portfolio.Portfolio.{Portfolio}
use Rattle.adr_state.specs.Keys.{view_cmp, at}
use Rattle.adr_view.specs.declared.changes.Operation.{Operation}
use Rattle.adr_view.specs.declared.view.Content.{Content}
use Rattle.adr_view.specs.Changes.{restamped}
use Rattle.adr_kept_view.specs.declared.object.ObjectChange.{ObjectChange}
use Rattle.adr_kept_view.specs.Objects.{row_at, ven_of}
use Rattle.adr_kept_view.specs.Refreshed.{judged_in}
use Rattle.adr_upkeep.specs.declared.objects.Turn.{Turn}

-- from what stood there, with these stamps, to what stands there now
abbrev pub turn_at : ViewKey → Option Content → Option Content → Option Stamps → ℕ → Turn
turn_at k old new stamps now = record {
  before = row_at k old;
  after = row_at k new;
  stamps = row_at k stamps;
  restamped = restamped (row_at k stamps) (row_at k old) (row_at k new) now;
}

-- the change is of what was there, or is, with its stamps, and of the ven that owned it, or does
pub record IsChangeIn (p : Portfolio) (k : ViewKey) (old : Option ℕ) (operation : Operation) (turn : Turn) (c : ObjectChange) : Type 0 where
  pub happened : c.operation ≡ operation
  pub shown : judged_in operation (at view_cmp k turn.before) (at view_cmp k turn.after) ≡ Some c.content
  pub stamped : judged_in operation (at view_cmp k turn.stamps) (at view_cmp k turn.restamped) ≡ Some c.stamps
  pub owned : judged_in operation old (ven_of p c.content) ≡ c.ven
