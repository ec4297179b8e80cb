-- A change that was made of both sides of a key is one of what stood there and stands there now.
use Rattle.std.proofs.Common.{ℕ, Option, sym, ◌∙◌}
use Rattle.adr_objects.specs.declared.shown.Stamps.{Stamps}
use Rattle.adr_state.specs.declared.portfolio.Portfolio.{Portfolio}
use Rattle.adr_view.specs.declared.changes.Operation.{Operation}
use Rattle.adr_view.specs.declared.view.Content.{Content}
use Rattle.adr_kept_view.specs.declared.object.ObjectChange.{ObjectChange}
use Rattle.adr_kept_view.specs.declared.object.OldObject.{OldObject}
use Rattle.adr_kept_view.specs.Objects.{view_key, ven_of, restamped_at, IsChangeOf}
use Rattle.adr_kept_view.specs.Refreshed.{judged_in}
use Rattle.adr_kept_view.proofs.ObjectLemmas.{at-row_at}
use Rattle.adr_upkeep.specs.Turns.{turn_at, IsChangeIn}

pub changed_so : (p : Portfolio) (now : ℕ) (stamps : Option Stamps) (old : OldObject) (new : Option Content) (o : Operation) (c : ObjectChange) → IsChangeIn p (view_key old.key) old.ven o (turn_at (view_key old.key) old.content new stamps now) c → IsChangeOf p now stamps old new c
changed_so p now stamps old new o c is =
    let k = view_key old.key in record {
      shown = (λ i. judged_in (is.happened i) (sym (at-row_at k old.content) i) (sym (at-row_at k new) i)) ∙ is.shown;
      stamped = (λ i. judged_in (is.happened i) (sym (at-row_at k stamps) i) (restamped_at k stamps old.content new now)) ∙ is.stamped;
      owned = (λ i. judged_in (is.happened i) old.ven (ven_of p c.content)) ∙ is.owned;
    }
