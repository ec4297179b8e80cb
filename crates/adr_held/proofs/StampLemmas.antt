-- Exactly what is shown has stamps after a change, whatever serial the base has then.
use Rattle.std.proofs.Common.{◌≡◌, ℕ, List, refl, sym, ap, ◌∙◌}
use Rattle.std.specs.Prelude.{is_some}
use Rattle.adr_objects.specs.declared.shown.Stamps.{Stamps}
use Rattle.adr_state.specs.declared.base.Base.{Base}
use Rattle.adr_state.specs.declared.keys.ViewKey.{ViewKey}
use Rattle.adr_view.specs.Changes.{restamped}
use Rattle.adr_view.specs.Views.{view}
use Rattle.adr_refresh.specs.Refresh.{AreStamped}
use Rattle.adr_refresh.proofs.Common.{at, view_cmp}
use Rattle.adr_refresh.proofs.RefreshLemmas.{stamps_given_back}

-- the serial is not shown
pub same_view : (base : Base) (serial : ℕ) → view (record base { serial = serial }) ≡ view base
unfolding view
same_view base serial = refl

pub stamped_then : (stamps : List (ViewKey × Stamps)) (before after : Base) (now serial : ℕ) → AreStamped (restamped stamps (view before) (view after) now) (record after { serial = serial })
stamped_then stamps before after now serial =
    let given = stamps_given_back before after now stamps in
    record { in_order = given.in_order; same_keys = λ k. given.same_keys k ∙ sym (ap (λ rows. is_some (at view_cmp k rows)) (same_view after serial)) }
