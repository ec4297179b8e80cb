-- What the tables hold is read back, and keeps what is shown; and what keeps it is held.
use Rattle.std.proofs.Common.{◌≡◌, List, None, cond, refl, sym, ap, subst, ◌∙◌}
use Rattle.std.specs.Prelude.{is_some}
use Rattle.sqlite.specs.State as sql
use Rattle.adr_state.specs.declared.base.Base.{Base}
use Rattle.adr_state.specs.declared.state.State.{State}
use Rattle.adr_state.specs.declared.keys.ViewKey.{ViewKey}
use Rattle.adr_view.specs.declared.view.Content.{Content}
use Rattle.adr_view.specs.Views.{view}
use Rattle.adr_refresh.specs.Maps.{rows_at}
use Rattle.adr_refresh.specs.Refresh.{is_kept}
use Rattle.adr_refresh.specs.Sources.{source_of}
use Rattle.adr_refresh.proofs.Common.{InOrder, at, in_order_filtered, shown_in_order, view_cmp, view_exact, view_total}
use Rattle.adr_refresh.proofs.MapLemmas.{at-rows_at}
use Rattle.adr_db.specs.Bases.{Beside, counting, HoldsBeside}
use Rattle.adr_db.specs.Images.{image_kept}
use Rattle.adr_db.specs.Kept.{first_meta}
use Rattle.adr_db.specs.ReadBack.{state_in}
use Rattle.adr_db.proofs.ReadBack.{base_again, kept_again}
use Rattle.adr_kept_view.proofs.OrderLemmas.{held_in_order}
use Rattle.adr_kept_view.specs.Changes.{owner_in}
use Rattle.adr_kept_view.specs.KeptViews.{KeepsView}
use Rattle.adr_kept_base.specs.Bases.{KeepsShown}
use Rattle.adr_held.specs.Held.{beside_of, kept_of, HoldsState}
use Rattle.adr_held.specs.Laws.{WhatIsHeldReadsBack, HeldKeepsShown, ShownStandsAlone, IsBesideOf, ShownIsHeld}
use Rattle.adr_held.proofs.StampLemmas.{same_view}

pub image_again : (held : State) → image_kept (kept_of held) ≡ held
image_again held = ap (λ (base : Base). record held { base = base }) (base_again (counting held.outbox first_meta) (beside_of held) held.base)

pub held_again : (s : sql.State) → WhatIsHeldReadsBack s
unfolding state_in
held_again s held h = ap image_kept (kept_again (kept_of held) s h.keeps) ∙ image_again held

shown_kept : (s : sql.State) (held : State) → HoldsState held s → KeepsShown (beside_of held) held.base
shown_kept s held h = record {
  view = record {
    in_order = in_order_filtered view_cmp (λ r. is_kept (source_of r.0)) (view held.base) (shown_in_order held.base);
    reads = h.reads;
    shown = refl;
    rollups = refl;
    stamps_in_order = h.right.stamped.in_order;
    stamped = λ k kept.
        h.right.stamped.same_keys k
        ∙ sym (ap is_some (at-rows_at view_total view_exact k (λ k. is_kept (source_of k)) (view held.base) ∙ ap (λ b. cond b (at view_cmp k (view held.base)) None) kept));
  };
  stamped = h.right.stamped;
}

pub held_keeps : (s : sql.State) → HeldKeepsShown s
held_keeps s held h = (held_in_order (beside_of held) held.base s h.keeps, shown_kept s held h)

pub stands_alone : ShownStandsAlone
stands_alone beside later base serial shown rollups stamps keeps =
    let same : view base ≡ view (record base { serial = serial }) = sym (same_view base serial) in
    let up : InOrder view_cmp later.stamps = subst (InOrder view_cmp) (sym stamps) keeps.stamped.in_order in
    let still : (k : ViewKey) → is_some (at view_cmp k later.stamps) ≡ is_some (at view_cmp k beside.stamps) = λ k. ap (λ rows. is_some (at view_cmp k rows)) stamps in
    record {
      view = subst (λ (rows : List (ViewKey × Content)). KeepsView (owner_in base.portfolio) rows later) (ap (rows_at (λ k. is_kept (source_of k))) same) (record {
        in_order = keeps.view.in_order;
        reads = keeps.view.reads;
        shown = shown ∙ keeps.view.shown;
        rollups = rollups ∙ keeps.view.rollups;
        stamps_in_order = up;
        stamped = λ k kept. still k ∙ keeps.view.stamped k kept;
      });
      stamped = record { in_order = up; same_keys = λ k. still k ∙ keeps.stamped.same_keys k ∙ ap (λ rows. is_some (at view_cmp k rows)) same };
    }

same_beside : (next : State) (end : Beside) → IsBesideOf next end → KeepsShown end next.base → end ≡ beside_of next
same_beside next end own keeps = λ i. record {
  numbers = own.own_numbers i;
  stamps = own.own_stamps i;
  remotes = own.own_remotes i;
  entries = own.own_entries i;
  shown = keeps.view.shown i;
  rollups = keeps.view.rollups i;
}

pub shown_held : (s : sql.State) → ShownIsHeld s
shown_held s next end own keeps holds right = record {
  keeps = subst (λ (b : Beside). HoldsBeside b next.base s) (same_beside next end own keeps) holds;
  reads = keeps.view.reads;
  right = right;
}
