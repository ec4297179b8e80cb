use Rattle.std.proofs.Common.{◌≡◌, ℕ, List, None, false, sym, ap, subst, ◌∙◌}
use Rattle.std.specs.List.{list_any}
use Rattle.adr_state.specs.declared.base.Base.{Base}
use Rattle.adr_view.specs.Frozen.{pairs_of, mark_differs}
use Rattle.adr_view.specs.Laws.{StandsInOrder}
use Rattle.adr_view.proofs.FrozenLemmas.{freezing_keeps}
use Rattle.adr_edits.proofs.frozen.frozen_as.Goals as goal

-- rows stand in order, so no others take part by the pairs of those who do
pub frozen_with-requires : goal.frozen_with-requires
frozen_with-requires c =
    let base : Base = record { mirror = c.args.mirror.now; scan = None; portfolio = c.args.portfolio.now; serial = 0 } in
    let stands : StandsInOrder base = record { upstream_keys = c.stand_in_order.ensures.keys; resources = c.stand_in_order.ensures.resources; reports = c.stand_in_order.ensures.reports } in
    subst (λ (pairs : List (ℕ × ℕ)). list_any (mark_differs c.args.id.now pairs base.portfolio) base.mirror ≡ false) (sym (c.in_ok-pairs.ensures ∙ ap pairs_of (c.deref.ensures.value ∙ c.in_ok-ps.ensures.value))) (freezing_keeps base c.args.id.now c.args.event.now stands c.requires)
