-- What is decided of an event whose mark was read is what is decided of it by all that is held.
use Rattle.std.proofs.Common.{◌≡◌, ℕ, Bool, true, false, cond, ◌||◌, List, [], Some, Ok, Err, refl, sym, ap, subst}
use Rattle.std.specs.List.{list_any}
use Rattle.std.specs.List.Sorted.{IsStrictlySortedBy}
use Rattle.std.specs.Map.{keys_of}
use Rattle.adr_view.proofs.Common.{map-map}
use Rattle.adr_text.specs.declared.refusal.Refusal.TheVariants.{LimitReached}
use Rattle.adr_objects.specs.declared.body.EventBody.{EventBody}
use Rattle.adr_state.specs.declared.limits.Limits.{Limits}
use Rattle.adr_state.specs.declared.participants.Participant.{Participant}
use Rattle.adr_state.specs.Frozen.{is_frozen, pairs_kept}
use Rattle.adr_state.specs.Participants.{participants}
use Rattle.adr_state.specs.Portfolios.{Freeze}
use Rattle.adr_view.specs.Frozen.{pairs_of, are_beyond, mark_differs, frozen_as}
use Rattle.adr_view.specs.Laws.{StandsInOrder}
use Rattle.adr_view.specs.Rollups.{event_at}
use Rattle.adr_view.proofs.FrozenLemmas.{freezing_keeps}
use Rattle.adr_view.proofs.ShownLemmas.{participants_rise}
use Rattle.adr_db.proofs.Common.{Base, nat_cmp}
use Rattle.adr_frozen.specs.Decided.{frozen_by}

module _ (base : Base) (stands : StandsInOrder base) (id : List ℕ) (event : EventBody) where
  abbrev own : List (ℕ × ℕ)
  own = pairs_of (participants base.portfolio id event)

  -- the pairs of those who take part stand in the order of their numbers
  pub pairs_rise : IsStrictlySortedBy nat_cmp (keys_of own)
  pairs_rise = subst (IsStrictlySortedBy nat_cmp) (sym (map-map (λ (e : ℕ × ℕ). e.0) (λ (x : Participant). (x.resource, x.weight)) (participants base.portfolio id event))) (participants_rise base stands id event)

  none_more : (b c : Bool) → c ≡ false → (b || c) ≡ b
  none_more true c h = refl
  none_more false c h = h

  -- no others would take part by them, so only the room is tested
  pub as_decided : (limits : Limits) → event_at base.mirror id ≡ Some event → frozen_as limits id event base.mirror base.portfolio ≡ frozen_by limits id event base.portfolio
  as_decided limits is =
      ap (λ (b : Bool). cond (is_frozen base.portfolio id) (Ok (pairs_kept base.portfolio id, Freeze id [])) (cond b (Err LimitReached) (Ok (own, Freeze id own))))
      (none_more (are_beyond limits base.portfolio own) (list_any (mark_differs id own base.portfolio) base.mirror) (freezing_keeps base id event stands is))
