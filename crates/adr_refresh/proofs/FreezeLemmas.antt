-- What a freeze leaves of what is shown, and that it touches nothing.
use Rattle.std.proofs.Common.{◌≡◌, ℕ, Bool, true, false, cond, not, ⊎_elim, List, [], ◌∷◌, ◌++◌, map, Option, Some, sym, ap, subst, ◌∙◌}
use Rattle.std.specs.Prelude.{bytes_eq}
use Rattle.std.proofs.lemmas.List.Elements.{filter_passes}
use Rattle.adr_objects.specs.declared.body.EventBody.{EventBody}
use Rattle.adr_state.specs.declared.portfolio.Portfolio.{Portfolio}
use Rattle.adr_state.specs.declared.portfolio.Report.{Report}
use Rattle.adr_state.specs.BaseChanges.{ChangePortfolio}
use Rattle.adr_state.specs.Frozen.{is_frozen, with_frozen}
use Rattle.adr_state.specs.Participants.{participants}
use Rattle.adr_view.specs.Frozen.{freezing_differs}
use Rattle.adr_view.specs.Rollups.{event_at, reporters, reports_of}
use Rattle.adr_view.proofs.FrozenLemmas.{all_stay, frozen_so, keeps_live, others_take_part, reports_as_before}
use Rattle.adr_refresh.specs.Laws.{FreezingTouchesNothing, SharesTouchNoFrozen}
use Rattle.adr_refresh.specs.Sources.{Reported, RolledUp}
use Rattle.adr_refresh.specs.Touched.{events_in, freezing_touches, events_by_freezing, events_by_share, upstream_event, touched}
use Rattle.adr_refresh.proofs.Common.{All-contains, Base, Contains, bytes_eq-Decides, cases_Bool, option_map_or, true≢false}
use Rattle.adr_refresh.proofs.ListLemmas.{false_unless, the_first}
use Rattle.adr_refresh.proofs.StayLemmas.{Stays}

module _ (base : Base) (id : List ℕ) (pairs : List (ℕ × ℕ)) where
  abbrev p : Portfolio
  p = base.portfolio

  abbrev q : Portfolio
  q = with_frozen id pairs p

  -- the event that is frozen, where it is not among those that are touched
  own_stays : (Contains (events_by_freezing id pairs base) id → ⊥) → (event : EventBody) → event_at base.mirror id ≡ Some event → participants p id event ≡ participants q id event
  own_stays free event is =
      let none : freezing_touches id pairs base ≡ false = false_unless (freezing_touches id pairs base) (λ differs. free (subst (λ (ids : List (List ℕ)). Contains ids id) (sym (ap (λ (b : Bool). cond b (id ∷ []) []) differs)) (the_first id []))) in
      all_stay p id event pairs (sym (ap (λ (o : Option EventBody). option_map_or (freezing_differs id pairs p) o false) is) ∙ none)

  freeze_part : (other : List ℕ) → (Contains (events_by_freezing id pairs base) other → ⊥) → (event : EventBody) → event_at base.mirror other ≡ Some event → participants p other event ≡ participants q other event
  freeze_part other free event = ⊎_elim
      (λ same. own (sym ((bytes_eq-Decides other id).0 same)))
      (λ differ is. others_take_part p id pairs other (λ same. true≢false (sym ((bytes_eq-Decides other id).1 same) ∙ differ)) event)
      (cases_Bool (bytes_eq other id))
    where
      own : id ≡ other → event_at base.mirror other ≡ Some event → participants p other event ≡ participants q other event
      own same = subst (λ (k : List ℕ). event_at base.mirror k ≡ Some event → participants p k event ≡ participants q k event) same (own_stays (λ there. free (subst (Contains (events_by_freezing id pairs base)) same there)) event)

  -- a freeze leaves what is shown of an event that it does not touch
  pub freeze_stays : (other : List ℕ) → (Contains (events_by_freezing id pairs base) other → ⊥) → Stays base q other
  freeze_stays other free event is = record {
    part = freeze_part other free event is;
    reports = ap (λ (rs : List (ℕ × Report)). reporters (reports_of other rs) (participants p other event)) (sym (reports_as_before p id pairs));
  }

-- ---- the laws

pub freezing_touches_none : FreezingTouchesNothing
freezing_touches_none limits id base = frozen_so (λ d. touched (ChangePortfolio d.1) base ≡ []) limits id base.mirror base.portfolio (λ event is told pairs keeps.
    let none : freezing_touches id pairs base ≡ false = ap (λ (o : Option EventBody). option_map_or (freezing_differs id pairs base.portfolio) o false) is ∙ keeps_live id pairs base.mirror base.portfolio keeps event is in
    ap (λ (b : Bool). map upstream_event (cond b (id ∷ []) []) ++ map Reported [] ++ map RolledUp (cond b (id ∷ []) [])) none)

pub shares_touch : SharesTouchNoFrozen
shares_touch key base id frozen there =
    let passed : not (is_frozen base.portfolio id) ≡ true = All-contains (λ id. not (is_frozen base.portfolio id) ≡ true) (events_by_share key.program base) id (filter_passes (λ id. not (is_frozen base.portfolio id)) (events_in (λ program. bytes_eq program key.program) base)) there in
    true≢false (sym passed ∙ ap not frozen)
