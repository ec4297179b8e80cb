-- What a share leaves of the other programs, and who takes part by the weights in an event.
use Rattle.std.proofs.Common.{◌≡◌, ℕ, Bool, true, false, cond, List, Option, None, refl, sym, ap, ◌∙◌}
use Rattle.std.specs.Prelude.{option_and_then}
use Rattle.adr_objects.specs.declared.body.EventBody.{EventBody}
use Rattle.adr_state.specs.declared.keys.ShareKey.{ShareKey}
use Rattle.adr_state.specs.declared.portfolio.Portfolio.{Portfolio}
use Rattle.adr_state.specs.declared.portfolio.Resource.{Resource}
use Rattle.adr_state.specs.Frozen.{is_frozen, frozen_weight}
use Rattle.adr_state.specs.Participants.{is_for, weight_in, as_participant, participants}
use Rattle.adr_view.proofs.FrozenLemmas.{take_part_as_kept}
use Rattle.adr_refresh.proofs.Common.{IsTotalOrder, at, at-insert_entry, equal_from_is, filter_map, insert_entry, is_at, is_eq, nat_cmp_total, nat_list_cmp_total, on_total, remove_entry, share_cmp, share_exact, then_total}
use Rattle.adr_refresh.proofs.ListLemmas.{false_unless, lookup-removed_other}

pub share_total : IsTotalOrder share_cmp
share_total = then_total (on_total (λ (k : ShareKey). k.program) nat_list_cmp_total) (on_total (λ (k : ShareKey). k.resource) nat_cmp_total)

module _ (program : List ℕ) (key : ShareKey) (differ : program ≡ key.program → ⊥) (shares : List (ShareKey × ℕ)) where
  abbrev share : ℕ → ShareKey
  share n = record { program = program; resource = n }

  other : (n : ℕ) → is_eq (share_cmp (share n) key) ≡ false
  other n = false_unless (is_eq (share_cmp (share n) key)) (λ is. differ (ap (λ (k : ShareKey). k.program) (share_exact (share n) key (equal_from_is _ is))))

  pub kept_by_put : (weight n : ℕ) → at share_cmp (share n) shares ≡ at share_cmp (share n) (insert_entry share_cmp shares key weight)
  kept_by_put weight n = let apart = other n in sym (at-insert_entry share_total (share n) key weight shares ∙ rw apart refl)

  pub kept_by_removal : (n : ℕ) → at share_cmp (share n) shares ≡ at share_cmp (share n) (remove_entry (is_at (share_cmp key)) shares)
  kept_by_removal n = sym (lookup-removed_other (is_at (share_cmp key)) (is_at (share_cmp (share n))) shares (λ k goes. false_unless (is_eq (share_cmp (share n) k)) (λ is.
      differ (ap (λ (k : ShareKey). k.program) (share_exact (share n) k (equal_from_is _ is) ∙ sym (share_exact key k (equal_from_is _ goes)))))))

-- ---- who takes part, by what is found

-- the weight of a resource, by what is kept for it, and its share
abbrev pub weight_by : Bool → Bool → Option ℕ → Option ℕ → Option ℕ
weight_by frozen for kept share = cond frozen kept (cond for share None)

pub no_weight : (frozen for : Bool) → weight_by frozen for None None ≡ None
no_weight true for = refl
no_weight false true = refl
no_weight false false = refl

-- the share of a resource in an event's program
abbrev pub share_in : Portfolio → EventBody → ℕ → Option ℕ
share_in p event n = at share_cmp (record { program = event.program; resource = n }) p.shares

-- a weight stays where what is kept stays, and the share
pub weight_stays : (p q : Portfolio) (id : List ℕ) (event : EventBody) (r : ℕ × Resource) → is_frozen p id ≡ is_frozen q id → frozen_weight p id r.0 ≡ frozen_weight q id r.0 → share_in p event r.0 ≡ share_in q event r.0 → weight_in p id event r ≡ weight_in q id event r
weight_stays p q id event r frozen kept share = λ i. weight_by (frozen i) (is_for event.resource_names r.1.name) (kept i) (share i)

-- those who take part are the same where each resource has the same weight in the program
take_part : (p : Portfolio) (shares : List (ShareKey × ℕ)) (id : List ℕ) (event : EventBody) → ((n : ℕ) → share_in p event n ≡ share_in (record p { shares = shares }) event n) → participants p id event ≡ participants (record p { shares = shares }) id event
take_part p shares id event same = λ i. filter_map (λ (r : ℕ × Resource). option_and_then (as_participant p r) (weight_stays p (record p { shares = shares }) id event r refl refl (same r.0) i)) p.resources

-- and where the event is frozen
pub shares_stay : (p : Portfolio) (shares : List (ShareKey × ℕ)) (id : List ℕ) (event : EventBody) → (is_frozen p id ≡ false → (n : ℕ) → share_in p event n ≡ share_in (record p { shares = shares }) event n) → participants p id event ≡ participants (record p { shares = shares }) id event
shares_stay p shares id event same = by (is_frozen p id) refl
  where
    by : (b : Bool) → is_frozen p id ≡ b → participants p id event ≡ participants (record p { shares = shares }) id event
    by true frozen = take_part_as_kept p id frozen event ∙ sym (take_part_as_kept (record p { shares = shares }) id frozen event)
    by false other = take_part p shares id event (same other)
