-- The events in which shares are frozen, as they are gathered from answers.
use Rattle.std.proofs.Common.{◌≡◌, inl, inr, ℕ, Bool, true, false, not, cond, List, [], ◌∷◌, ◌++◌, map, filter, None, Some, refl, sym, ap, subst, ◌∙◌}
use Rattle.std.specs.Prelude.{◌==◌, ◌&&◌}
use Rattle.std.proofs.lemmas.List.Elements.{Contains-append_cases, All-contains, All-contains_itself, All-filter, filter_passes}
use Rattle.std.proofs.Common.{eq-eqb, eqb-true}
use Rattle.adr_state.specs.declared.keys.FrozenKey.{FrozenKey}
use Rattle.adr_state.specs.declared.keys.MirrorKey.{MirrorKey}
use Rattle.adr_state.specs.declared.portfolio.Portfolio.{Portfolio}
use Rattle.adr_state.specs.declared.portfolio.Resource.{Resource}
use Rattle.adr_state.specs.Frozen.{is_frozen}
use Rattle.adr_view.specs.Rollups.{event_key}
use Rattle.adr_view.proofs.ListLemmas.{in_map, in_filter}
use Rattle.adr_refresh.specs.Touched.{has_resource, not_frozen}
use Rattle.adr_refresh.proofs.Common.{Contains, Contains-append_left, Contains-append_right, filter_map, cons_option, list_any}
use Rattle.adr_db.proofs.Common.{map-map, same_bool}
use Rattle.adr_touched.specs.Answers.{HasEvents, resources_of, frozen_by}
use Rattle.adr_touched.proofs.Gathered.{HangsOn, any_passing}

-- whether an event is among them hangs on the resource
pub by_share : (passes : ℕ → Bool) (s : FrozenKey × ℕ) (id : List ℕ) → frozen_by passes s ≡ Some id → HangsOn frozen_by passes s id
by_share passes s id made = by (passes s.0.resource) refl made
  where
    by : (b : Bool) → passes s.0.resource ≡ b → cond b (Some s.0.event) None ≡ Some id → HangsOn frozen_by passes s id
    by true is h = record { said = s.0.resource; passed = is; made = λ q it. rw it h }
    by false is h = absurd cc

-- those events, one by one
pub frozen_are : (passes : ℕ → Bool) (es : List (FrozenKey × ℕ)) → map (λ s. s.0.event) (filter (λ s. passes s.0.resource) es) ≡ filter_map (frozen_by passes) es
frozen_are passes [] = refl
frozen_are passes (s ∷ es) = by (passes s.0.resource) (frozen_are passes es)
  where
    by : (b : Bool) → map (λ s. s.0.event) (filter (λ s. passes s.0.resource) es) ≡ filter_map (frozen_by passes) es
        → map (λ (s : FrozenKey × ℕ). s.0.event) (cond b (s ∷ filter (λ s. passes s.0.resource) es) (filter (λ s. passes s.0.resource) es)) ≡ cons_option (cond b (Some s.0.event) None) (filter_map (frozen_by passes) es)
    by true same = ap (λ ids. s.0.event ∷ ids) same
    by false same = same

-- the keys of what is kept for a resource are those of its events
pub keys_has : (n : ℕ) (es : List (FrozenKey × ℕ)) (shares : List FrozenKey) → shares ≡ map (λ s. s.0) (filter (λ s. s.0.resource == n) es) → HasEvents (map (λ share. event_key share.event) shares) (map (λ s. s.0.event) (filter (λ s. s.0.resource == n) es))
keys_has n es shares are id there =
    subst (λ (keys : List MirrorKey). Contains keys (event_key id)) (map-map event_key (λ (s : FrozenKey × ℕ). s.0.event) (filter (λ s. s.0.resource == n) es) ∙ sym same)
    (in_map event_key (map (λ s. s.0.event) (filter (λ s. s.0.resource == n) es)) id there)
  where
    same : map (λ (share : FrozenKey). event_key share.event) shares ≡ map (λ (s : FrozenKey × ℕ). event_key s.0.event) (filter (λ s. s.0.resource == n) es)
    same = ap (map (λ (share : FrozenKey). event_key share.event)) are ∙ map-map (λ (share : FrozenKey). event_key share.event) (λ (s : FrozenKey × ℕ). s.0) (filter (λ s. s.0.resource == n) es)

flipped : (a b : ℕ) → (a == b) ≡ (b == a)
flipped a b = same_bool _ _ (λ same. eq-eqb b a (sym (eqb-true a b same))) (λ same. eq-eqb a b (sym (eqb-true b a same)))

-- a resource of a ven is among its resources
pub one_of_it : (p : Portfolio) (ven m : ℕ) → has_resource p ven m ≡ true → list_any (λ n. m == n) (resources_of ven p) ≡ true
one_of_it p ven m is = any_passing (λ n. m == n) (λ r. r.1.ven == ven) (λ r. r.0) p.resources ∙ turned p.resources is
  where
    turned : (rs : List (ℕ × Resource)) → list_any (λ r. (r.1.ven == ven) && (r.0 == m)) rs ≡ true → list_any (λ r. (r.1.ven == ven) && (m == r.0)) rs ≡ true
    turned rs h = ap (λ (test : ℕ → Bool). list_any (λ r. (r.1.ven == ven) && test r.0) rs) (λ i n. flipped m n i) ∙ h

-- both have what either has
pub both_have : (keys others : List MirrorKey) (ids more : List (List ℕ)) → HasEvents keys ids → HasEvents others more → HasEvents (keys ++ others) (ids ++ more)
both_have keys others ids more has have id there = elim (Contains-append_cases ids more id there) [
  | inl one ↦ Contains-append_left keys others (event_key id) (has id one)
  | inr other ↦ Contains-append_right keys others (event_key id) (have id other)
]

-- those that are not frozen are left among keys that have all
pub left_has : (p : Portfolio) (keys : List MirrorKey) (ids : List (List ℕ)) → HasEvents keys ids → HasEvents (filter (λ key. not (is_frozen p key.id)) keys) (not_frozen p ids)
left_has p keys ids has id there =
    let free = λ (id : List ℕ). not (is_frozen p id) in
    let from = All-contains (Contains ids) (not_frozen p ids) id (All-filter free (Contains ids) ids (All-contains_itself ids)) there in
    let passed = All-contains (λ id. free id ≡ true) (not_frozen p ids) id (filter_passes free ids) there in
    in_filter (λ key. not (is_frozen p key.id)) keys (event_key id) passed (has id from)
