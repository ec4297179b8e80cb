-- The keys whose mark rose have all that evidence touches.
use Rattle.std.proofs.Common.{◌≡◌, inl, inr, ℕ, Bool, true, false, List, [], ◌∷◌, ◌||◌, map, Option, Some, None, refl, sym, ap, subst, ◌∙◌}
use Rattle.std.specs.Map.{keys_of}
use Rattle.std.specs.Option.{option_map_or}
use Rattle.std.proofs.lemmas.Option.{cond_some}
use Rattle.adr_objects.specs.declared.kind.Kind.{Kind}
use Rattle.adr_objects.specs.declared.kind.Kind.TheVariants as kind
use Rattle.adr_state.specs.declared.base.Mark.{Mark}
use Rattle.adr_state.specs.declared.keys.MirrorKey.{MirrorKey}
use Rattle.adr_state.specs.Keys.{mirror_cmp, at}
use Rattle.adr_state.specs.Laws.{IsRaised}
use Rattle.adr_state.specs.Marks.{is_below}
use Rattle.adr_state.specs.Mirror.{joined}
use Rattle.adr_state.specs.Scans.{has_key}
use Rattle.adr_state.proofs.LawLemmas.{joins_greatest}
use Rattle.adr_view.specs.Rollups.{event_key}
use Rattle.adr_view.proofs.ListLemmas.{from_filter_map, from_flat, in_map}
use Rattle.adr_refresh.specs.Sources.{Upstream, RolledUp}
use Rattle.adr_refresh.specs.Touched.{rises as risen_by, rising, sources_by, sources_at}
use Rattle.adr_refresh.proofs.Common.{All, All-cons, All-contains, All-nil, Base, Contains, Contains-append_left, Contains-append_right, equal_from_is, is_eq, mirror_exact, true≢false}
use Rattle.adr_refresh.proofs.ListLemmas.{behind_first, the_first}
use Rattle.adr_mirror.specs.Raises.{rises, HaveRisen}
use Rattle.adr_touched.specs.Laws.{sources_of, EvidenceIsCovered}
use Rattle.adr_touched.proofs.Covered.{front, rolled}

key_there : (key : MirrorKey) (keys : List MirrorKey) → has_key keys key ≡ true → Contains keys key
key_there key [] is = absurd cc
key_there key (k ∷ keys) is = by (is_eq (mirror_cmp key k)) refl (λ more. behind_first k keys key (key_there key keys more))
  where
    by : (b : Bool) → is_eq (mirror_cmp key k) ≡ b → (has_key keys key ≡ true → Contains (k ∷ keys) key) → Contains (k ∷ keys) key
    by true same rest = subst (Contains (k ∷ keys)) (sym (mirror_exact key k (equal_from_is _ same))) (the_first k keys)
    by false apart rest = rest (let among : (is_eq (mirror_cmp key k) || has_key keys key) ≡ true = is in subst (λ b. (b || has_key keys key) ≡ true) apart among)

-- what was below a mark that came is below what is known then
above : (mark : Mark) (before after : Option Mark) → IsRaised before after → is_below after mark ≡ false → is_below before mark ≡ true → option_map_or (λ known. is_below before known) after false ≡ true
above mark before None raised reached below = absurd (true≢false reached)
above mark before (Some known) (inl same) reached below = absurd (true≢false (sym below ∙ ap (λ x. is_below x mark) same ∙ reached))
above mark before (Some known) (inr up) reached below = up

sources_there : (keys : List MirrorKey) (k : Kind) (id : List ℕ) → Contains keys (record { kind = k; id = id }) → All (Contains (sources_of keys [])) (sources_by k id)
sources_there keys k id there = by k there
  where
    upstream : (k : Kind) → Contains keys (record { kind = k; id = id }) → Contains (sources_of keys []) (Upstream (record { kind = k; id = id }))
    upstream k there = Contains-append_left (front keys []) (rolled keys []) (Upstream (record { kind = k; id = id })) (Contains-append_left (map Upstream keys) [] (Upstream (record { kind = k; id = id })) (in_map Upstream keys (record { kind = k; id = id }) there))

    by : (k : Kind) → Contains keys (record { kind = k; id = id }) → All (Contains (sources_of keys [])) (sources_by k id)
    by kind.Program there = All-cons (Contains (sources_of keys [])) (Upstream (record { kind = kind.Program; id = id })) [] (upstream kind.Program there) (All-nil (Contains (sources_of keys [])))
    by kind.Event there =
        All-cons (Contains (sources_of keys [])) (Upstream (event_key id)) (RolledUp id ∷ []) (upstream kind.Event there)
        (All-cons (Contains (sources_of keys [])) (RolledUp id) [] (Contains-append_right (front keys []) (rolled keys []) (RolledUp id) (in_map (λ (k : MirrorKey). RolledUp k.id) keys (event_key id) there)) (All-nil (Contains (sources_of keys []))))

-- a key whose mark rises is among those that rose, and is that of a mark
pub risen_there : (base : Base) (marks : List (MirrorKey × Mark)) (keys : List MirrorKey) → HaveRisen base.mirror (joined base.mirror marks) keys → (k : MirrorKey) → Contains (rising base.mirror marks) k → Contains keys k × Contains (keys_of marks) k
risen_there base marks keys risen k there =
    let of_mark = from_filter_map (risen_by base.mirror) marks k there in
    let e : MirrorKey × Mark = of_mark.0 in
    let both = cond_some (is_below (at mirror_cmp e.0 base.mirror) e.1) e.0 k of_mark.2 in
    let greatest = joins_greatest base.mirror marks in
    let up : rises base.mirror (joined base.mirror marks) e.0 ≡ true = above e.1 (at mirror_cmp e.0 base.mirror) (at mirror_cmp e.0 (joined base.mirror marks)) (greatest.only_raises e.0) (greatest.reaches_each e.0 e.1 of_mark.1) both.0 in
    (subst (Contains keys) both.1 (key_there e.0 keys (risen.each e.0 ∙ up)), subst (Contains (keys_of marks)) both.1 (in_map (λ (e : MirrorKey × Mark). e.0) marks e of_mark.1))

pub evidence_covered : EvidenceIsCovered
evidence_covered base marks scan keys risen s there =
    let of_key = from_flat sources_at (rising base.mirror marks) s there in
    let has = (risen_there base marks keys risen of_key.0 of_key.1).0 in
    All-contains (Contains (sources_of keys [])) (sources_at of_key.0) s (sources_there keys of_key.0.kind of_key.0.id has) of_key.2
