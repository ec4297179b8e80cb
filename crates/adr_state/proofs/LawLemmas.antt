-- What the laws need.
use Rattle.std.proofs.Common.{◌≡◌, ℕ, Bool, true, false, cond, ◌&&◌, ◌||◌, ◌⊎◌, inl, inr, List, [], ◌∷◌, Option, Some, None, refl, sym, ap, subst, ◌∙◌, arith}
use Rattle.std.specs.Prelude.{nat_lt, ◌==◌}
use Rattle.std.specs.List.{AllByRecursion, Contains}
use Rattle.std.specs.Ordering.{nat_cmp, is_lt, is_eq, ordering_reverse, ordering_then, match_ordering}
use Rattle.std.specs.Map.{lookup}
use Rattle.std.specs.BTreeMap.{insert_entry}
use Rattle.std.specs.declared.cmp.Ordering.{Ordering}
use Rattle.std.specs.declared.cmp.Ordering.TheVariants.{Less, Equal, Greater}
use Rattle.std.specs.Cmp.{IsTotalOrder, Equal-is}
use Rattle.std.specs.Cmp.Lexicographic.{slice_cmp}
use Rattle.std.proofs.lemmas.Bool.{true≢false, both_ways, cond_both, false_from_ne_true}
use Rattle.std.proofs.lemmas.Cmp.{nat_cmp_total, nat_list_cmp_total, tied_itself, alike_right, on_total, then_total}
use Rattle.std.proofs.lemmas.List.Elements.{All-contains, All-from_recursion, Contains-append_right}
use Rattle.std.proofs.lemmas.List.Sorted.{ranks_by}
use Rattle.std.proofs.lemmas.Map.Lookups.{CmpEqualImpliesEq, exact_unsigned, exact_bytes, exact_pairs}
use Rattle.std.proofs.lemmas.Option.{same_Some}
use Rattle.adr_objects.specs.Canonical.{canonical_text}
use Rattle.adr_objects.specs.declared.kind.Kind.TheVariants as kind
use Rattle.adr_state.specs.contracts.keys.MirrorKeyOrd.TheImpl.Laws.{total-law}
use Rattle.adr_state.specs.declared.base.Mark.{Mark}
use Rattle.adr_state.specs.declared.base.Mark.TheVariants.{Live, Dead}
use Rattle.adr_state.specs.declared.keys.MirrorKey.{MirrorKey}
use Rattle.adr_state.specs.Keys.{kind_cmp, id_cmp, mirror_cmp, at}
use Rattle.adr_state.specs.Marks.{is_below}
use Rattle.adr_state.specs.Mirror.{raised, joined}
use Rattle.adr_state.specs.Laws.{SayTheSame, MarksAreOrdered, IsRaised, JoinsAreGreatest}
use Rattle.adr_state.proofs.KeyLemmas.{mirror_order}

-- ---- marks

-- versions stand by their moments, and of one moment by their texts; deletions stand behind them
abbrev version_cmp : ℕ × List ℕ → ℕ × List ℕ → Ordering
version_cmp v w = ordering_then (nat_cmp v.0 w.0) (slice_cmp nat_cmp v.1 w.1)

abbrev place_cmp : ℕ × (ℕ × List ℕ) → ℕ × (ℕ × List ℕ) → Ordering
place_cmp p q = ordering_then (nat_cmp p.0 q.0) (version_cmp p.1 q.1)

abbrev place_of : Mark → ℕ × (ℕ × List ℕ)
place_of (Live moment body) = (0, (moment, canonical_text body))
place_of Dead = (1, (0, []))

versions_total : IsTotalOrder version_cmp
versions_total = then_total (on_total (λ (v : ℕ × List ℕ). v.0) nat_cmp_total) (on_total (λ (v : ℕ × List ℕ). v.1) nat_list_cmp_total)

places_total : IsTotalOrder place_cmp
places_total = then_total (on_total (λ (p : ℕ × (ℕ × List ℕ)). p.0) nat_cmp_total) (on_total (λ (p : ℕ × (ℕ × List ℕ)). p.1) versions_total)

places_exact : CmpEqualImpliesEq place_cmp
places_exact = exact_pairs nat_cmp version_cmp exact_unsigned (exact_pairs nat_cmp (slice_cmp nat_cmp) exact_unsigned exact_bytes)

by_moments : (less same : Bool) (o : Ordering) → (less || (same && is_lt o)) ≡ is_lt (ordering_then (cond less Less (cond same Equal Greater)) o)
by_moments true same o = refl
by_moments false true o = refl
by_moments false false o = refl

-- a mark is below another where its place is before
below_is : (m n : Mark) → is_below (Some m) n ≡ is_lt (place_cmp (place_of m) (place_of n))
below_is Dead Dead = refl
below_is Dead (Live n b) = refl
below_is (Live m a) Dead = refl
below_is (Live m a) (Live n b) = by_moments (nat_lt m n) (m == n) (slice_cmp nat_cmp (canonical_text a) (canonical_text b))

less_from : (o : Ordering) → is_lt o ≡ true → o ≡ Less
less_from Less h = refl
less_from Equal h = absurd (cc)
less_from Greater h = absurd (cc)

neither_less : (o : Ordering) → is_lt o ≡ false → is_lt (ordering_reverse o) ≡ false → o ≡ Equal
neither_less Less h g = absurd (cc)
neither_less Equal h g = refl
neither_less Greater h g = absurd (cc)

itself : (m : Mark) → is_below (Some m) m ≡ false
itself m = below_is m m ∙ ap is_lt (tied_itself places_total (place_of m))

pub over : (k : Option Mark) (m n : Mark) → is_below k m ≡ true → is_below (Some m) n ≡ true → is_below k n ≡ true
over None m n h g = refl
over (Some k) m n h g = below_is k n ∙ ap is_lt (places_total.trans (place_of k) (place_of m) (place_of n) (less_from _ (sym (below_is k m) ∙ h)) (less_from _ (sym (below_is m n) ∙ g)))

same_place : (m n : Mark) → is_below (Some m) n ≡ false → is_below (Some n) m ≡ false → place_of m ≡ place_of n
same_place m n h g =
    places_exact _ _ (neither_less (place_cmp (place_of m) (place_of n)) (sym (below_is m n) ∙ h) (ap is_lt (sym (places_total.antisymm (place_of n) (place_of m))) ∙ sym (below_is n m) ∙ g))

same_said : (m n : Mark) → place_of m ≡ place_of n → SayTheSame m n
same_said Dead Dead is = tt
same_said Dead (Live n b) is = absurd (omega (arith, ap (λ (p : ℕ × (ℕ × List ℕ)). p.0) is))
same_said (Live m a) Dead is = absurd (omega (arith, ap (λ (p : ℕ × (ℕ × List ℕ)). p.0) is))
same_said (Live m a) (Live n b) is = (ap (λ (p : ℕ × (ℕ × List ℕ)). p.1.0) is, ap (λ (p : ℕ × (ℕ × List ℕ)). p.1.1) is)

pub marks_ordered : MarksAreOrdered
marks_ordered = record {
  nothing_is_least = λ m. refl;
  deletion_is_greatest = λ m. refl;
  versions_are_below_it = λ n b. refl;
  never_below_itself = itself;
  never_both_ways = λ m n h. below_is n m ∙ (ranks_by places_total place_of).one_way m n (sym (below_is m n) ∙ h);
  kept_over_a_third = over;
  below_unless_same = λ m n h g. same_said m n (same_place m n h g);
}

-- ---- joins

pub key_order : IsTotalOrder mirror_cmp
key_order = subst IsTotalOrder mirror_order total-law

kinds_equal : CmpEqualImpliesEq kind_cmp
kinds_equal kind.Program kind.Program h = refl
kinds_equal kind.Program kind.Event h = absurd (cc)
kinds_equal kind.Event kind.Program h = absurd (cc)
kinds_equal kind.Event kind.Event h = refl

keys_equal : CmpEqualImpliesEq mirror_cmp
keys_equal a b h =
    let same : (a.kind, a.id) ≡ (b.kind, b.id) = exact_pairs kind_cmp id_cmp kinds_equal exact_bytes (a.kind, a.id) (b.kind, b.id) h in
    λ j. record { kind = (same j).0; id = (same j).1 }

pub equal_from_is : (o : Ordering) → is_eq o ≡ true → o ≡ Equal
equal_from_is o h = (Equal-is o).0 h

unlike : {K : Type 0} {R : K → K → Ordering} → IsTotalOrder R → (q k j : K) → R k j ≡ Greater → is_eq (R q j) ≡ true → is_eq (R q k) ≡ true → ⊥
unlike {R = R} order q k j h one two = let no : Equal ≡ Greater = sym (equal_from_is (R q j) one) ∙ order.congr q k j (equal_from_is (R q k) two) ∙ h in cc

-- what a map has at a key after a put
module _ {K X : Type 0} {R : K → K → Ordering} (order : IsTotalOrder R) where
  twice : (b : Bool) (x y z : Option X) → cond b x z ≡ cond b x (cond b y z)
  twice true x y z = refl
  twice false x y z = refl

  apart : (b c : Bool) (x y z : Option X) → (b ≡ true → c ≡ true → ⊥) → cond b x (cond c y z) ≡ cond c y (cond b x z)
  apart true true x y z h = absurd (h refl refl)
  apart true false x y z h = refl
  apart false c x y z h = refl

  pub at-insert_entry : (q k : K) (v : X) (es : List (K × X)) → at R q (insert_entry R es k v) ≡ cond (is_eq (R q k)) (Some v) (at R q es)
  at-insert_entry q k v [] = refl
  at-insert_entry q k v (e ∷ es) = elim (R k e.0) as (λ o. R k e.0 ≡ o → at R q (match_ordering o ((k, v) ∷ e ∷ es) ((e.0, v) ∷ es) (e ∷ insert_entry R es k v)) ≡ cond (is_eq (R q k)) (Some v) (at R q (e ∷ es))) [
    | Less ↦ λ h. refl
    | Equal ↦ λ h. rw (← alike_right order k e.0 q h) (twice (is_eq (R q k)) (Some v) (Some e.1) (at R q es))
    | Greater ↦ λ h. rw (at-insert_entry q k v es) (apart (is_eq (R q e.0)) (is_eq (R q k)) (Some e.1) (Some v) (at R q es) (unlike order q k e.0 h))
  ] refl

  -- equal keys have one row
  pub at_same : (q k : K) (es : List (K × X)) → R q k ≡ Equal → at R q es ≡ at R k es
  at_same q k es h = λ j. lookup (λ x. is_eq (order.congr q k x h j)) es

-- what a key has after a mark: that mark, where it came for the key and is above what the key had, or else what it had
raised_at : (key : MirrorKey) (mirror : List (MirrorKey × Mark)) (e : MirrorKey × Mark) (P : Option Mark → Type 0)
    → (mirror_cmp key e.0 ≡ Equal → is_below (at mirror_cmp key mirror) e.1 ≡ true → P (Some e.1))
    → ((mirror_cmp key e.0 ≡ Equal → is_below (at mirror_cmp key mirror) e.1 ≡ false) → P (at mirror_cmp key mirror)) → P (at mirror_cmp key (raised mirror e))
raised_at key mirror e P takes keeps =
    let alike : mirror_cmp key e.0 ≡ Equal → is_below (at mirror_cmp key mirror) e.1 ≡ is_below (at mirror_cmp e.0 mirror) e.1 = λ tied. ap (λ known. is_below known e.1) (at_same key_order key e.0 mirror tied) in
    cond_both (is_below (at mirror_cmp e.0 mirror) e.1) (insert_entry mirror_cmp mirror e.0 e.1) mirror (λ after. P (at mirror_cmp key after))
    (λ above. subst P (sym (at-insert_entry key_order key e.0 e.1 mirror))
    (cond_both (is_eq (mirror_cmp key e.0)) (Some e.1) (at mirror_cmp key mirror) P
    (λ is. let tied : mirror_cmp key e.0 ≡ Equal = equal_from_is _ is in takes tied (alike tied ∙ above))
    (λ other. keeps (λ tied. absurd (both_ways _ other (ap is_eq tied))))))
    (λ level. keeps (λ tied. alike tied ∙ level))

stays : (x : Option Mark) → IsRaised x x
stays None = refl
stays (Some m) = inl refl

rises_over : (x y z : Option Mark) → IsRaised x y → IsRaised y z → IsRaised x z
rises_over x None None f g = f
rises_over x (Some n) None f g = absurd (cc)
rises_over x None (Some p) f g = inr (ap (λ k. is_below k p) f)
rises_over x (Some n) (Some p) f (inl g) = subst (IsRaised x) g f
rises_over x (Some n) (Some p) (inl f) (inr g) = inr (ap (λ k. is_below k p) f ∙ g)
rises_over x (Some n) (Some p) (inr f) (inr g) = inr (over x n p f g)

-- what is not above what was known is not above what is known then
not_above : (x y : Option Mark) (m : Mark) → IsRaised x y → is_below x m ≡ false → is_below y m ≡ false
not_above x None m f h = absurd (true≢false (sym (ap (λ k. is_below k m) f) ∙ h))
not_above x (Some n) m (inl f) h = sym (ap (λ k. is_below k m) f) ∙ h
not_above x (Some n) m (inr f) h = false_from_ne_true (is_below (Some n) m) (λ e. true≢false (sym (over x n m f e) ∙ h))

join_only_raises : (mirror evidence : List (MirrorKey × Mark)) (key : MirrorKey) → IsRaised (at mirror_cmp key mirror) (at mirror_cmp key (joined mirror evidence))
join_only_raises mirror [] key = stays (at mirror_cmp key mirror)
join_only_raises mirror (e ∷ es) key =
    rises_over _ _ _ (raised_at key mirror e (IsRaised (at mirror_cmp key mirror)) (λ tied above. inr above) (λ level. stays (at mirror_cmp key mirror))) (join_only_raises (raised mirror e) es key)

-- no mark that came is above what its key has in the end
reached : (mirror evidence : List (MirrorKey × Mark)) → AllByRecursion (λ e. is_below (at mirror_cmp e.0 (joined mirror evidence)) e.1 ≡ false) evidence
reached mirror [] = tt
reached mirror (e ∷ es) = (
  not_above _ _ e.1 (join_only_raises (raised mirror e) es e.0)
      (raised_at e.0 mirror e (λ known. is_below known e.1 ≡ false) (λ tied above. itself e.1) (λ level. level (tied_itself key_order e.0))),
  reached (raised mirror e) es,
)

join_from : (mirror evidence : List (MirrorKey × Mark)) (key : MirrorKey) (m : Mark) → at mirror_cmp key (joined mirror evidence) ≡ Some m
    → (at mirror_cmp key mirror ≡ Some m) ⊎ Contains evidence (key, m)
join_from mirror [] key m h = inl h
join_from mirror (e ∷ es) key m h = elim (join_from (raised mirror e) es key m h) [
  | inl now ↦ raised_at key mirror e (λ known. known ≡ Some m → (at mirror_cmp key mirror ≡ Some m) ⊎ Contains (e ∷ es) (key, m))
      (λ tied above is. inr (0, omega arith, λ j. (sym (keys_equal key e.0 tied) j, same_Some e.1 m is j))) (λ level is. inl is) now
  | inr later ↦ inr (Contains-append_right (e ∷ []) es (key, m) later)
]

pub joins_greatest : JoinsAreGreatest
joins_greatest mirror evidence = record {
  only_raises = join_only_raises mirror evidence;
  reaches_each = λ key m h. All-contains (λ e. is_below (at mirror_cmp e.0 (joined mirror evidence)) e.1 ≡ false) evidence (key, m) (All-from_recursion _ evidence (reached mirror evidence)) h;
  is_one_of_them = join_from mirror evidence;
}
