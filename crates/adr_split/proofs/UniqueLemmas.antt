-- A fair split is the computed one.
use Rattle.std.proofs.Common.{◌≡◌, ℕ, ◌+◌, ◌<◌, Bool, true, false, ltb, eqb, ℤ, pos, List, length, get_or, map, count_by, sum, sum_by, ◌⊎◌, inl, inr, refl, sym, ap, subst, ◌∙◌, arith}
use Rattle.std.specs.Prelude.{unsigned_abs, slice_index}
use Rattle.std.specs.List.{All, enumerate_from}
use Rattle.std.proofs.lemmas.Bool.{eqb-true, eqb-false, eq-eqb, ne_eqb}
use Rattle.std.proofs.lemmas.List.{length-map, get_or-map, get_or_default, same_lists}
use Rattle.std.proofs.lemmas.List.FromFn.{length-enumerate_from}
use Rattle.adr_split.specs.Quotas.{quota_of, missing_of, signed_as}
use Rattle.adr_split.specs.Claims.{claim_of}
use Rattle.adr_split.specs.FairSplit.{IsFairSplit, quota_at, magnitude_at, sum_of_parts}
use Rattle.adr_split.specs.Parts.{part_of, fair_split}
use Rattle.adr_split.specs.Laws.{AreWeights}
use Rattle.adr_split.proofs.Counts.{unit}
use Rattle.adr_split.proofs.Ranks.{rank, served_alone}
use Rattle.adr_split.proofs.Sums.{sum_same, map_same, sum_with_count, sum_placed}
use Rattle.adr_split.proofs.QuotaLemmas.{quotas_within, some_total}
use Rattle.adr_split.proofs.SignLemmas.{abs_signed, signed_sum}
use Rattle.adr_split.proofs.ClaimLemmas.{placed_before, places_ordered, goes_before_from}
use Rattle.adr_split.proofs.FairLemmas.{served_by_rank, read_place}

-- p gives the place one unit more than its quota
abbrev got : ℤ → List ℕ → List ℤ → ℕ × ℕ → Bool
got v w p e = eqb (magnitude_at p e.0) (quota_of (unsigned_abs v) (sum w) e.1 + 1)

quota_and_more : (q m : ℕ) → (m ≡ q) ⊎ (m ≡ q + 1) → m ≡ q + unit (eqb m (q + 1))
quota_and_more q m (inl e) = omega (arith, ap unit (ne_eqb m (q + 1) (λ f. omega arith)))
quota_and_more q m (inr e) = omega (arith, ap unit (eq-eqb m (q + 1) e))

not_more : (q m : ℕ) → (m ≡ q) ⊎ (m ≡ q + 1) → eqb m (q + 1) ≡ false → m ≡ q
not_more q m (inl e) h = e
not_more q m (inr e) h = absurd (eqb-false m (q + 1) h e)

-- an element of the places is a place and its share
placed : (w : List ℕ) (i : ℕ) (d : ℕ × ℕ) → i < length (enumerate_from 0 w) → get_or (enumerate_from 0 w) i d ≡ (i, slice_index w i)
placed w i d l = get_or_default (enumerate_from 0 w) i d (i, 0) l ∙ read_place w i (omega (arith, l, length-enumerate_from 0 w))

all_placed : (w : List ℕ) (P : ℕ × ℕ → Type 0) → ((i : ℕ) → i < length w → P (i, slice_index w i)) → All P (enumerate_from 0 w)
all_placed w P h i d l = subst P (sym (placed w i d l)) (h i (omega (arith, l, length-enumerate_from 0 w)))

-- the parts, each read at its place
by_places : (v : ℤ) (w : List ℕ) (p : List ℤ) → IsFairSplit v w p → p ≡ map (λ (e : ℕ × ℕ). signed_as v (magnitude_at p e.0)) (enumerate_from 0 w)
by_places v w p f =
    let es : List (ℕ × ℕ) = enumerate_from 0 w in
    let g : ℕ × ℕ → ℤ = λ (e : ℕ × ℕ). signed_as v (magnitude_at p e.0) in
    same_lists p (map g es) (f.one_part_each ∙ sym (length-enumerate_from 0 w) ∙ sym (length-map es g))
    (λ i d l.
    let m : i < length es = omega (arith, l, f.one_part_each, length-enumerate_from 0 w) in
    get_or_default p i d (pos 0) l
    ∙ f.signs i (pos 0) l
    ∙ sym (get_or-map g es i (i, 0) d m ∙ ap g (placed w i (i, 0) m)))

magnitudes_sum : (v : ℤ) (w : List ℕ) (p : List ℤ) → IsFairSplit v w p → sum_by (λ (e : ℕ × ℕ). magnitude_at p e.0) (enumerate_from 0 w) ≡ unsigned_abs v
magnitudes_sum v w p f =
    let n : ℕ = sum_by (λ (e : ℕ × ℕ). magnitude_at p e.0) (enumerate_from 0 w) in
    let e : signed_as v n ≡ v = sym (signed_sum v (λ (e : ℕ × ℕ). magnitude_at p e.0) (enumerate_from 0 w)) ∙ sym (ap sum_of_parts (by_places v w p f)) ∙ f.sums_up in
    sym (abs_signed v n) ∙ ap unsigned_abs e

each_magnitude : (v : ℤ) (w : List ℕ) (p : List ℤ) → IsFairSplit v w p → All (λ e. magnitude_at p e.0 ≡ quota_of (unsigned_abs v) (sum w) e.1 + unit (got v w p e)) (enumerate_from 0 w)
each_magnitude v w p f = all_placed w (λ e. magnitude_at p e.0 ≡ quota_of (unsigned_abs v) (sum w) e.1 + unit (got v w p e))
    (λ i l. quota_and_more (quota_at v w i) (magnitude_at p i) (f.quota_or_one_more i l))

count_of_got : (v : ℤ) (w : List ℕ) (p : List ℤ) → 0 < sum w → IsFairSplit v w p → count_by (got v w p) (enumerate_from 0 w) ≡ missing_of (unsigned_abs v) (sum w) w
count_of_got v w p h f =
    let a : ℕ = unsigned_abs v in
    let es : List (ℕ × ℕ) = enumerate_from 0 w in
    omega (
      arith,
      quotas_within a (sum w) w refl h,
      magnitudes_sum v w p f,
      sum_placed (quota_of a (sum w)) 0 w,
      sum_same (λ (e : ℕ × ℕ). magnitude_at p e.0) (λ (e : ℕ × ℕ). quota_of a (sum w) e.1 + unit (got v w p e)) es (each_magnitude v w p f),
      sum_with_count (λ (e : ℕ × ℕ). quota_of a (sum w) e.1) (got v w p) es,
    )

-- who got one more goes before who did not
got_goes_first : (v : ℤ) (w : List ℕ) (p : List ℤ) → IsFairSplit v w p → All (λ x. All (λ y. got v w p x ≡ true → got v w p y ≡ false → placed_before (unsigned_abs v) (sum w) x y ≡ true) (enumerate_from 0 w)) (enumerate_from 0 w)
got_goes_first v w p f =
    let a : ℕ = unsigned_abs v in
    let Goes : ℕ × ℕ → ℕ × ℕ → Type 0 = λ x y. got v w p x ≡ true → got v w p y ≡ false → placed_before a (sum w) x y ≡ true in
    all_placed w (λ x. All (Goes x) (enumerate_from 0 w)) (λ i l.
    all_placed w (Goes (i, slice_index w i)) (λ j m h g.
    goes_before_from (claim_of a (sum w) (i, slice_index w i)) (claim_of a (sum w) (j, slice_index w j))
    (f.largest_remainders i j l m (eqb-true _ _ h) (not_more (quota_at v w j) (magnitude_at p j) (f.quota_or_one_more j m) g))))

pub fair_split_is_one : (v : ℤ) (w : List ℕ) (p : List ℤ) → AreWeights w → IsFairSplit v w p → p ≡ fair_split v w
unfolding fair_split
fair_split_is_one v w p h f =
    let a : ℕ = unsigned_abs v in
    let es : List (ℕ × ℕ) = enumerate_from 0 w in
    let k : ℕ = missing_of a (sum w) w in
    let lt : ℕ × ℕ → ℕ × ℕ → Bool = placed_before a (sum w) in
    let served : All (λ e. got v w p e ≡ ltb (rank lt es e) k) es = served_alone lt (places_ordered a (sum w)) es k (got v w p) (count_of_got v w p (some_total w h.some h.positive) f) (got_goes_first v w p f) in
    by_places v w p f
    ∙ map_same (λ (e : ℕ × ℕ). signed_as v (magnitude_at p e.0)) (part_of v w) es
    (λ i d l. ap (signed_as v) (each_magnitude v w p f i d l ∙ ap (λ b. quota_of a (sum w) (get_or es i d).1 + unit b) (served i d l ∙ sym (served_by_rank a (sum w) w (get_or es i d)))))
