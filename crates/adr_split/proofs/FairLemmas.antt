-- The computed split is fair.
use Rattle.std.proofs.Common.{◌≡◌, ℕ, ◌+◌, ◌<◌, ◌≤◌, Bool, true, false, ltb, ℤ, pos, List, length, get_or, map, count_by, sum, sum_by, ◌⊎◌, inl, inr, refl, sym, ap, subst, ◌∙◌, ⊎_elim, arith}
use Rattle.std.specs.Prelude.{unsigned_abs, slice_index}
use Rattle.std.specs.List.{All, enumerate_from}
use Rattle.std.proofs.lemmas.Bool.{cases_Bool, ltb-true, ltb-false}
use Rattle.std.proofs.lemmas.List.{length-map, get_or-map}
use Rattle.std.proofs.lemmas.List.FromFn.{length-enumerate_from, get_or-enumerate_from}
use Rattle.std.proofs.lemmas.List.Elements.{All-map}
use Rattle.adr_split.specs.Limits.{AreShares}
use Rattle.adr_split.specs.Quotas.{quota_of, missing_of, signed_as}
use Rattle.adr_split.specs.Claims.{goes_before, claim_of, claims_of, rank_among}
use Rattle.adr_split.specs.FairSplit.{IsFairSplit, GoesFirst, magnitude_at, sum_of_parts}
use Rattle.adr_split.specs.Parts.{is_served, magnitude_of, part_of, part_before, fair_split}
use Rattle.adr_split.specs.declared.claims.Claim.{Claim}
use Rattle.adr_split.specs.Laws.{AreWeights}
use Rattle.adr_split.proofs.Counts.{unit, count_same}
use Rattle.adr_split.proofs.Ranks.{rank, rank_keeps, count_served, served_at}
use Rattle.adr_split.proofs.Sums.{map_same, sum_with_count, sum_placed}
use Rattle.adr_split.proofs.QuotaLemmas.{quotas_within, missing_below, some_total}
use Rattle.adr_split.proofs.SignLemmas.{signed_itself, abs_signed, signed_sum}
use Rattle.adr_split.proofs.ClaimLemmas.{claims_ordered, placed_before, places_ordered, places_apart, rank_placed, goes_first}

-- a place is served where its rank is below the missing units
pub served_by_rank : (a t : ℕ) (w : List ℕ) (e : ℕ × ℕ) → is_served a t w (claim_of a t e) ≡ ltb (rank (placed_before a t) (enumerate_from 0 w) e) (missing_of a t w)
served_by_rank a t w e = ap (λ n. ltb n (missing_of a t w)) (rank_placed a t w e)

-- as many are served as units are missing
count_of_served : (a : ℕ) (w : List ℕ) → 0 < sum w → count_by (λ e. is_served a (sum w) w (claim_of a (sum w) e)) (enumerate_from 0 w) ≡ missing_of a (sum w) w
count_of_served a w h =
    let es : List (ℕ × ℕ) = enumerate_from 0 w in
    let lt : ℕ × ℕ → ℕ × ℕ → Bool = placed_before a (sum w) in
    let k : ℕ = missing_of a (sum w) w in
    count_same (λ e. is_served a (sum w) w (claim_of a (sum w) e)) (λ e. ltb (rank lt es e) k) es (λ i d m. served_by_rank a (sum w) w (get_or es i d))
    ∙ count_served lt (places_ordered a (sum w)) es (places_apart a (sum w) w) k (omega (arith, length-enumerate_from 0 w, missing_below a w h))

magnitudes : (a : ℕ) (w : List ℕ) → 0 < sum w → sum_by (magnitude_of a (sum w) w) (enumerate_from 0 w) ≡ a
magnitudes a w h =
    sum_with_count (λ (e : ℕ × ℕ). quota_of a (sum w) e.1) (λ e. is_served a (sum w) w (claim_of a (sum w) e)) (enumerate_from 0 w)
    ∙ omega (arith, sum_placed (quota_of a (sum w)) 0 w, count_of_served a w h, quotas_within a (sum w) w refl h)

sums_up : (v : ℤ) (w : List ℕ) → 0 < sum w → sum_of_parts (fair_split v w) ≡ v
unfolding fair_split
sums_up v w h =
    signed_sum v (magnitude_of (unsigned_abs v) (sum w) w) (enumerate_from 0 w)
    ∙ ap (signed_as v) (magnitudes (unsigned_abs v) w h)
    ∙ signed_itself v

pub read_place : (w : List ℕ) (i : ℕ) → i < length w → get_or (enumerate_from 0 w) i (i, 0) ≡ (i, slice_index w i)
read_place w i l = get_or-enumerate_from 0 w i (i, 0) l ∙ ap (λ n. (n, slice_index w i)) (omega arith)

read_part : (v : ℤ) (w : List ℕ) (i : ℕ) → i < length w → magnitude_at (fair_split v w) i ≡ magnitude_of (unsigned_abs v) (sum w) w (i, slice_index w i)
unfolding fair_split
read_part v w i l =
    ap unsigned_abs (get_or-map (part_of v w) (enumerate_from 0 w) i (i, 0) (pos 0) (omega (arith, l, length-enumerate_from 0 w)) ∙ ap (part_of v w) (read_place w i l))
    ∙ abs_signed v (magnitude_of (unsigned_abs v) (sum w) w (i, slice_index w i))

abbrev served_place : ℤ → List ℕ → ℕ → Bool
served_place v w i = is_served (unsigned_abs v) (sum w) w (claim_of (unsigned_abs v) (sum w) (i, slice_index w i))

quota_or_more : (q m : ℕ) (b : Bool) → m ≡ q + unit b → (m ≡ q) ⊎ (m ≡ q + 1)
quota_or_more q m true h = inr h
quota_or_more q m false h = inl (omega arith)

served_from_more : (q m : ℕ) (b : Bool) → m ≡ q + unit b → m ≡ q + 1 → b ≡ true
served_from_more q m true h e = refl
served_from_more q m false h e = absurd (omega arith)

passed_from_quota : (q m : ℕ) (b : Bool) → m ≡ q + unit b → m ≡ q → b ≡ false
passed_from_quota q m true h e = absurd (omega arith)
passed_from_quota q m false h e = refl

-- a served place goes before one that is not
served_goes_first : (v : ℤ) (w : List ℕ) (i j : ℕ) → served_place v w i ≡ true → served_place v w j ≡ false → GoesFirst v w i j
served_goes_first v w i j p q =
    let a : ℕ = unsigned_abs v in
    let t : ℕ = sum w in
    let e : ℕ × ℕ = (i, slice_index w i) in
    let f : ℕ × ℕ = (j, slice_index w j) in
    let es : List (ℕ × ℕ) = enumerate_from 0 w in
    let lt : ℕ × ℕ → ℕ × ℕ → Bool = placed_before a t in
    let low : rank lt es e < missing_of a t w = ltb-true _ _ (sym (served_by_rank a t w e) ∙ p) in
    let high : missing_of a t w ≤ rank lt es f = ltb-false _ _ (sym (served_by_rank a t w f) ∙ q) in
    goes_first (claim_of a t e) (claim_of a t f)
    (⊎_elim (λ h. h) (λ h. absurd (omega (arith, low, high, rank_keeps lt (places_ordered a t) es e f h))) (cases_Bool (lt e f)))

signs : (v : ℤ) (w : List ℕ) → All (λ x. x ≡ signed_as v (unsigned_abs x)) (fair_split v w)
unfolding fair_split
signs v w = All-map (λ x. x ≡ signed_as v (unsigned_abs x)) (part_of v w) (enumerate_from 0 w)
    (λ i d l. ap (signed_as v) (sym (abs_signed v (magnitude_of (unsigned_abs v) (sum w) w (get_or (enumerate_from 0 w) i d)))))

part_each : (v : ℤ) (w : List ℕ) → length (fair_split v w) ≡ length w
unfolding fair_split
part_each v w = length-map (enumerate_from 0 w) (part_of v w) ∙ length-enumerate_from 0 w

pub fair_split_is_fair : (v : ℤ) (w : List ℕ) → AreWeights w → IsFairSplit v w (fair_split v w)
fair_split_is_fair v w h = record {
  one_part_each = part_each v w;
  sums_up = sums_up v w (some_total w h.some h.positive);
  quota_or_one_more = λ i l. quota_or_more _ _ (served_place v w i) (read_part v w i l);
  largest_remainders = λ i j l m p q. served_goes_first v w i j
      (served_from_more _ _ (served_place v w i) (read_part v w i l) p)
      (passed_from_quota _ _ (served_place v w j) (read_part v w j m) q);
  signs = signs v w;
}

-- the split by a claim before which as many go as units are missing
pub split_by_claim : (v : ℤ) (w : List ℕ) (c : Claim) → rank_among (claims_of (unsigned_abs v) (sum w) w) c ≡ missing_of (unsigned_abs v) (sum w) w → map (part_before v (sum w) c) (enumerate_from 0 w) ≡ fair_split v w
unfolding fair_split
split_by_claim v w c r =
    let a : ℕ = unsigned_abs v in
    let es : List (ℕ × ℕ) = enumerate_from 0 w in
    map_same (part_before v (sum w) c) (part_of v w) es
    (λ i d l. ap (λ b. signed_as v (quota_of a (sum w) (get_or es i d).1 + unit b))
    (subst (λ x. goes_before x c ≡ is_served a (sum w) w x) (get_or-map (claim_of a (sum w)) es i d c l)
    (served_at goes_before claims_ordered (claims_of a (sum w) w) c (missing_of a (sum w) w) r i c (omega (arith, l, length-map es (claim_of a (sum w)))))))

-- the same from what the steps of a split gave
pub split_by_steps : (v z : ℤ) (w : List ℕ) (a t m : ℕ) (cs : List Claim) (c : Claim) → z ≡ v → a ≡ unsigned_abs v → t ≡ sum w → m ≡ missing_of a t w → cs ≡ claims_of a t w → rank_among cs c ≡ m → map (part_before z t c) (enumerate_from 0 w) ≡ fair_split v w
split_by_steps v z w a t m cs c ez ea et em ecs r = rw (ez, et) (split_by_claim v w c (rw (← ea, ← et, ← ecs, ← em) r))

-- what a split takes are weights
pub weights_from : (w : List ℕ) → 1 ≤ length w → AreShares w → AreWeights w
weights_from w l h = record { some = omega arith; positive = λ k d m. (h k d m).0 }
