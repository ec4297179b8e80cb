-- How long a map is after a put and after a removal.
use Rattle.std.proofs.Common.{◌≡◌, ℕ, suc, ◌+◌, ◌<◌, ◌≤◌, List, [], ◌∷◌, length, Bool, true, false, cond, Result, Ok, Err, OnOk, OnErr, Ordering, Less, Equal, Greater, arith}
use Rattle.std.specs.Ordering.{match_ordering}
use Rattle.std.specs.Map.{remove_entry}
use Rattle.std.specs.BTreeMap.{insert_entry}

-- a put leaves at most one row more
length-insert_entry : {K X : Type 0} (cmp : K → K → Ordering) (es : List (K × X)) (k : K) (v : X) → length (insert_entry cmp es k v) ≤ length es + 1
length-insert_entry cmp [] k v = omega arith
length-insert_entry cmp (e ∷ es) k v = elim (cmp k e.0) as (λ o. length (match_ordering o ((k, v) ∷ e ∷ es) ((e.0, v) ∷ es) (e ∷ insert_entry cmp es k v)) ≤ suc (length es) + 1) [
  | Less ↦ omega arith
  | Equal ↦ omega arith
  | Greater ↦ omega (arith, length-insert_entry cmp es k v)
]

-- a put into a map that has room leaves it within its bound
pub put_within : {K X E : Type 0} (cmp : K → K → Ordering) (r : Result (Unit {0}) E) (old new : List (K × X)) (k : K) (v : X) (most : ℕ) → length old < most
    → OnOk r (new ≡ insert_entry cmp old k v) → OnErr r (new ≡ old) → length new ≤ most
put_within cmp (Ok u) old new k v most room ok err = rw ok (omega (arith, length-insert_entry cmp old k v))
put_within cmp (Err e) old new k v most room ok err = rw err (omega arith)

-- a removal leaves no more rows
pub length-remove_entry : {K X : Type 0} (test : K → Bool) (es : List (K × X)) → length (remove_entry test es) ≤ length es
length-remove_entry test [] = omega arith
length-remove_entry test (e ∷ es) = elim (test e.0) as (λ b. length (cond b es (e ∷ remove_entry test es)) ≤ suc (length es)) [
  | true ↦ omega arith
  | false ↦ omega (arith, length-remove_entry test es)
]
