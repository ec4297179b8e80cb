-- How many rows there are after a put and after a removal.
use Rattle.std.proofs.Common.{◌≡◌, ◌+◌, ◌≤◌, ℕ, List, [], ◌∷◌, length, Option, Ordering, refl, ◌∙◌, arith}
use Rattle.std.specs.Prelude.{option_map, unwrap_or}
use Rattle.std.specs.BTreeMap.{insert_entry, is_at}
use Rattle.std.specs.Cmp.{IsTotalOrder}
use Rattle.std.specs.List.{sum_by}
use Rattle.std.specs.Map.{remove_entry, values_of}
use Rattle.std.proofs.lemmas.List.Sums.{sum_by-cons}
use Rattle.std.proofs.lemmas.Map.Entries.{length-values_of, sum_by-insert_entry, sum_by-remove_entry}
use Rattle.adr_state.specs.Keys.{at, with_rows}
use Rattle.adr_view.proofs.OrderLemmas.{InOrder, in_order_put}

sizes : {A : Type 0} (xs : List A) → sum_by (λ x. 1) xs ≡ length xs
sizes [] = refl
sizes (x ∷ xs) = let first = sum_by-cons (λ x. 1) x xs in let rest = sizes xs in omega (arith, first, rest)

rows_size : {K V : Type 0} (rows : List (K × V)) → sum_by (λ x. 1) (values_of rows) ≡ length rows
rows_size rows = sizes (values_of rows) ∙ length-values_of rows

-- one that is found, or none
abbrev pub found_size : {V : Type 0} → Option V → ℕ
found_size found = unwrap_or (option_map (λ x. 1) found) 0

pub put_size : {K V : Type 0} {cmp : K → K → Ordering} → IsTotalOrder cmp → (k : K) (v : V) (rows : List (K × V)) → InOrder cmp rows → length (insert_entry cmp rows k v) + found_size (at cmp k rows) ≡ length rows + 1
put_size {cmp = cmp} order k v rows ordered =
    let sum = sum_by-insert_entry (λ x. 1) order rows k v ordered in
    let before = rows_size rows in
    let after = rows_size (insert_entry cmp rows k v) in
    omega (arith, sum, before, after)

-- more rows are at most so many more
pub more_rows : {K V : Type 0} {cmp : K → K → Ordering} → IsTotalOrder cmp → (rows m : List (K × V)) → InOrder cmp m → length (with_rows cmp m rows) ≤ length m + length rows
more_rows order [] m ordered = omega arith
more_rows {cmp = cmp} order (r ∷ rows) m ordered =
    let one = put_size order r.0 r.1 m ordered in
    let rest = more_rows order rows (insert_entry cmp m r.0 r.1) (in_order_put order r.0 r.1 m ordered) in
    omega (arith, one, rest)

pub removed_size : {K V : Type 0} (cmp : K → K → Ordering) (k : K) (rows : List (K × V)) → length (remove_entry (is_at (cmp k)) rows) + found_size (at cmp k rows) ≡ length rows
removed_size cmp k rows =
    let sum = sum_by-remove_entry (λ x. 1) (is_at (cmp k)) rows in
    let before = rows_size rows in
    let after = rows_size (remove_entry (is_at (cmp k)) rows) in
    omega (arith, sum, before, after)
