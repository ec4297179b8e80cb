-- Rows of a map after a put, a removal and a filter: which of them are there, and which keys are found.
use Rattle.std.proofs.Common.{◌≡◌, ℕ, Bool, true, false, not, ◌==◌, List, [], ◌∷◌, map, filter, Some, None, Ordering, Less, Equal, Greater, ◌⊎◌, inl, inr, refl, sym, subst, ◌∙◌}
use Rattle.std.specs.Prelude.{IsSome}
use Rattle.adr_view.proofs.Common.{All, Contains, nat_cmp, is_eq, match_ordering, keys_of, remove_entry, is_at, insert_entry, unsigned_tied, false≢true, not-true, cond_both, cond-false, nat_cmp_total, nat_eq_equiv, eq_by_cmp_equiv, map-id, All-cons, All-head, All-tail, All-weaker, All-contains, All-contains_itself, All-filter, filter_passes, IsDistinct-from_sorted, CmpEqualImpliesEq, exact_unsigned, All-map-remove_entry, Contains-from_lookup, tells_apart, at, with_rows}
use Rattle.std.proofs.lemmas.Map.{lookup-remove_entry}
use Rattle.adr_state.proofs.LawLemmas.{at-insert_entry}
use Rattle.adr_view.proofs.OrderLemmas.{InOrder}

-- ---- which rows are there

-- what holds of each that is there
pub each_there : {A : Type 0} (P : A → Type 0) (xs : List A) → ((x : A) → Contains xs x → P x) → All P xs
each_there P xs h = All-weaker (Contains xs) P h xs (All-contains_itself xs)

module _ {K V : Type 0} where
  all_put : {cmp : K → K → Ordering} → CmpEqualImpliesEq cmp → (k : K) (v : V) (P : K × V → Type 0) → P (k, v) → (es : List (K × V)) → All P es → All P (insert_entry cmp es k v)
  all_put exact k v P new [] old = All-cons P (k, v) [] new old
  all_put {cmp} exact k v P new (e ∷ es) old = elim (cmp k e.0) as (λ o. cmp k e.0 ≡ o → All P (match_ordering o ((k, v) ∷ e ∷ es) ((e.0, v) ∷ es) (e ∷ insert_entry cmp es k v))) [
    | Less ↦ λ is. All-cons P (k, v) (e ∷ es) new old
    | Equal ↦ λ is. All-cons P (e.0, v) es (subst (λ (x : K). P (x, v)) (exact k e.0 is) new) (All-tail P e es old)
    | Greater ↦ λ is. All-cons P e (insert_entry cmp es k v) (All-head P e es old) (all_put exact k v P new es (All-tail P e es old))
  ] refl

  pub all_rows : {cmp : K → K → Ordering} → CmpEqualImpliesEq cmp → (P : K × V → Type 0) (es rows : List (K × V)) → All P es → All P rows → All P (with_rows cmp es rows)
  all_rows exact P es [] old new = old
  all_rows exact P es (r ∷ rows) old new = all_rows exact P (insert_entry _ es r.0 r.1) rows (all_put exact r.0 r.1 P (All-head P r rows new) es old) (All-tail P r rows new)

  -- after a put: a row that was there, or the one that was put
  pub from_put : {cmp : K → K → Ordering} → CmpEqualImpliesEq cmp → (k : K) (v : V) (es : List (K × V)) (e : K × V) → Contains (insert_entry cmp es k v) e → Contains es e ⊎ (e ≡ (k, v))
  from_put {cmp} exact k v es e =
      let P : K × V → Type 0 = λ x. Contains es x ⊎ (x ≡ (k, v)) in
      All-contains P (insert_entry cmp es k v) e (all_put exact k v P (inr refl) es (each_there P es (λ x there. inl there)))

  -- after a removal and after a filter: one that was there
  pub from_removal : (goes : K → Bool) (es : List (K × V)) (e : K × V) → Contains (remove_entry goes es) e → Contains es e
  from_removal goes es e =
      let left : All (Contains es) (map (λ x. x) (remove_entry goes es)) = All-map-remove_entry goes (λ x. x) (Contains es) es (subst (All (Contains es)) (sym (map-id es)) (All-contains_itself es)) in
      All-contains (Contains es) (remove_entry goes es) e (subst (All (Contains es)) (map-id (remove_entry goes es)) left)

  pub from_filter : (passes : K × V → Bool) (es : List (K × V)) (e : K × V) → Contains (filter passes es) e → Contains es e × (passes e ≡ true)
  from_filter passes es e there = (All-contains (Contains es) _ e (All-filter passes (Contains es) es (All-contains_itself es)) there, All-contains (λ x. passes x ≡ true) _ e (filter_passes passes es) there)

-- ---- numbers that are found

module _ {V : Type 0} (m : ℕ) (es : List (ℕ × V)) where
  -- the row of a number that is found
  pub row_found : IsSome (at nat_cmp m es) → (v : V) × Contains es (m, v)
  row_found found = elim (at nat_cmp m es) as (λ o. at nat_cmp m es ≡ o → IsSome o → (v : V) × Contains es (m, v)) [
    | None ↦ λ is none. absurd (false≢true none)
    | Some v ↦ λ is some. (v, Contains-from_lookup (tells_apart exact_unsigned) m v es is)
  ] refl found

  -- a put leaves each that was found
  pub found_after_put : (n : ℕ) (v : V) → IsSome (at nat_cmp m es) → IsSome (at nat_cmp m (insert_entry nat_cmp es n v))
  found_after_put n v found = subst IsSome (sym (at-insert_entry nat_cmp_total m n v es)) (cond_both (is_eq (nat_cmp m n)) (Some v) (at nat_cmp m es) IsSome (λ same. refl) (λ other. found))

  -- and the removal of a number leaves each other
  pub found_after_removal : (n : ℕ) → InOrder nat_cmp es → not (m == n) ≡ true → IsSome (at nat_cmp m es) → IsSome (at nat_cmp m (remove_entry (is_at (nat_cmp n)) es))
  found_after_removal n sorted differ found =
      let laws = eq_by_cmp_equiv nat_cmp_total in
      let other : is_eq (nat_cmp n m) ≡ false = unsigned_tied n m ∙ nat_eq_equiv.symm n m ∙ not-true (m == n) differ in
      subst IsSome (sym (lookup-remove_entry laws (is_at (nat_cmp n)) (λ x y. laws.congr n x y) m es (IsDistinct-from_sorted nat_cmp (keys_of es) sorted) ∙ cond-false (is_eq (nat_cmp n m)) None (at nat_cmp m es) other)) found
