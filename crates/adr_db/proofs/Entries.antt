-- What holds of the value of each entry of a map; and entries by numbers.
use Rattle.std.proofs.Common.{◌≡◌, inl, inr, ℕ, suc, Bool, true, false, cond, List, [], ◌∷◌, length, map, None, Some, refl, sym, ap, ap₂, ◌∙◌, Ordering, Less, Equal, Greater, is_eq}
use Rattle.std.specs.Cmp.{IsTotalOrder}
use Rattle.std.specs.Prelude.{IfSome, is_some}
use Rattle.std.specs.Map.{remove_entry}
use Rattle.adr_db.proofs.Common.{AllByRecursion, match_ordering, insert_entry, is_at, at, nat_cmp, nat_cmp_total, ordering_reverse, tied_itself, IsAscending, Has, Row}
use Rattle.sqlite_rules.proofs.ListLemmas.{all_has}

-- entries whose rows read back, where their values are so
pub entries_again : {K V : Type 0} (P : V → Type 0) (row_of : K × V → Row) (back : Row → K × V) → ((e : K × V) → P e.1 → back (row_of e) ≡ e) → (es : List (K × V)) → AllByRecursion (λ e. P e.1) es → map back (map row_of es) ≡ es
entries_again P row_of back again [] are = refl
entries_again P row_of back again (e ∷ es) are = ap₂ ◌∷◌ (again e are.0) (entries_again P row_of back again es are.1)

module _ {K V : Type 0} (cmp : K → K → Ordering) (P : V → Type 0) where
  -- so of one that is put among them
  pub entries_put : (es : List (K × V)) (k : K) (v : V) → AllByRecursion (λ e. P e.1) es → P v → AllByRecursion (λ e. P e.1) (insert_entry cmp es k v)
  entries_put [] k v are is = (is, tt)
  entries_put (e ∷ es) k v are is = by (cmp k e.0) (entries_put es k v are.1 is)
    where
      by : (o : Ordering) → AllByRecursion (λ e. P e.1) (insert_entry cmp es k v) → AllByRecursion (λ e. P e.1) (match_ordering o ((k, v) ∷ e ∷ es) ((e.0, v) ∷ es) (e ∷ insert_entry cmp es k v))
      by Less more = (is, are)
      by Equal more = (is, are.1)
      by Greater more = (are.0, more)

  -- and of those that are left
  pub entries_left : (es : List (K × V)) (k : K) → AllByRecursion (λ e. P e.1) es → AllByRecursion (λ e. P e.1) (remove_entry (is_at (cmp k)) es)
  entries_left [] k are = tt
  entries_left (e ∷ es) k are = by (is_eq (cmp k e.0)) (entries_left es k are.1)
    where
      by : (b : Bool) → AllByRecursion (λ e. P e.1) (remove_entry (is_at (cmp k)) es) → AllByRecursion (λ e. P e.1) (cond b es (e ∷ remove_entry (is_at (cmp k)) es))
      by true more = are.1
      by false more = (are.0, more)

  -- and of the one at a key
  pub entry_is : (es : List (K × V)) → AllByRecursion (λ e. P e.1) es → (k : K) → IfSome (at cmp k es) P
  entry_is [] are k = tt
  entry_is (e ∷ es) are k = by (is_eq (cmp k e.0)) (entry_is es are.1 k)
    where
      by : (b : Bool) → IfSome (at cmp k es) P → IfSome (cond b (Some e.1) (at cmp k es)) P
      by true more = are.0
      by false more = more

-- ---- by numbers that rise

abbrev pub NumbersRise : {V : Type 0} → List (ℕ × V) → Type 0
NumbersRise = IsAscending (λ a b. nat_cmp a.0 b.0 ≡ Less)

module _ {V : Type 0} where
  -- each comes once
  pub found_of : (es : List (ℕ × V)) → NumbersRise es → (e : ℕ × V) → Has es e → at nat_cmp e.0 es ≡ Some e.1
  found_of [] up e has = absurd has
  found_of (x ∷ es) up e (inl same) =
      ap (λ (y : ℕ × V). cond (is_eq (nat_cmp y.0 x.0)) (Some x.1) (at nat_cmp y.0 es)) same ∙ ap (λ o. cond (is_eq o) (Some x.1) (at nat_cmp x.0 es)) (tied_itself nat_cmp_total x.0) ∙ ap (λ (y : ℕ × V). Some y.1) (sym same)
  found_of (x ∷ es) up e (inr has) =
      let below = all_has (λ (y : ℕ × V). nat_cmp x.0 y.0 ≡ Less) es e up.0 has in
      ap (λ o. cond (is_eq o) (Some x.1) (at nat_cmp e.0 es)) (nat_cmp_total.antisymm e.0 x.0 ∙ ap ordering_reverse below) ∙ found_of es up.1 e has

-- ---- how many there are

one_more : (there : Bool) (n : ℕ) → suc (cond there n (suc n)) ≡ cond there (suc n) (suc (suc n))
one_more true n = refl
one_more false n = refl

module _ {K V : Type 0} {R : K → K → Ordering} (order : IsTotalOrder R) where
  -- a key below every key is none of them
  absent : (k : K) (e : K × V) (es : List (K × V)) → R k e.0 ≡ Less → AllByRecursion (λ x. R e.0 x.0 ≡ Less) es → at R k es ≡ None
  absent k e [] less up = refl
  absent k e (x ∷ xs) less up = rw (order.trans k e.0 x.0 less up.0) (absent k e xs less up.1)

  -- one that is put where one stands takes its place, and else there is one more
  pub length_put : (k : K) (v : V) (es : List (K × V)) → IsAscending (λ a b. R a.0 b.0 ≡ Less) es → length (insert_entry R es k v) ≡ cond (is_some (at R k es)) (length es) (suc (length es))
  length_put k v [] up = refl
  length_put k v (e ∷ es) up = by (R k e.0) refl (length_put k v es up.1) (λ less. absent k e es less up.0)
    where
      by : (o : Ordering) → R k e.0 ≡ o → length (insert_entry R es k v) ≡ cond (is_some (at R k es)) (length es) (suc (length es)) → (R k e.0 ≡ Less → at R k es ≡ None)
          → length (match_ordering o ((k, v) ∷ e ∷ es) ((e.0, v) ∷ es) (e ∷ insert_entry R es k v)) ≡ cond (is_some (cond (is_eq o) (Some e.1) (at R k es))) (suc (length es)) (suc (suc (length es)))
      by Less is more none = rw (none is) refl
      by Equal is more none = refl
      by Greater is more none = ap suc more ∙ one_more (is_some (at R k es)) (length es)

module _ {K V : Type 0} (R : K → K → Ordering) where
  -- one that is there and goes leaves one less
  pub length_left : (k : K) (es : List (K × V)) → is_some (at R k es) ≡ true → suc (length (remove_entry (is_at (R k)) es)) ≡ length es
  length_left k [] there = absurd cc
  length_left k (e ∷ es) there = by (is_eq (R k e.0)) (length_left k es) there
    where
      by : (b : Bool) → (is_some (at R k es) ≡ true → suc (length (remove_entry (is_at (R k)) es)) ≡ length es) → is_some (cond b (Some e.1) (at R k es)) ≡ true
          → suc (length (cond b es (e ∷ remove_entry (is_at (R k)) es))) ≡ suc (length es)
      by true more there = refl
      by false more there = ap suc (more there)

  -- and where none is there none goes
  pub length_stays : (k : K) (es : List (K × V)) → is_some (at R k es) ≡ false → length (remove_entry (is_at (R k)) es) ≡ length es
  length_stays k [] none = refl
  length_stays k (e ∷ es) none = by (is_eq (R k e.0)) (length_stays k es) none
    where
      by : (b : Bool) → (is_some (at R k es) ≡ false → length (remove_entry (is_at (R k)) es) ≡ length es) → is_some (cond b (Some e.1) (at R k es)) ≡ false
          → length (cond b es (e ∷ remove_entry (is_at (R k)) es)) ≡ suc (length es)
      by true more none = absurd cc
      by false more none = ap suc (more none)
