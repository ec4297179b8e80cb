-- What a map has at a key behind rows that were put, or went, one after another.
use Rattle.std.proofs.Common.{◌≡◌, ℕ, Bool, true, false, cond, ⊎_elim, List, [], ◌∷◌, fold, Option, Some, None, Ordering, refl, sym, ap, ◌∙◌}
use Rattle.std.specs.Prelude.{IfSome}
use Rattle.std.specs.Ordering.{nat_cmp}
use Rattle.std.proofs.lemmas.Map.{lookup-remove_entry}
use Rattle.adr_view.specs.declared.changes.Operation.{Operation}
use Rattle.adr_view.specs.declared.changes.Operation.TheVariants.{Post, Put, Delete}
use Rattle.adr_view.proofs.OrderLemmas.{in_order_put, in_order_removed}
use Rattle.adr_refresh.proofs.Common.{InOrder, IsDistinct-from_sorted, IsTotalOrder, at, at-insert_entry, cases_Bool, eq_by_cmp_equiv, equal_from_is, exact_unsigned, is_at, is_eq, keys_of, list_any, remove_entry}
use Rattle.adr_kept_view.specs.declared.change.ShownChange.{ShownChange}
use Rattle.adr_kept_view.specs.Changes.{written, with_change}

-- what stands at a key then
abbrev pub left_by : {V : Type 0} → Operation → V → Option V
left_by Post v = Some v
left_by Put v = Some v
left_by Delete v = None

-- what is written at the key of a resource leaves this there
abbrev pub left_behind : {V : Type 0} → (ShownChange → V) → Option ShownChange → Option V → Option V
left_behind value_of None o = o
left_behind value_of (Some c) o = left_by c.operation (value_of c)

module _ {K V : Type 0} {cmp : K → K → Ordering} (order : IsTotalOrder cmp) where
  pub at-removed : (q k : K) (es : List (K × V)) → InOrder cmp es → at cmp q (remove_entry (is_at (cmp k)) es) ≡ cond (is_eq (cmp q k)) None (at cmp q es)
  at-removed q k es up =
      let laws = eq_by_cmp_equiv order in
      lookup-remove_entry laws (is_at (cmp k)) (λ x y. laws.congr k x y) q es (IsDistinct-from_sorted cmp (keys_of es) up) ∙ ap (λ b. cond b None (at cmp q es)) (laws.symm k q)

  at-written : (q k : K) (op : Operation) (v : V) (es : List (K × V)) → InOrder cmp es → at cmp q (written cmp op k v es) ≡ cond (is_eq (cmp q k)) (left_by op v) (at cmp q es)
  at-written q k Post v es up = at-insert_entry order q k v es
  at-written q k Put v es up = at-insert_entry order q k v es
  at-written q k Delete v es up = at-removed q k es up

  written_in_order : (k : K) (op : Operation) (v : V) (es : List (K × V)) → InOrder cmp es → InOrder cmp (written cmp op k v es)
  written_in_order k Post v es up = in_order_put order k v es up
  written_in_order k Put v es up = in_order_put order k v es up
  written_in_order k Delete v es up = in_order_removed cmp (is_at (cmp k)) es up

  -- ---- the changes of resources, each of which is of its own

  module _ (key_of : ℕ → K) (value_of : ShownChange → V) (change : ℕ → Option ShownChange) (own : (n : ℕ) → IfSome (change n) (λ c. c.resource ≡ n)) where
    abbrev one_changed : List (K × V) → ℕ → List (K × V)
    one_changed es n = with_change cmp key_of value_of (change n) es

    one_in_order : (es : List (K × V)) (o : Option ShownChange) → InOrder cmp es → InOrder cmp (with_change cmp key_of value_of o es)
    one_in_order es None up = up
    one_in_order es (Some c) up = written_in_order (key_of c.resource) c.operation (value_of c) es up

    pub each_in_order : (ns : List ℕ) (es : List (K × V)) → InOrder cmp es → InOrder cmp (fold one_changed es ns)
    each_in_order [] es up = up
    each_in_order (n ∷ ns) es up = each_in_order ns (one_changed es n) (one_in_order es (change n) up)

    at_one : (q : K) (n : ℕ) (es : List (K × V)) → InOrder cmp es → at cmp q (one_changed es n) ≡ cond (is_eq (cmp q (key_of n))) (left_behind value_of (change n) (at cmp q es)) (at cmp q es)
    at_one q n es up = by (change n) (own n)
      where
        both : (b : Bool) (o : Option V) → o ≡ cond b o o
        both true o = refl
        both false o = refl

        by : (o : Option ShownChange) → IfSome o (λ c. c.resource ≡ n) → at cmp q (with_change cmp key_of value_of o es) ≡ cond (is_eq (cmp q (key_of n))) (left_behind value_of o (at cmp q es)) (at cmp q es)
        by None is = both (is_eq (cmp q (key_of n))) (at cmp q es)
        by (Some c) is = at-written q (key_of c.resource) c.operation (value_of c) es up ∙ ap (λ m. cond (is_eq (cmp q (key_of m))) (left_by c.operation (value_of c)) (at cmp q es)) is

    -- at a key that is of no resource nothing changes
    pub at-others : (q : K) → ((n : ℕ) → is_eq (cmp q (key_of n)) ≡ false) → (ns : List ℕ) (es : List (K × V)) → InOrder cmp es → at cmp q (fold one_changed es ns) ≡ at cmp q es
    at-others q apart [] es up = refl
    at-others q apart (n ∷ ns) es up = at-others q apart ns (one_changed es n) (one_in_order es (change n) up) ∙ at_one q n es up ∙ rw (apart n) refl

    twice : (o : Option ShownChange) (v : Option V) → left_behind value_of o (left_behind value_of o v) ≡ left_behind value_of o v
    twice None v = refl
    twice (Some c) v = refl

    module _ (alike : (n m : ℕ) → is_eq (cmp (key_of n) (key_of m)) ≡ is_eq (nat_cmp n m)) where
      -- at that of one it does where the resource is among them
      pub at-each : (n : ℕ) (ns : List ℕ) (es : List (K × V)) → InOrder cmp es
          → at cmp (key_of n) (fold one_changed es ns) ≡ cond (list_any (is_at (nat_cmp n)) ns) (left_behind value_of (change n) (at cmp (key_of n) es)) (at cmp (key_of n) es)
      at-each n [] es up = refl
      at-each n (m ∷ ns) es up =
          at-each n ns (one_changed es m) (one_in_order es (change m) up)
          ∙ ap (λ o. cond (list_any (is_at (nat_cmp n)) ns) (left_behind value_of (change n) o) o) (at_one (key_of n) m es up)
          ∙ ⊎_elim
          (λ is. let same : n ≡ m = exact_unsigned n m (equal_from_is _ is) in rw (alike n m, is, sym same) (mine (list_any (is_at (nat_cmp n)) ns)))
          (λ apart. let other : is_eq (cmp (key_of n) (key_of m)) ≡ false = alike n m ∙ apart in rw (other, apart) refl)
          (cases_Bool (is_eq (nat_cmp n m)))
        where
          mine : (b : Bool) → cond b (left_behind value_of (change n) (left_behind value_of (change n) (at cmp (key_of n) es))) (left_behind value_of (change n) (at cmp (key_of n) es)) ≡ left_behind value_of (change n) (at cmp (key_of n) es)
          mine true = twice (change n) (at cmp (key_of n) es)
          mine false = refl
