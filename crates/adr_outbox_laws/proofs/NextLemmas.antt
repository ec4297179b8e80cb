-- Which entry leaves next: the first of those that may go, as it is looked for from entry to entry.
use Rattle.std.proofs.Common.{◌≡◌, ◌≤◌, ◌<◌, ◌||◌, ℕ, Bool, true, false, not, cond, List, [], ◌∷◌, Option, Some, None, ◌⊎◌, inl, inr, Ordering, Less, Equal, Greater, refl, sym, ap, subst, ◌∙◌, arith}
use Rattle.std.specs.Prelude.{IfSome, nat_le, nat_lt}
use Rattle.std.specs.BTreeMap.{is_at}
use Rattle.std.specs.BTreeSet.{insert_key}
use Rattle.std.specs.List.{All, Contains, list_any}
use Rattle.std.specs.Map.{keys_of}
use Rattle.std.specs.Option.{option_map_or}
use Rattle.std.specs.Ordering.{is_eq, match_ordering, nat_cmp}
use Rattle.std.proofs.lemmas.Bool.{and_parts, false≢true, le-leb, leb-true, ltb-false, ltb-true, not-true, or_parts}
use Rattle.std.proofs.lemmas.Cmp.{eq_by_cmp_equiv, nat_cmp_total, ranked, tied_itself}
use Rattle.std.proofs.lemmas.List.Elements.{All-cons, All-contains, All-from_recursion, Contains-append_right}
use Rattle.std.proofs.lemmas.Map.Keys.{IsDistinct-from_sorted, sorted_head, sorted_tail}
use Rattle.std.proofs.lemmas.Map.Lookups.{exact_unsigned}
use Rattle.std.proofs.lemmas.Map.Views.{lookup-from_Contains}
use Rattle.std.proofs.lemmas.Option.{same_Some}
use Rattle.adr_delivery.specs.declared.delivery.Delivery.{Delivery}
use Rattle.adr_delivery.specs.declared.entry.Entry.{Entry}
use Rattle.adr_delivery.specs.Deliveries.{is_leased, may_leave}
use Rattle.adr_delivery.specs.Next.{may_be_next, next_after, next_entry}
use Rattle.adr_delivery.specs.Outboxes.{entry_at}
use Rattle.adr_view.proofs.OrderLemmas.{Behind, InOrder, each_row}
use Rattle.adr_view.proofs.RowLemmas.{each_there}
use Rattle.adr_laws.specs.Entries.{IsFirst}
use Rattle.adr_laws.proofs.OutboxLemmas.{wait_after}
use Rattle.adr_laws.proofs.WaitLemmas.{First, goes_to}
use Rattle.adr_outbox_laws.specs.Next.{IsTheNext, MayGo, NextIsComputed, NextIsFirst, NextIsFirstAfterRuns, NoneMayGo}

-- ---- rows whose numbers rise

-- the first of them is the least
pub first_least : {V : Type 0} (r : ℕ × V) (rows : List (ℕ × V)) → InOrder nat_cmp (r ∷ rows) → (x : ℕ × V) → Contains rows x → r.0 < x.0
first_least r rows ordered x there =
    let behind : All (λ x. Behind nat_cmp r.0 x.0) rows = each_row (Behind nat_cmp r.0) rows (All-from_recursion (Behind nat_cmp r.0) (keys_of rows) (sorted_head nat_cmp r.0 (keys_of rows) ordered)) in
    let less : nat_cmp r.0 x.0 ≡ Less = All-contains (λ x. Behind nat_cmp r.0 x.0) rows x behind there in
    ranked r.0 x.0 Less (sym less)

-- what is there is the first or one of the others
first_or_rest : {A : Type 0} (x : A) (xs : List A) (y : A) → Contains (x ∷ xs) y → (y ≡ x) ⊎ Contains xs y
first_or_rest {A} x xs y =
    let P : A → Type 0 = λ z. (z ≡ x) ⊎ Contains xs z in
    All-contains P (x ∷ xs) y (All-cons P x xs (inl refl) (each_there P xs (λ z there. inr there)))

-- what is there is found by its number, and of one number there is one
module _ (entries : List (ℕ × Entry)) (ordered : InOrder nat_cmp entries) where
  pub found_there : (e : ℕ × Entry) → Contains entries e → entry_at e.0 entries ≡ Some e.1
  found_there e there = lookup-from_Contains (eq_by_cmp_equiv nat_cmp_total) e.0 e.1 entries (IsDistinct-from_sorted nat_cmp (keys_of entries) ordered) there

  one_of_number : (a b : ℕ × Entry) → Contains entries a → Contains entries b → a.0 ≡ b.0 → a ≡ b
  one_of_number a b one other same =
      let its : a.1 ≡ b.1 = same_Some a.1 b.1 (sym (found_there a one) ∙ ap (λ n. entry_at n entries) same ∙ found_there b other) in
      λ i. (same i, its i)

-- ---- what may go

-- a lease of a delivery has ended, if there is one
abbrev HasEnded : ℕ → Delivery → Type 0
HasEnded now d = IfSome d.lease (λ until. until ≤ now)

ended : (now : ℕ) (lease : Option ℕ) → option_map_or (λ until. nat_lt now until) lease false ≡ false → IfSome lease (λ until. until ≤ now)
ended now None is = tt
ended now (Some until) is = ltb-false now until is

lasts : (now : ℕ) (lease : Option ℕ) → IfSome lease (λ until. until ≤ now) → option_map_or (λ until. nat_lt now until) lease false ≡ false
lasts now None is = refl
lasts now (Some until) is = by (nat_lt now until) refl
  where
    by : (b : Bool) → nat_lt now until ≡ b → b ≡ false
    by false less = refl
    by true less = absurd (let over = ltb-true now until less in omega (arith, over, is))

-- it is due, and has no lease that lasts
due_then : (now : ℕ) (d : Delivery) → may_leave now d ≡ true → (d.due ≤ now) × HasEnded now d
due_then now d may =
    let parts = and_parts (nat_le d.due now) (not (is_leased now d)) may in
    (leb-true d.due now parts.0, ended now d.lease (not-true (is_leased now d) parts.1))

may_then : (now : ℕ) (d : Delivery) → d.due ≤ now → HasEnded now d → may_leave now d ≡ true
may_then now d due over = rw (le-leb d.due now due, lasts now d.lease over) refl

-- ---- destinations that were seen

-- a key that is put among others passes the test of some where it or one of them does
any_inserted : (test : ℕ → Bool) (k : ℕ) (seen : List ℕ) → list_any test (insert_key nat_cmp seen k) ≡ (test k || list_any test seen)
any_inserted test k [] = refl
any_inserted test k (x ∷ seen) = by (nat_cmp k x) refl (any_inserted test k seen)
  where
    twice : (a b : Bool) → (a || b) ≡ (a || (a || b))
    twice true b = refl
    twice false b = refl

    swapped : (a b c : Bool) → (a || (b || c)) ≡ (b || (a || c))
    swapped true true c = refl
    swapped true false c = refl
    swapped false b c = refl

    by : (o : Ordering) → nat_cmp k x ≡ o → list_any test (insert_key nat_cmp seen k) ≡ (test k || list_any test seen)
        → list_any test (match_ordering o (k ∷ x ∷ seen) (x ∷ seen) (x ∷ insert_key nat_cmp seen k)) ≡ (test k || (test x || list_any test seen))
    by Less is rest = refl
    by Equal is rest = twice (test x) (list_any test seen) ∙ ap (λ (n : ℕ). test n || (test x || list_any test seen)) (sym (exact_unsigned k x is))
    by Greater is rest = ap (λ b. test x || b) rest ∙ swapped (test x) (test k) (list_any test seen)

abbrev IsSeen : List ℕ → ℕ × Entry → Bool
IsSeen seen e = list_any (is_at (nat_cmp (goes_to e))) seen

-- ---- looked for from entry to entry

-- it may leave, goes to no destination that was seen, and is the first of its own
record Passes (seen : List ℕ) (now : ℕ) (entries : List (ℕ × Entry)) (e : ℕ × Entry) : Type 0 where
  is_there : Contains entries e
  may : may_leave now e.1.delivery ≡ true
  unseen : IsSeen seen e ≡ false
  is_first : First entries e

-- what was found passes and has the least number of all that pass; or none does
abbrev IsFound : List ℕ → ℕ → List (ℕ × Entry) → Option (ℕ × Entry) → Type 0
IsFound seen now entries None = (e : ℕ × Entry) → Passes seen now entries e → ⊥
IsFound seen now entries (Some e) = Passes seen now entries e × ((other : ℕ × Entry) → Passes seen now entries other → e.0 ≤ other.0)

-- an entry, and those behind it
module _ (seen : List ℕ) (now : ℕ) (r : ℕ × Entry) (rows : List (ℕ × Entry)) (ordered : InOrder nat_cmp (r ∷ rows)) where
  abbrev then_seen : List ℕ
  then_seen = insert_key nat_cmp seen (goes_to r)

  -- the first of them all is the first of its destination
  heads : First (r ∷ rows) r
  heads x there same = elim (first_or_rest r rows x there) [
    | inl it ↦ (let number = ap (λ (e : ℕ × Entry). e.0) it in omega (arith, number))
    | inr among ↦ (let less = first_least r rows ordered x among in omega (arith, less))
  ]

  -- what passes behind it goes elsewhere, and passes with it
  passes_with : (e : ℕ × Entry) → Passes then_seen now rows e → Passes seen now (r ∷ rows) e
  passes_with e p =
      let neither = or_parts (is_at (nat_cmp (goes_to e)) (goes_to r)) (IsSeen seen e) (sym (any_inserted (is_at (nat_cmp (goes_to e))) (goes_to r) seen) ∙ p.unseen) in
      let other : goes_to r ≡ goes_to e → ⊥ = λ same. false≢true (sym neither.0 ∙ ap (λ d. is_at (nat_cmp (goes_to e)) d) same ∙ ap is_eq (tied_itself nat_cmp_total (goes_to e))) in
      record {
        is_there = Contains-append_right (r ∷ []) rows e p.is_there;
        may = p.may;
        unseen = neither.1;
        is_first = λ x there same. elim (first_or_rest r rows x there) [ inl it ↦ absurd (other (ap goes_to (sym it) ∙ same)) | inr among ↦ p.is_first x among same ];
      }

  -- and what passes with it, where it doesn't pass itself, is behind it
  passes_behind : may_be_next seen now r.1 ≡ false → (e : ℕ × Entry) → Passes seen now (r ∷ rows) e → Passes then_seen now rows e
  passes_behind fails e p = elim (first_or_rest r rows e p.is_there) [
    | inl it ↦ absurd (false≢true (sym fails ∙ subst (λ (e : ℕ × Entry). may_be_next seen now e.1 ≡ true) it (rw (p.may, p.unseen) refl)))
    | inr among ↦
        (let elsewhere : goes_to r ≡ goes_to e → ⊥ = λ same. (let least : e.0 ≤ r.0 = p.is_first r (0, omega arith, refl) same in let less = first_least r rows ordered e among in omega (arith, least, less)) in record {
          is_there = among;
          may = p.may;
          unseen = any_inserted (is_at (nat_cmp (goes_to e))) (goes_to r) seen ∙ rw (unlike (goes_to e) (goes_to r) (λ same. elsewhere (sym same)), p.unseen) refl;
          is_first = λ x there same. p.is_first x (Contains-append_right (r ∷ []) rows x there) same;
        })
  ]
    where
      unlike : (m n : ℕ) → (m ≡ n → ⊥) → is_eq (nat_cmp m n) ≡ false
      unlike m n differ = by (nat_cmp m n) refl
        where
          by : (o : Ordering) → nat_cmp m n ≡ o → is_eq o ≡ false
          by Less is = refl
          by Equal is = absurd (differ (exact_unsigned m n is))
          by Greater is = refl

  found_behind : may_be_next seen now r.1 ≡ false → (o : Option (ℕ × Entry)) → IsFound then_seen now rows o → IsFound seen now (r ∷ rows) o
  found_behind fails None none = λ e p. none e (passes_behind fails e p)
  found_behind fails (Some e) found = (passes_with e found.0, λ other p. found.1 other (passes_behind fails other p))

  found_first : may_be_next seen now r.1 ≡ true → IsFound seen now (r ∷ rows) (Some r)
  found_first may =
      let parts = and_parts (may_leave now r.1.delivery) (not (IsSeen seen r)) may in (
        record { is_there = (0, omega arith, refl); may = parts.0; unseen = not-true (IsSeen seen r) parts.1; is_first = heads },
        λ other p. elim (first_or_rest r rows other p.is_there) [
          | inl it ↦ (let number = ap (λ (e : ℕ × Entry). e.0) it in omega (arith, number))
          | inr among ↦ (let less = first_least r rows ordered other among in omega (arith, less))
        ],
      )

found_next : (seen : List ℕ) (now : ℕ) (entries : List (ℕ × Entry)) → InOrder nat_cmp entries → IsFound seen now entries (next_after seen now entries)
found_next seen now [] ordered = λ e p. absurd (omega (arith, p.is_there.1))
found_next seen now (r ∷ rows) ordered = by (may_be_next seen now r.1) refl (found_next (insert_key nat_cmp seen (goes_to r)) now rows (sorted_tail nat_cmp r.0 (keys_of rows) ordered))
  where
    by : (b : Bool) → may_be_next seen now r.1 ≡ b → IsFound (insert_key nat_cmp seen (goes_to r)) now rows (next_after (insert_key nat_cmp seen (goes_to r)) now rows)
        → IsFound seen now (r ∷ rows) (cond b (Some r) (next_after (insert_key nat_cmp seen (goes_to r)) now rows))
    by true may rest = found_first seen now r rows ordered may
    by false fails rest = found_behind seen now r rows ordered fails _ rest

-- ---- as the law says it

-- what is found is the next, and where nothing is found none may go
abbrev pub IsAsFound : ℕ → List (ℕ × Entry) → Option (ℕ × Entry) → Type 0
IsAsFound now entries None = NoneMayGo now entries
IsAsFound now entries (Some e) = IsTheNext now entries e

module _ (now : ℕ) (entries : List (ℕ × Entry)) (ordered : InOrder nat_cmp entries) where
  first_of : (e : ℕ × Entry) → IsFirst entries e → First entries e
  first_of e is other there same = All-contains (λ other. goes_to other ≡ goes_to e → e.0 ≤ other.0) entries other is there same

  as_law : (e : ℕ × Entry) → Passes [] now entries e → MayGo now entries e
  as_law e p =
      let due = due_then now e.1.delivery p.may in
      record { waits = p.is_there; is_due = due.0; no_lease_lasts = due.1; is_first = each_there (λ other. goes_to other ≡ goes_to e → e.0 ≤ other.0) entries (λ other there same. p.is_first other there same) }

  from_law : (e : ℕ × Entry) → MayGo now entries e → Passes [] now entries e
  from_law e may = record { is_there = may.waits; may = may_then now e.1.delivery may.is_due may.no_lease_lasts; unseen = refl; is_first = first_of e may.is_first }

  as_found : (o : Option (ℕ × Entry)) → IsFound [] now entries o → IsAsFound now entries o
  as_found None none = λ e may. none e (from_law e may)
  as_found (Some e) found = record { may_go = as_law e found.0; is_least = λ other may. found.1 other (from_law other may) }

  pub next_as_found : IsAsFound now entries (next_entry now entries)
  next_as_found = as_found (next_entry now entries) (found_next [] now entries ordered)

  -- there is no other
  computes : (o : Option (ℕ × Entry)) → IsAsFound now entries o → (e : ℕ × Entry) → IsTheNext now entries e → o ≡ Some e
  computes None none e next = absurd (none e next.may_go)
  computes (Some x) found e next =
      let one : e.0 ≤ x.0 = next.is_least x found.may_go in
      let other : x.0 ≤ e.0 = found.is_least e next.may_go in
      ap (λ (e : ℕ × Entry). Some e) (one_of_number entries ordered x e found.may_go.waits next.may_go.waits (omega (arith, one, other)))

  computes_none : (o : Option (ℕ × Entry)) → IsAsFound now entries o → NoneMayGo now entries → o ≡ None
  computes_none None none is = refl
  computes_none (Some x) found is = absurd (is x found.may_go)

  pub next_computed : NextIsComputed now entries
  next_computed = record {
    one = λ e. (λ is. subst (IsAsFound now entries) is next_as_found, λ next. computes (next_entry now entries) next_as_found e next);
    none = (λ is. subst (IsAsFound now entries) is next_as_found, λ none. computes_none (next_entry now entries) next_as_found none);
  }

pub next_is_first : NextIsFirst
next_is_first = next_computed

pub next_is_first_after_runs : NextIsFirstAfterRuns
next_is_first_after_runs settings cs now = next_computed now _ (wait_after settings cs).in_order
