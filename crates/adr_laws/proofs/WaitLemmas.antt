-- The entries that wait: they stand in the order of their numbers, which were drawn, and one that has a lease is the first of its destination.
use Rattle.std.proofs.Common.{◌≡◌, ◌≤◌, ◌<◌, ◌+◌, ◌||◌, ℕ, Bool, true, false, not, cond, List, [], ◌∷◌, length, Option, Some, None, ◌⊎◌, inl, inr, Ordering, Less, Equal, Greater, Ok, Err, IfOk, refl, sym, ap, ap₂, subst, ◌∙◌, arith}
use Rattle.std.specs.Prelude.{IsSome, IfSome, is_some, option_map, ◌==◌}
use Rattle.std.specs.BTreeSet.{insert_key}
use Rattle.std.specs.List.{enumerate_from}
use Rattle.std.specs.Option.{option_map_or}
use Rattle.std.specs.Ordering.{is_eq, match_ordering}
use Rattle.std.proofs.lemmas.Bool.{and_parts, not-true, or_parts}
use Rattle.std.proofs.lemmas.Cmp.{tied_itself}
use Rattle.std.proofs.lemmas.List.Elements.{All-cons, Contains-append_right}
use Rattle.std.proofs.lemmas.Option.{same_Some}
use Rattle.adr_laws.proofs.Common.{All, All-contains, All-from_recursion, All-head, All-tail, Contains, Contains-from_lookup, IsStrictlySortedBy, cond_both, exact_unsigned, false≢true, insert_entry, is_at, keys_of, list_any, nat_cmp, nat_cmp_total, ranked, tells_apart, Command}
use Rattle.adr_text.specs.declared.refusal.Refusal.TheVariants.{LeaseLost}
use Rattle.adr_delivery.specs.declared.delivery.Delivery.{Delivery}
use Rattle.adr_delivery.specs.declared.entry.Entry.{Entry}
use Rattle.adr_delivery.specs.declared.outbox.EntryCounts.{EntryCounts}
use Rattle.adr_delivery.specs.declared.outbox.Outbox.{Outbox}
use Rattle.adr_delivery.specs.Deliveries.{later, leased, has_lease, may_leave}
use Rattle.adr_delivery.specs.Entries.{destination}
use Rattle.adr_delivery.specs.Failing.{one_more, wait_after}
use Rattle.adr_delivery.specs.Next.{may_be_next, next_after, next_entry}
use Rattle.adr_delivery.specs.Outboxes.{entry_at, with_delivery, with_entry, lease_next, entry_leased, without_entry, without_remote, sent, failed, with_entries}
use Rattle.adr_delivery.specs.Tallies.{plus}
use Rattle.adr_state.specs.declared.limits.Limits.{Limits}
use Rattle.adr_machine.specs.Deliveries.{delivered}
use Rattle.adr_machine.specs.Edits.{is_delivery}
use Rattle.adr_view.proofs.ListLemmas.{in_map}
use Rattle.adr_view.proofs.OrderLemmas.{InOrder, Behind, none_sorted, each_row, in_order_put}
use Rattle.adr_view.proofs.RowLemmas.{each_there, from_put}
use Rattle.adr_machine.proofs.EditLemmas.{first_then, found_then, whatever}
use Rattle.adr_laws.proofs.Decisions.{of_delivery}
use Rattle.adr_laws.proofs.NumberLemmas.{IsDrawn, still_drawn}

-- ---- rows whose keys rise

-- the first of them is the least
first_least : {V : Type 0} (r : ℕ × V) (rows : List (ℕ × V)) → InOrder nat_cmp (r ∷ rows) → (x : ℕ × V) → Contains rows x → r.0 < x.0
unfolding IsStrictlySortedBy
first_least r rows ordered x there =
    let less : nat_cmp r.0 x.0 ≡ Less = All-contains (λ x. Behind nat_cmp r.0 x.0) rows x (each_row (Behind nat_cmp r.0) rows (All-from_recursion (Behind nat_cmp r.0) (keys_of rows) ordered.0)) there in
    ranked r.0 x.0 Less (sym less)

rest_ordered : {V : Type 0} (r : ℕ × V) (rows : List (ℕ × V)) → InOrder nat_cmp (r ∷ rows) → InOrder nat_cmp rows
unfolding IsStrictlySortedBy
rest_ordered r rows ordered = ordered.1

-- what is there is the first or one of the others
first_or_rest : {A : Type 0} (x : A) (xs : List A) (y : A) → Contains (x ∷ xs) y → (y ≡ x) ⊎ Contains xs y
first_or_rest {A} x xs y =
    let P : A → Type 0 = λ z. (z ≡ x) ⊎ Contains xs z in
    All-contains P (x ∷ xs) y (All-cons P x xs (inl refl) (each_there P xs (λ z there. inr there)))

-- ---- the first of a destination

abbrev pub goes_to : ℕ × Entry → ℕ
goes_to e = destination e.1.addressee

abbrev pub First : List (ℕ × Entry) → ℕ × Entry → Type 0
First entries e = (other : ℕ × Entry) → Contains entries other → goes_to other ≡ goes_to e → e.0 ≤ other.0

-- a key that is put among others is one that the test fails at, and so are these
seen_fail : (test : ℕ → Bool) (k : ℕ) (seen : List ℕ) → list_any test (insert_key nat_cmp seen k) ≡ false → (test k ≡ false) × (list_any test seen ≡ false)
seen_fail test k [] = or_parts (test k) false
seen_fail test k (x ∷ seen) = by (nat_cmp k x) refl (seen_fail test k seen)
  where
    by : (o : Ordering) → nat_cmp k x ≡ o → (list_any test (insert_key nat_cmp seen k) ≡ false → (test k ≡ false) × (list_any test seen ≡ false))
        → list_any test (match_ordering o (k ∷ x ∷ seen) (x ∷ seen) (x ∷ insert_key nat_cmp seen k)) ≡ false → (test k ≡ false) × (list_any test (x ∷ seen) ≡ false)
    by Less is rest none = or_parts (test k) (list_any test (x ∷ seen)) none
    by Equal is rest none = (ap test (exact_unsigned k x is) ∙ (or_parts (test x) (list_any test seen) none).0, none)
    by Greater is rest none =
        let parts = or_parts (test x) (list_any test (insert_key nat_cmp seen k)) none in
        let others = rest parts.1 in
        (others.0, ap₂ ◌||◌ parts.0 others.1)

-- what is next goes to no destination that was seen, and is the first of its own
pub record IsNext (seen : List ℕ) (entries : List (ℕ × Entry)) (e : ℕ × Entry) : Type 0 where
  pub is_there : Contains entries e
  pub unseen : list_any (is_at (nat_cmp (goes_to e))) seen ≡ false
  pub is_first : First entries e

next_first : (seen : List ℕ) (now : ℕ) (entries : List (ℕ × Entry)) (e : ℕ × Entry) → InOrder nat_cmp entries → next_after seen now entries ≡ Some e → IsNext seen entries e
next_first seen now [] e ordered = λ is. absurd (cc)
next_first seen now (r ∷ rows) e ordered = by (may_be_next seen now r.1) refl (next_first (insert_key nat_cmp seen (goes_to r)) now rows e (rest_ordered r rows ordered))
  where
    rest : IsNext (insert_key nat_cmp seen (goes_to r)) rows e → IsNext seen (r ∷ rows) e
    rest h =
        let fails = seen_fail (is_at (nat_cmp (goes_to e))) (goes_to r) seen h.unseen in
        let other : goes_to r ≡ goes_to e → ⊥ = λ same. false≢true (sym fails.0 ∙ ap (λ d. is_at (nat_cmp (goes_to e)) d) same ∙ ap is_eq (tied_itself nat_cmp_total (goes_to e))) in
        record {
          is_there = Contains-append_right (r ∷ []) rows e h.is_there;
          unseen = fails.1;
          is_first = λ x there same. elim (first_or_rest r rows x there) [ inl it ↦ absurd (other (ap goes_to (sym it) ∙ same)) | inr among ↦ h.is_first x among same ];
        }

    by : (b : Bool) → may_be_next seen now r.1 ≡ b → (next_after (insert_key nat_cmp seen (goes_to r)) now rows ≡ Some e → IsNext (insert_key nat_cmp seen (goes_to r)) rows e)
        → cond b (Some r) (next_after (insert_key nat_cmp seen (goes_to r)) now rows) ≡ Some e → IsNext seen (r ∷ rows) e
    by true may others is =
        let same : r ≡ e = same_Some r e is in
        subst (IsNext seen (r ∷ rows)) same (record {
          is_there = (0, omega arith, refl);
          unseen = not-true (list_any (is_at (nat_cmp (goes_to r))) seen) (and_parts (may_leave now r.1.delivery) (not (list_any (is_at (nat_cmp (goes_to r))) seen)) may).1;
          is_first = λ x there its. elim (first_or_rest r rows x there) [ inl it ↦ (let number = ap (λ (e : ℕ × Entry). e.0) it in omega (arith, number)) | inr among ↦ (let less = first_least r rows ordered x among in omega (arith, less)) ];
        })
    by false passes others is = rest (others is)

-- ---- all that wait

-- since the first of some serials, with these numbers then, in the order of their numbers, which were drawn; and what has a lease is the first of its destination
pub record Wait (first : ℕ) (had : List ℕ) (serial : ℕ) (entries : List (ℕ × Entry)) : Type 0 where
  pub rose : first ≤ serial
  pub in_order : InOrder nat_cmp entries
  pub drawn : (e : ℕ × Entry) → Contains entries e → IsDrawn first had serial e.0
  pub leased_first : (e : ℕ × Entry) → Contains entries e → IsSome e.1.delivery.lease → First entries e

-- none are there
pub none_wait : Wait 0 [] 0 []
none_wait = record { rose = omega arith; in_order = none_sorted nat_cmp; drawn = λ e there. absurd (omega (arith, there.1)); leased_first = λ e there. absurd (omega (arith, there.1)) }

module _ {first : ℕ} {had : List ℕ} {serial : ℕ} {entries : List (ℕ × Entry)} (h : Wait first had serial entries) where
  -- some of them, when more numbers were drawn
  pub some_wait : {next : ℕ} (left : List (ℕ × Entry)) → serial ≤ next → InOrder nat_cmp left → ((e : ℕ × Entry) → Contains left e → Contains entries e) → Wait first had next left
  some_wait left passed ordered from = record {
    rose = omega (arith, h.rose);
    in_order = ordered;
    drawn = λ e there. still_drawn passed (h.drawn e (from e there));
    leased_first = λ e there leased other among. h.leased_first e (from e there) leased other (from other among);
  }

  pub later_wait : {next : ℕ} → serial ≤ next → Wait first had next entries
  later_wait passed = some_wait entries passed h.in_order (λ e there. there)

  -- since the entries themselves
  pub wait_from_here : Wait serial (keys_of entries) serial entries
  wait_from_here = record {
    rose = omega arith;
    in_order = h.in_order;
    drawn = λ e there. let old : IsDrawn first had serial e.0 = h.drawn e there in record { at_least_one = old.at_least_one; up_to_the_serial = old.up_to_the_serial; was_there = λ early. in_map (λ r. r.0) entries e there };
    leased_first = h.leased_first;
  }

  -- one is put, of a number that is drawn by then: not before one that is the first of its destination, and behind none where it has a lease
  module _ (n : ℕ) (e : Entry) where
    put_wait : {next : ℕ} → serial ≤ next → IsDrawn first had next n → ((x : ℕ × Entry) → Contains entries x → First entries x → goes_to (n, e) ≡ goes_to x → x.0 ≤ n) → (IsSome e.delivery.lease → First entries (n, e)) → Wait first had next (insert_entry nat_cmp entries n e)
    put_wait {next} passed number behind leads =
        let from = from_put exact_unsigned n e entries in
        record {
          rose = omega (arith, h.rose, passed);
          in_order = in_order_put nat_cmp_total n e entries h.in_order;
          drawn = λ x there. elim (from x there) [ inl old ↦ still_drawn passed (h.drawn x old) | inr new ↦ subst (λ (x : ℕ × Entry). IsDrawn first had next x.0) (sym new) number ];
          leased_first = λ x there leased other among same. by x other (from x there) (from other among) leased same;
        }
      where
        by : (x other : ℕ × Entry) → Contains entries x ⊎ (x ≡ (n, e)) → Contains entries other ⊎ (other ≡ (n, e)) → IsSome x.1.delivery.lease → goes_to other ≡ goes_to x → x.0 ≤ other.0
        by x other (inl old) (inl one) leased same = h.leased_first x old leased other one same
        by x other (inl old) (inr new) leased same =
            let most : x.0 ≤ n = behind x old (h.leased_first x old leased) (ap goes_to (sym new) ∙ same) in
            let number : other.0 ≡ n = ap (λ (x : ℕ × Entry). x.0) new in
            omega (arith, most, number)
        by x other (inr it) (inl one) leased same =
            let least : n ≤ other.0 = leads (subst (λ (x : ℕ × Entry). IsSome x.1.delivery.lease) it leased) other one (same ∙ ap goes_to it) in
            let number : x.0 ≡ n = ap (λ (x : ℕ × Entry). x.0) it in
            omega (arith, least, number)
        by x other (inr it) (inr new) leased same = let number : x.0 ≡ other.0 = ap (λ (x : ℕ × Entry). x.0) (it ∙ sym new) in omega (arith, number)

  -- one that is there, with another delivery, which has a lease only where the entry is the first of its destination
  pub put_again : (n : ℕ) (e : Entry) (d : Delivery) → Contains entries (n, e) → (IsSome d.lease → First entries (n, e)) → Wait first had serial (insert_entry nat_cmp entries n (with_delivery d e))
  put_again n e d there leads = put_wait n (with_delivery d e) (omega arith) (h.drawn (n, e) there) (λ x among is_first same. is_first (n, e) there same) leads

-- further ones, that have no lease, at the numbers that are drawn for them
pub more_wait : {first : ℕ} {had : List ℕ} {next : ℕ} (entries : List Entry) → All (λ e. e.delivery.lease ≡ None) entries → (serial : ℕ) (rows : List (ℕ × Entry)) → Wait first had serial rows → serial + length entries ≤ next → Wait first had next (with_entries (enumerate_from (serial + 1) entries) rows)
more_wait [] fresh serial rows h within = later_wait h (omega (arith, within))
more_wait {first} {had} (e ∷ entries) fresh serial rows h within =
    let rose = h.rose in
    let number : IsDrawn first had (serial + 1) (serial + 1) = record { at_least_one = omega arith; up_to_the_serial = omega arith; was_there = λ early. absurd (omega (arith, early, rose)) } in
    let one : Wait first had (serial + 1) (insert_entry nat_cmp rows (serial + 1) e) =
    put_wait h (serial + 1) e (omega arith) number (λ x there is_first same. let low = (h.drawn x there).up_to_the_serial in omega (arith, low)) (λ leased. absurd (false≢true (ap is_some (sym (All-head (λ e. e.delivery.lease ≡ None) e entries fresh)) ∙ leased))) in
    more_wait entries (All-tail (λ e. e.delivery.lease ≡ None) e entries fresh) (serial + 1) (insert_entry nat_cmp rows (serial + 1) e) one (omega (arith, within))

-- ---- what comes of a command about an entry

-- the entry of a number that has a lease
abbrev pub IsLeased : ℕ → List (ℕ × Entry) → Entry → Type 0
IsLeased n entries e = (entry_at n entries ≡ Some e) × IsSome e.delivery.lease

pub leased_there : (n lease : ℕ) (entries : List (ℕ × Entry)) → IfOk (entry_leased n lease entries) (IsLeased n entries)
leased_there n lease entries =
    found_then (IsLeased n entries) (λ e. entry_at n entries ≡ Some e) LeaseLost (entry_at n entries) _ (itself (entry_at n entries))
    (λ e is. cond_both (has_lease lease e.delivery) (Ok e) (Err LeaseLost) (λ r. IfOk r (IsLeased n entries)) (λ has. (is, (and_parts (is_some e.delivery.lease) (e.delivery.leases == lease) has).0)) (λ lost. tt))
  where
    itself : (o : Option Entry) → IfSome o (λ e. o ≡ Some e)
    itself None = tt
    itself (Some e) = refl

-- what holds of an outbox as it is, with another delivery of an entry, and without one that had a lease and counts as sent or as given up, holds of it after a command about an entry
module _ (o : Outbox) (ordered : InOrder nat_cmp o.entries) (P : Outbox → Type 0) where
  -- with another delivery, which has a lease only where the entry is the first of its destination
  abbrev HoldsAgain : Type 0
  HoldsAgain = (n : ℕ) (e : Entry) (d : Delivery) (remotes : List (List ℕ × List ℕ)) → Contains o.entries (n, e) → (IsSome d.lease → First o.entries (n, e)) → P (record o { entries = insert_entry nat_cmp o.entries n (with_delivery d e); remotes = remotes })

  -- without one, by what was counted
  abbrev HoldsWithout : EntryCounts → Type 0
  HoldsWithout counts = (n : ℕ) (e : Entry) (remotes : List (List ℕ × List ℕ)) → IsLeased n o.entries e → P (record { entries = without_entry n o; remotes = remotes; counts = counts })

  module _ (same : P o) (again : HoldsAgain) (one_sent : HoldsWithout (record o.counts { sent = plus o.counts.sent 1 })) (one_given_up : HoldsWithout (record o.counts { given_up = plus o.counts.given_up 1 })) where
    lease_holds : (most now : ℕ) → IfOk (lease_next most now o) (λ l. P l.1)
    lease_holds most now = by (next_entry now o.entries) refl
      where
        by : (next : Option (ℕ × Entry)) → next_entry now o.entries ≡ next → IfOk (lease_next most now o) (λ l. P l.1)
        by None is = rw is same
        by (Some e) is =
            let next : IsNext [] o.entries e = next_first [] now o.entries e ordered is in
            rw is (first_then (λ l. P l.1) (λ d. Unit {0}) (leased most now e.1.delivery) _ (whatever (leased most now e.1.delivery)) (λ d any. again e.0 e.1 d o.remotes next.is_there (λ leased. next.is_first)))

    sent_holds : (n lease : ℕ) (remote : Option (List ℕ)) → IfOk (sent n lease remote o) P
    sent_holds n lease remote = first_then P (IsLeased n o.entries) (entry_leased n lease o.entries) _ (leased_there n lease o.entries) (λ e is. one_sent n e _ is)

    failed_holds : (now n lease : ℕ) (forget : Bool) → IfOk (failed now n lease forget o) P
    failed_holds now n lease forget = first_then P (IsLeased n o.entries) (entry_leased n lease o.entries) _ (leased_there n lease o.entries) (λ e is. by e is (one_more e.delivery.failures))
      where
        by : (e : Entry) → IsLeased n o.entries e → (failures : Option ℕ)
            → P (record (option_map_or (λ d. with_entry n (with_delivery d e) o) (option_map (λ k. record { failures = k; leases = e.delivery.leases; lease = None; due = later now (wait_after e.delivery.failures) }) failures) (record o { entries = without_entry n o; counts = record o.counts { given_up = plus o.counts.given_up 1 } })) { remotes = without_remote e.addressee forget o.remotes })
        by e is None = one_given_up n e _ is
        by e is (Some k) = again n e _ _ (Contains-from_lookup (tells_apart exact_unsigned) n e o.entries is.0) (λ leased. absurd (false≢true leased))

    pub delivered_holds : (limits : Limits) (now : ℕ) (command : Command) → is_delivery command ≡ true → IfOk (delivered limits now o command) (λ d. P d.1)
    delivered_holds limits now command =
        of_delivery (λ command. IfOk (delivered limits now o command) (λ d. P d.1)) (first_then (λ d. P d.1) (λ l. P l.1) (lease_next limits.serial now o) _ (lease_holds limits.serial now) (λ l h. h))
        (λ n lease remote. first_then (λ d. P d.1) P (sent n lease remote o) _ (sent_holds n lease remote) (λ next h. h)) (λ n lease forget. first_then (λ d. P d.1) P (failed now n lease forget o) _ (failed_holds now n lease forget) (λ next h. h)) command
