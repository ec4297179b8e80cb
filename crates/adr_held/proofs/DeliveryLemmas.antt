-- What holds of each entry that waits holds of each after a command about an entry, and with further ones.
use Rattle.std.proofs.Common.{◌≡◌, ◌≤◌, ◌+◌, ℕ, Bool, true, List, [], ◌∷◌, filter, length, Option, Some, None, Ok, Err, IfOk, refl, arith}
use Rattle.std.specs.Prelude.{IfSome, option_map}
use Rattle.std.specs.BTreeSet.{insert_key}
use Rattle.std.specs.List.{enumerate_from}
use Rattle.std.specs.Map.{remove_entry}
use Rattle.std.specs.Option.{option_map_or}
use Rattle.std.proofs.lemmas.List.Elements.{All-cons}
use Rattle.adr_laws.proofs.Common.{All, All-contains, All-head, All-nil, All-tail, Command, Contains-from_lookup, cond_both, exact_unsigned, insert_entry, is_at, nat_cmp, tells_apart}
use Rattle.adr_text.specs.declared.refusal.Refusal.TheVariants.{LeaseLost}
use Rattle.adr_subscription.specs.declared.kept_sub.Sub.{Sub}
use Rattle.adr_delivery.specs.declared.delivery.Delivery.{Delivery}
use Rattle.adr_delivery.specs.declared.entry.Entry.{Entry}
use Rattle.adr_delivery.specs.declared.outbox.Outbox.{Outbox}
use Rattle.adr_delivery.specs.Deliveries.{has_lease, later, leased}
use Rattle.adr_delivery.specs.Entries.{destination}
use Rattle.adr_delivery.specs.Failing.{one_more, wait_after}
use Rattle.adr_delivery.specs.Next.{may_be_next, next_after, next_entry}
use Rattle.adr_delivery.specs.Outboxes.{entry_at, entry_leased, failed, has_addressee, lease_next, sent, with_delivery, with_entries, with_entry, without_entry}
use Rattle.adr_delivery.specs.Tallies.{plus}
use Rattle.adr_state.specs.declared.limits.Limits.{Limits}
use Rattle.adr_view.proofs.RowLemmas.{all_rows, each_there, from_filter, from_removal}
use Rattle.adr_machine.specs.Deliveries.{delivered}
use Rattle.adr_machine.specs.Edits.{is_delivery}
use Rattle.adr_machine.proofs.EditLemmas.{first_then, found_then, whatever}
use Rattle.adr_laws.proofs.Decisions.{of_delivery}
use Rattle.adr_held.proofs.MadeLemmas.{Goes}

-- ---- a command about an entry

-- what holds of an entry whatever comes of its delivery
module _ (Q : ℕ × Entry → Type 0) (again : (n : ℕ) (e : Entry) (d : Delivery) → Q (n, e) → Q (n, with_delivery d e)) where
  put_all : (n : ℕ) (e : Entry) (entries : List (ℕ × Entry)) → Q (n, e) → All Q entries → All Q (insert_entry nat_cmp entries n e)
  put_all n e entries one all = all_rows exact_unsigned Q entries ((n, e) ∷ []) all (All-cons Q (n, e) [] one (All-nil Q))

  removed_all : (n : ℕ) (entries : List (ℕ × Entry)) → All Q entries → All Q (remove_entry (is_at (nat_cmp n)) entries)
  removed_all n entries all = each_there Q (remove_entry (is_at (nat_cmp n)) entries) (λ e there. All-contains Q entries e all (from_removal (is_at (nat_cmp n)) entries e there))

  next_is : (seen : List ℕ) (now : ℕ) (entries : List (ℕ × Entry)) → All Q entries → IfSome (next_after seen now entries) Q
  next_is seen now [] all = tt
  next_is seen now (e ∷ entries) all =
      cond_both (may_be_next seen now e.1) (Some e) (next_after (insert_key nat_cmp seen (destination e.1.addressee)) now entries) (λ o. IfSome o Q) (λ may. All-head Q e entries all)
      (λ passes. next_is (insert_key nat_cmp seen (destination e.1.addressee)) now entries (All-tail Q e entries all))

  at_number : (n : ℕ) (entries : List (ℕ × Entry)) → All Q entries → IfSome (entry_at n entries) (λ e. Q (n, e))
  at_number n entries all = by (entry_at n entries) refl
    where
      by : (o : Option Entry) → entry_at n entries ≡ o → IfSome o (λ e. Q (n, e))
      by None is = tt
      by (Some e) is = All-contains Q entries (n, e) all (Contains-from_lookup (tells_apart exact_unsigned) n e entries is)

  leased_is : (n lease : ℕ) (entries : List (ℕ × Entry)) → All Q entries → IfOk (entry_leased n lease entries) (λ e. Q (n, e))
  leased_is n lease entries all =
      found_then (λ e. Q (n, e)) (λ e. Q (n, e)) LeaseLost (entry_at n entries) _ (at_number n entries all) (λ e one. cond_both (has_lease lease e.delivery) (Ok e) (Err LeaseLost) (λ r. IfOk r (λ e. Q (n, e))) (λ has. one) (λ lost. tt))

  module _ (o : Outbox) (all : All Q o.entries) where
    lease_all : (most now : ℕ) → IfOk (lease_next most now o) (λ l. All Q l.1.entries)
    lease_all most now = by (next_entry now o.entries) refl (next_is [] now o.entries all)
      where
        by : (next : Option (ℕ × Entry)) → next_entry now o.entries ≡ next → IfSome next Q → IfOk (lease_next most now o) (λ l. All Q l.1.entries)
        by None is one = rw is all
        by (Some e) is one =
            rw is (first_then (λ l. All Q l.1.entries) (λ d. Unit {0}) (leased most now e.1.delivery) _ (whatever (leased most now e.1.delivery)) (λ d any. put_all e.0 (with_delivery d e.1) o.entries (again e.0 e.1 d one) all))

    sent_all : (n lease : ℕ) (remote : Option (List ℕ)) → IfOk (sent n lease remote o) (λ next. All Q next.entries)
    sent_all n lease remote = first_then (λ next. All Q next.entries) (λ e. Q (n, e)) (entry_leased n lease o.entries) _ (leased_is n lease o.entries all) (λ e one. removed_all n o.entries all)

    failed_all : (now n lease : ℕ) (forget : Bool) → IfOk (failed now n lease forget o) (λ next. All Q next.entries)
    failed_all now n lease forget = first_then (λ next. All Q next.entries) (λ e. Q (n, e)) (entry_leased n lease o.entries) _ (leased_is n lease o.entries all) (λ e one. by e one (one_more e.delivery.failures))
      where
        by : (e : Entry) → Q (n, e) → (failures : Option ℕ)
            → All Q (option_map_or (λ d. with_entry n (with_delivery d e) o) (option_map (λ k. record { failures = k; leases = e.delivery.leases; lease = None; due = later now (wait_after e.delivery.failures) }) failures) (record o { entries = without_entry n o; counts = record o.counts { given_up = plus o.counts.given_up 1 } })).entries
        by e one None = removed_all n o.entries all
        by e one (Some k) = put_all n (with_delivery _ e) o.entries (again n e _ one) all

    pub delivered_all : (limits : Limits) (now : ℕ) (command : Command) → is_delivery command ≡ true → IfOk (delivered limits now o command) (λ d. All Q d.1.entries)
    delivered_all limits now command =
        of_delivery (λ command. IfOk (delivered limits now o command) (λ d. All Q d.1.entries)) (first_then (λ d. All Q d.1.entries) (λ l. All Q l.1.entries) (lease_next limits.serial now o) _ (lease_all limits.serial now) (λ l h. h))
        (λ n lease remote. first_then (λ d. All Q d.1.entries) (λ next. All Q next.entries) (sent n lease remote o) _ (sent_all n lease remote) (λ next h. h))
        (λ n lease forget. first_then (λ d. All Q d.1.entries) (λ next. All Q next.entries) (failed now n lease forget o) _ (failed_all now n lease forget) (λ next h. h)) command

-- ---- entries that wait

-- its number was drawn, and it goes to the utility or to one of these subscriptions
abbrev pub Waits : ℕ → List (ℕ × Sub) → ℕ × Entry → Type 0
Waits serial subs e = (e.0 ≤ serial) × (has_addressee subs e ≡ true)

module _ (subs : List (ℕ × Sub)) where
  numbered_wait : (last from : ℕ) (further : List Entry) → from + length further ≤ last + 1 → All (Goes subs) further → All (Waits last subs) (enumerate_from from further)
  numbered_wait last from [] within go = All-nil (Waits last subs)
  numbered_wait last from (e ∷ further) within go =
      All-cons (Waits last subs) (from, e) (enumerate_from (from + 1) further) (omega (arith, within), All-head (Goes subs) e further go)
      (numbered_wait last (from + 1) further (omega (arith, within)) (All-tail (Goes subs) e further go))

  -- those that are left, and further ones at the numbers that are drawn for them
  pub left_and_further : (first serial : ℕ) (entries : List (ℕ × Entry)) (further : List Entry) → first ≤ serial → All (λ e. e.0 ≤ first) entries → All (Goes subs) further
      → All (Waits (serial + length further) subs) (with_entries (enumerate_from (serial + 1) further) (filter (has_addressee subs) entries))
  left_and_further first serial entries further passed low go =
      all_rows exact_unsigned (Waits (serial + length further) subs) (filter (has_addressee subs) entries) (enumerate_from (serial + 1) further)
      (each_there (Waits (serial + length further) subs) (filter (has_addressee subs) entries) (λ e there.
      let kept = from_filter (has_addressee subs) entries e there in
      let old = All-contains (λ e. e.0 ≤ first) entries e low kept.0 in
      (omega (arith, old, passed), kept.1)))
      (numbered_wait (serial + length further) (serial + 1) further (omega arith) go)
