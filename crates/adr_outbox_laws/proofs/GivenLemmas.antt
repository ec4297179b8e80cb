-- The leases of an entry are counted, and their count never falls: so an earlier one is lost.
use Rattle.std.proofs.Common.{◌≡◌, ◌≤◌, ◌<◌, ◌+◌, ℕ, Bool, true, List, [], ◌∷◌, ◌++◌, Option, Some, None, inl, inr, Result, Ok, Err, refl, sym, ap, subst, ◌∙◌, arith}
use Rattle.std.specs.Prelude.{IfOk, option_map}
use Rattle.std.specs.BTreeMap.{insert_entry, is_at}
use Rattle.std.specs.List.{All, Contains, enumerate_from}
use Rattle.std.specs.Option.{option_map_or}
use Rattle.std.specs.Ordering.{nat_cmp}
use Rattle.std.proofs.lemmas.List.Elements.{All-cons, All-contains, All-nil, All-weaker, Contains-append_cases}
use Rattle.std.proofs.lemmas.Map.Lookups.{exact_unsigned}
use Rattle.std.proofs.lemmas.Map.Views.{Contains-from_lookup, tells_apart}
use Rattle.std.proofs.lemmas.Option.{same_Some}
use Rattle.adr_text.specs.declared.refusal.Refusal.{Refusal}
use Rattle.adr_text.specs.declared.refusal.Refusal.TheVariants.{Exhausted, LeaseLost}
use Rattle.adr_delivery.specs.declared.delivery.Delivery.{Delivery}
use Rattle.adr_delivery.specs.declared.entry.Entry.{Entry}
use Rattle.adr_delivery.specs.declared.job.Job.{Job}
use Rattle.adr_delivery.specs.declared.outbox.Outbox.{Outbox}
use Rattle.adr_delivery.specs.Deliveries.{later, leased}
use Rattle.adr_delivery.specs.Failing.{one_more, wait_after as seconds_after}
use Rattle.adr_delivery.specs.Next.{next_entry}
use Rattle.adr_delivery.specs.Outboxes.{entry_at, entry_leased, failed, has_addressee, lease_next, sent, with_delivery, with_entry, without_entry}
use Rattle.adr_delivery.specs.Tallies.{plus}
use Rattle.adr_state.specs.declared.limits.Limits.{Limits}
use Rattle.adr_state.specs.declared.limits.Settings.{Settings}
use Rattle.adr_state.specs.declared.state.State.{State}
use Rattle.adr_state.specs.States.{empty}
use Rattle.adr_state.specs.BaseChanges.{changed}
use Rattle.adr_view.proofs.OrderLemmas.{InOrder}
use Rattle.adr_view.proofs.RowLemmas.{from_filter, from_put, from_removal}
use Rattle.adr_queries.specs.declared.answer.Answer.{Answer}
use Rattle.adr_queries.specs.declared.answer.Answer.TheVariants as answer
use Rattle.adr_machine.specs.declared.command.Command.{Command}
use Rattle.adr_machine.specs.declared.command.Command.TheVariants.{Lease}
use Rattle.adr_machine.specs.Deliveries.{delivered}
use Rattle.adr_machine.specs.Edits.{Decision, draws_number, is_delivery}
use Rattle.adr_machine.specs.Runs.{state_after, step_at, told}
use Rattle.adr_machine.proofs.EditLemmas.{first_then}
use Rattle.adr_laws.specs.Entries.{reached}
use Rattle.adr_laws.specs.Standing.{state_of}
use Rattle.adr_laws.proofs.Decisions.{after_step, entries_by, of_delivery, state_by}
use Rattle.adr_laws.proofs.NumberLemmas.{rises, serial_then}
use Rattle.adr_laws.proofs.OutboxLemmas.{AllWait, left_by, step_waits, wait_after}
use Rattle.adr_laws.proofs.RunLemmas.{run_keeps, state_of-append, state_of-push}
use Rattle.adr_laws.proofs.WaitLemmas.{IsLeased, leased_there}
use Rattle.adr_outbox_laws.specs.Leases.{EarlierLeasesAreLost, Gives, IsGiven, Settles, leased_again}
use Rattle.adr_outbox_laws.proofs.LeaseLemmas.{IsLease, lease_gives, leased_is, of_made, settled_by_its_lease}
use Rattle.adr_outbox_laws.proofs.NextLemmas.{IsAsFound, found_there, next_as_found}
use Rattle.adr_outbox_laws.proofs.ToldLemmas.{waiting_then}

-- ---- how often an entry was leased

-- what waits under a number was leased so often, or more
abbrev AreLeased : ℕ → ℕ → List (ℕ × Entry) → Type 0
AreLeased n many entries = (e : ℕ × Entry) → Contains entries e → e.0 ≡ n → many ≤ e.1.delivery.leases

-- so it is after a command about an entry
module _ (n many : ℕ) (o : Outbox) (ordered : InOrder nat_cmp o.entries) (h : AreLeased n many o.entries) where
  put_again : (k : ℕ) (e : Entry) (d : Delivery) → Contains o.entries (k, e) → e.delivery.leases ≤ d.leases → AreLeased n many (insert_entry nat_cmp o.entries k (with_delivery d e))
  put_again k e d there more x among same = elim (from_put exact_unsigned k (with_delivery d e) o.entries x among) [
    | inl old ↦ h x old same
    | inr new ↦
        (let number : k ≡ n = ap (λ (x : ℕ × Entry). x.0) (sym new) ∙ same in
        let low : many ≤ e.delivery.leases = h (k, e) there number in
        let its : x.1.delivery.leases ≡ d.leases = ap (λ (x : ℕ × Entry). x.1.delivery.leases) new in
        omega (arith, low, more, its))
  ]

  gone : (k : ℕ) → AreLeased n many (without_entry k o)
  gone k x among same = h x (from_removal (is_at (nat_cmp k)) o.entries x among) same

  lease_keeps : (most now : ℕ) → IfOk (lease_next most now o) (λ l. AreLeased n many l.1.entries)
  lease_keeps most now = by (next_entry now o.entries) refl (next_as_found now o.entries ordered)
    where
      by : (next : Option (ℕ × Entry)) → next_entry now o.entries ≡ next → IsAsFound now o.entries next → IfOk (lease_next most now o) (λ l. AreLeased n many l.1.entries)
      by None is none = rw is h
      by (Some e) is next =
          rw is (first_then (λ l. AreLeased n many l.1.entries) (λ d. d ≡ leased_again now e.1.delivery) (leased most now e.1.delivery) _ (of_made (λ d. d ≡ leased_again now e.1.delivery) (λ refusal. (refusal ≡ Exhausted) × (most ≤ e.1.delivery.leases)) (leased most now e.1.delivery) (leased_is most now e.1.delivery))
          (λ d its. put_again e.0 e.1 d next.may_go.waits (let one_more : d.leases ≡ e.1.delivery.leases + 1 = ap (λ (d : Delivery). d.leases) its in omega (arith, one_more))))

  sent_keeps : (k lease : ℕ) (remote : Option (List ℕ)) → IfOk (sent k lease remote o) (λ o. AreLeased n many o.entries)
  sent_keeps k lease remote = first_then (λ o. AreLeased n many o.entries) (IsLeased k o.entries) (entry_leased k lease o.entries) _ (leased_there k lease o.entries) (λ e is. gone k)

  failed_keeps : (now k lease : ℕ) (forget : Bool) → IfOk (failed now k lease forget o) (λ o. AreLeased n many o.entries)
  failed_keeps now k lease forget = first_then (λ o. AreLeased n many o.entries) (IsLeased k o.entries) (entry_leased k lease o.entries) _ (leased_there k lease o.entries) (λ e is. by e is (one_more e.delivery.failures))
    where
      by : (e : Entry) → IsLeased k o.entries e → (failures : Option ℕ)
          → AreLeased n many (option_map_or (λ d. with_entry k (with_delivery d e) o) (option_map (λ f. record { failures = f; leases = e.delivery.leases; lease = None; due = later now (seconds_after e.delivery.failures) }) failures) (record o { entries = without_entry k o; counts = record o.counts { given_up = plus o.counts.given_up 1 } })).entries
      by e is None = gone k
      by e is (Some f) = put_again k e _ (Contains-from_lookup (tells_apart exact_unsigned) k e o.entries is.0) (omega arith)

  delivered_keeps : (limits : Limits) (now : ℕ) (command : Command) → is_delivery command ≡ true → IfOk (delivered limits now o command) (λ d. AreLeased n many d.1.entries)
  delivered_keeps limits now command =
      of_delivery (λ command. IfOk (delivered limits now o command) (λ d. AreLeased n many d.1.entries)) (first_then (λ d. AreLeased n many d.1.entries) (λ l. AreLeased n many l.1.entries) (lease_next limits.serial now o) _ (lease_keeps limits.serial now) (λ l h. h))
      (λ k lease remote. first_then (λ d. AreLeased n many d.1.entries) (λ o. AreLeased n many o.entries) (sent k lease remote o) _ (sent_keeps k lease remote) (λ next h. h))
      (λ k lease forget. first_then (λ d. AreLeased n many d.1.entries) (λ o. AreLeased n many o.entries) (failed now k lease forget o) _ (failed_keeps now k lease forget) (λ next h. h)) command

-- further entries have numbers from there on
numbers_from : (from : ℕ) (further : List Entry) → All (λ e. from ≤ e.0) (enumerate_from from further)
numbers_from from [] = All-nil (λ e. from ≤ e.0)
numbers_from from (e ∷ further) = All-cons (λ (e : ℕ × Entry). from ≤ e.0) (from, e) (enumerate_from (from + 1) further) (omega arith) (All-weaker (λ (e : ℕ × Entry). from + 1 ≤ e.0) (λ (e : ℕ × Entry). from ≤ e.0) (λ e more. omega (arith, more)) (enumerate_from (from + 1) further) (numbers_from (from + 1) further))

-- ---- runs

module _ (n many : ℕ) where
  -- the number was drawn, and what waits under it was leased so often
  abbrev Counts : State → Type 0
  Counts s = AllWait 0 [] s × (n ≤ s.base.serial) × AreLeased n many s.outbox.entries

  edited : (settings : Settings) (s : State) (c : ℕ × Command) (d : Decision) → Counts s → AreLeased n many (state_by settings s c d).outbox.entries
  edited settings s c d h =
      let serial : ℕ = serial_then s.base.serial (draws_number c.1) in
      let told : List Entry = entries_by settings s c d in
      subst (AreLeased n many) (sym (waiting_then settings s c d h.0)) (λ e there same. elim (Contains-append_cases (left_by s d) (enumerate_from (serial + 1) told) e there) [
        | inl left ↦ h.2 e (from_filter (has_addressee (changed d.change s.base).portfolio.subs) s.outbox.entries e left).0 same
        | inr made ↦
            (let above : serial + 1 ≤ e.0 = All-contains (λ (e : ℕ × Entry). serial + 1 ≤ e.0) (enumerate_from (serial + 1) told) e (numbers_from (serial + 1) told) made in
            let rose = rises s.base.serial (draws_number c.1) in
            let drawn : n ≤ s.base.serial = h.1 in
            absurd (omega (arith, above, rose, drawn, same)))
      ])

  step_counts : (settings : Settings) (s : State) (c : ℕ × Command) → Counts s → Counts (state_after s (step_at settings s c))
  step_counts settings s c h =
      let after = after_step settings s c (λ r. (n ≤ (state_after s r).base.serial) × AreLeased n many (state_after s r).outbox.entries) (λ refusal. (h.1, h.2))
      (λ a o is done. (h.1, subst (λ (r : Result (Answer × Outbox) Refusal). IfOk r (λ d. AreLeased n many d.1.entries)) done (delivered_keeps n many s.outbox h.0.in_order h.2 settings.limits c.0 c.1 is)))
      (λ d a is. ((let rose = rises s.base.serial (draws_number c.1) in let drawn : n ≤ s.base.serial = h.1 in omega (arith, rose, drawn)), edited settings s c d h)) in
      (step_waits 0 [] settings s c h.0, after.0, after.1)

  run_counts : (settings : Settings) (s : State) (cs : List (ℕ × Command)) → Counts s → Counts (state_of (step_at settings) s cs)
  run_counts settings = run_keeps (step_at settings) Counts (step_counts settings)

-- ---- a lease that is given

-- the state after a `Lease`
abbrev after_lease : Settings → State → ℕ → State
after_lease settings s now = state_after s (step_at settings s (now, Lease))

module _ (settings : Settings) (s : State) (now : ℕ) (waits : AllWait 0 [] s) (job : Job) (gives : told (step_at settings s (now, Lease)) ≡ Ok (answer.Job (Some job))) where
  pub is_given : IsGiven now s (after_lease settings s now) job
  is_given = by (step_at settings s (now, Lease)) (lease_gives settings s now waits.in_order) gives
    where
      by : (r : Result (Answer × State) Refusal) → IsLease settings s now waits.in_order r → told r ≡ Ok (answer.Job (Some job)) → IsGiven now s (state_after s r) job
      by (Ok taken) lease is = let same : taken.0 ≡ answer.Job (Some job) = cc in subst (λ a. Gives now s a taken.1) same lease
      by (Err refusal) lease is = absurd (let no : Err refusal ≡ Ok (answer.Job (Some job)) = is in cc)

  -- and its number is that of all that waits there then
  counts_then : Counts job.entry job.lease (after_lease settings s now)
  counts_then =
      let t : State = after_lease settings s now in
      let wait_on : AllWait 0 [] t = step_waits 0 [] settings s (now, Lease) waits in
      let drawn : job.entry ≤ s.base.serial = (waits.drawn (job.entry, is_given.entry) is_given.was_the_next.may_go.waits).up_to_the_serial in
      let same_serial : t.base.serial ≡ s.base.serial = ap (λ (t : State). t.base.serial) is_given.all_else_is_as_before in (
        wait_on,
        omega (arith, drawn, same_serial),
        λ e there same.
            let its = found_there t.outbox.entries wait_on.in_order e there in
            let one : Some e.1 ≡ Some (with_delivery (leased_again now is_given.entry.delivery) is_given.entry) = sym its ∙ ap (λ n. entry_at n t.outbox.entries) same ∙ is_given.waits_with_it in
            let leases : e.1.delivery.leases ≡ is_given.entry.delivery.leases + 1 = ap (λ (e : Entry). e.delivery.leases) (same_Some e.1 _ one) in
            let named = is_given.names_its_number in
            omega (arith, leases, named),
      )

pub earlier_lost : EarlierLeasesAreLost
earlier_lost settings cs between now later one other again =
    record { is_greater = greater; is_refused = refused }
  where
    s : State
    s = reached settings cs

    first : List (ℕ × Command)
    first = cs ++ (now, Lease) ∷ []

    u : State
    u = reached settings (first ++ between)

    -- what waits under that number was leased so often at first, before the second lease
    counted : Counts one.entry one.lease u
    counted =
        subst (Counts one.entry one.lease) (ap (λ t. state_of (step_at settings) t between) (sym (state_of-push (step_at settings) empty cs (now, Lease))) ∙ sym (state_of-append (step_at settings) empty first between))
        (run_counts one.entry one.lease settings (after_lease settings s now) between (counts_then settings s now (wait_after settings cs) one again.first_lease))

    given_again : IsGiven later u (after_lease settings u later) other
    given_again = is_given settings u later (wait_after settings (first ++ between)) other again.second_lease

    greater : one.lease < other.lease
    greater =
        let low : one.lease ≤ given_again.entry.delivery.leases = counted.2 (other.entry, given_again.entry) given_again.was_the_next.may_go.waits again.same_entry in
        let named = given_again.names_its_number in
        omega (arith, low, named)

    refused : (more : List (ℕ × Command)) (moment : ℕ) (command : Command) → Settles one.entry one.lease command → step_at settings (reached settings ((first ++ between) ++ (later, Lease) ∷ more)) (moment, command) ≡ Err LeaseLost
    refused more moment command names =
        let v : State = reached settings ((first ++ between) ++ (later, Lease) ∷ more) in
        let counted_on : Counts other.entry other.lease v =
        subst (Counts other.entry other.lease) (sym (state_of-append (step_at settings) empty (first ++ between) ((later, Lease) ∷ more))) (run_counts other.entry other.lease settings (after_lease settings u later) more (counts_then settings u later (wait_after settings (first ++ between)) other again.second_lease)) in
        (settled_by_its_lease settings v moment one.entry one.lease command names).refused.1 (λ has.
        let there : Contains v.outbox.entries (one.entry, has.entry) = Contains-from_lookup (tells_apart exact_unsigned) one.entry has.entry v.outbox.entries has.waits in
        let most : other.lease ≤ has.entry.delivery.leases = counted_on.2 (one.entry, has.entry) there (sym again.same_entry) in
        let same = has.is_of_that_number in
        let less = greater in
        omega (arith, most, same, less))
