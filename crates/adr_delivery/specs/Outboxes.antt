-- What becomes of the entries that wait: leased, sent, failed, dropped, and how further ones are appended.
use Rattle.std.specs.Prelude.{ℕ, ◌+◌, ◌-◌, nat_lt, ◌==◌, Bool, true, ◌||◌, List, [], length, filter, fold, Option, Some, None, is_some, Result, Ok, Err, if◌then◌else◌}
use Rattle.std.specs.Map.{lookup, remove_entry}
use Rattle.std.specs.Option.{option_map_or}
use Rattle.std.specs.BTreeMap.{is_at, insert_entry}
use Rattle.std.specs.Ordering.{nat_cmp}
use Rattle.std.specs.Cmp.Lexicographic.{slice_cmp}
use Rattle.adr_text.specs.Refusals.{◌>>=◌, or_else}
use Rattle.adr_text.specs.declared.refusal.Refusal.{Refusal}
use Rattle.adr_text.specs.declared.refusal.Refusal.TheVariants.{Exhausted, LeaseLost, OutboxFull}
use Rattle.adr_objects.specs.declared.counts.OutboxCounts.{OutboxCounts}
use Rattle.adr_delivery.specs.declared.addressee.Addressee.{Addressee}
use Rattle.adr_delivery.specs.declared.addressee.Addressee.TheVariants.{Utility, Subscriber}
use Rattle.adr_delivery.specs.declared.delivery.Delivery.{Delivery}
use Rattle.adr_delivery.specs.declared.entry.Entry.{Entry}
use Rattle.adr_delivery.specs.Counts.{no_counts}
use Rattle.adr_delivery.specs.Deliveries.{leased, has_lease, after_failure}
use Rattle.adr_delivery.specs.Entries.{destination}
use Rattle.adr_delivery.specs.Next.{next_entry}
use Rattle.adr_delivery.specs.Tallies.{plus}
use Rattle.adr_delivery.specs.declared.outbox.Outbox.{Outbox}

-- at first: no entry waits, no id of the utility's is known, and each count is 0
abbrev pub no_entries : Outbox
no_entries = record { entries = []; remotes = []; counts = no_counts }

-- how many were made, what came of them, and how many wait
abbrev pub counts_of : Outbox → OutboxCounts
counts_of o = record { made = o.counts.made; sent = o.counts.sent; given_up = o.counts.given_up; dropped = o.counts.dropped; pending = length o.entries }

abbrev pub entry_at : ℕ → List (ℕ × Entry) → Option Entry
entry_at n entries = lookup (is_at (nat_cmp n)) entries

-- what the utility calls the report that tells of the same event, where it was sent one
abbrev pub remote_for : Addressee → Outbox → Option (List ℕ)
remote_for (Utility event) o = lookup (is_at (slice_cmp nat_cmp event)) o.remotes
remote_for (Subscriber subscription address token) o = None

-- ---- leases

-- an entry, whose delivery stands like this from now on
abbrev pub with_delivery : Delivery → Entry → Entry
with_delivery d e = record e { delivery = d }

abbrev pub with_entry : ℕ → Entry → Outbox → Outbox
with_entry n e o = record o { entries = insert_entry nat_cmp o.entries n e }

-- the entry of a number has a lease more, and is told with it
abbrev pub leased_at : ℕ → ℕ → Outbox → ℕ × Entry → Result (Option (ℕ × Entry) × Outbox) Refusal
leased_at most now o e = leased most now e.1.delivery >>= λ d. Ok (Some (e.0, with_delivery d e.1), with_entry e.0 (with_delivery d e.1) o)

-- the next entry that may leave has a lease more, and is told with it, if there is one
abbrev pub lease_next : ℕ → ℕ → Outbox → Result (Option (ℕ × Entry) × Outbox) Refusal
lease_next most now o = lease_of (next_entry now o.entries)
  where
    lease_of : Option (ℕ × Entry) → Result (Option (ℕ × Entry) × Outbox) Refusal
    lease_of None = Ok (None, o)
    lease_of (Some e) = leased_at most now o e

-- ---- what comes of a lease

-- the entry of a number, where it has the lease of a number, which may have ended; else 13
abbrev pub entry_leased : ℕ → ℕ → List (ℕ × Entry) → Result Entry Refusal
entry_leased n lease entries = or_else LeaseLost (entry_at n entries) >>= λ e. if has_lease lease e.delivery then Ok e else Err LeaseLost

abbrev pub without_entry : ℕ → Outbox → List (ℕ × Entry)
without_entry n o = remove_entry (is_at (nat_cmp n)) o.entries

-- the utility's ids of reports, with that of an entry that it took; an entry of a subscription has none
abbrev pub with_remote : Addressee → Option (List ℕ) → List (List ℕ × List ℕ) → List (List ℕ × List ℕ)
with_remote (Utility event) (Some remote) remotes = insert_entry (slice_cmp nat_cmp) remotes event remote
with_remote addressee remote remotes = remotes

-- without that of an entry, where it is to be forgotten
abbrev pub without_remote : Addressee → Bool → List (List ℕ × List ℕ) → List (List ℕ × List ℕ)
without_remote (Utility event) true remotes = remove_entry (is_at (slice_cmp nat_cmp event)) remotes
without_remote addressee forget remotes = remotes

-- it leaves, and counts as sent
abbrev pub sent_at : ℕ → Entry → Option (List ℕ) → Outbox → Outbox
sent_at n e remote o = record {
  entries = without_entry n o;
  remotes = with_remote e.addressee remote o.remotes;
  counts = record o.counts { sent = plus o.counts.sent 1 };
}

-- the entry of a number, where it has the lease of a number, leaves and counts as sent, and the utility's id of its
-- report is noted where one came, else 13
abbrev pub sent : ℕ → ℕ → Option (List ℕ) → Outbox → Result Outbox Refusal
sent n lease remote o = entry_leased n lease o.entries >>= λ e. Ok (sent_at n e remote o)

-- it waits for its next time; after the eighth failure it leaves, and counts as given up
abbrev pub failed_at : ℕ → ℕ → Entry → Outbox → Outbox
failed_at now n e o = option_map_or (λ d. with_entry n (with_delivery d e) o) (after_failure now e.delivery) (record o { entries = without_entry n o; counts = record o.counts { given_up = plus o.counts.given_up 1 } })

-- the entry of a number, where it has the lease of a number, waits for its next time or is given up, and the
-- utility's id of its report is forgotten where that is asked for, else 13
abbrev pub failed : ℕ → ℕ → ℕ → Bool → Outbox → Result Outbox Refusal
failed now n lease forget o = entry_leased n lease o.entries >>= λ e. Ok (record (failed_at now n e o) { remotes = without_remote e.addressee forget o.remotes })

-- ---- dropped and appended

-- whether it goes to the utility, or to one of the subscriptions that are there
abbrev pub has_addressee : {S : Type 0} → List (ℕ × S) → ℕ × Entry → Bool
has_addressee subscriptions e = destination e.1.addressee == 0 || is_some (lookup (is_at (nat_cmp (destination e.1.addressee))) subscriptions)

-- the entries of subscriptions that are not there are dropped, and count as that
abbrev pub kept_for : {S : Type 0} → List (ℕ × S) → Outbox → Outbox
kept_for subscriptions o = record o {
  entries = filter (has_addressee subscriptions) o.entries;
  counts = record o.counts { dropped = plus o.counts.dropped (length o.entries - length (filter (has_addressee subscriptions) o.entries)) };
}

-- with further entries, each in its place
abbrev pub with_entries : List (ℕ × Entry) → List (ℕ × Entry) → List (ℕ × Entry)
with_entries further entries = fold (λ m e. insert_entry nat_cmp m e.0 e.1) entries further

-- whether there are numbers left for so many further entries, and whether so many may wait: 4 and then 3, for all of them at once. For none there is
-- always room
abbrev pub check_room : ℕ → ℕ → ℕ → ℕ → ℕ → Result Unit Refusal
check_room most pending last waiting further =
    if further == 0 then Ok tt
    else (if nat_lt most (last + further) then Err Exhausted
    else (if nat_lt pending (waiting + further) then Err OutboxFull
    else Ok tt))

-- further entries are put at their numbers, and count as made
abbrev pub appended : List (ℕ × Entry) → Outbox → Outbox
appended further o = record o { entries = with_entries further o.entries; counts = record o.counts { made = plus o.counts.made (length further) } }
