-- The entries of the outbox over whole runs: how many there were, their numbers, and the order in which they leave.
use Rattle.std.specs.Prelude.{◌≡◌, ◌≢◌, ◌≤◌, ◌+◌, ℕ, true, false, List, [], ◌∷◌, ◌++◌, Some, None, IsSome}
use Rattle.std.specs.List.{All, Contains}
use Rattle.std.specs.List.Sorted.{IsStrictlySortedBy}
use Rattle.std.specs.Map.{keys_of}
use Rattle.std.specs.Ordering.{nat_cmp}
use Rattle.adr_objects.specs.declared.counts.OutboxCounts.{OutboxCounts}
use Rattle.adr_delivery.specs.declared.entry.Entry.{Entry}
use Rattle.adr_delivery.specs.Entries.{destination}
use Rattle.adr_delivery.specs.Outboxes.{counts_of, entry_at, has_addressee}
use Rattle.adr_state.specs.declared.limits.Limits.{Limits}
use Rattle.adr_state.specs.declared.limits.Settings.{Settings}
use Rattle.adr_state.specs.declared.state.State.{State}
use Rattle.adr_state.specs.States.{empty}
use Rattle.adr_machine.specs.declared.command.Command.{Command}
use Rattle.adr_machine.specs.Edits.{is_delivery}
use Rattle.adr_machine.specs.Runs.{step_at}
use Rattle.adr_laws.specs.Laws.{numbers_of}
use Rattle.adr_laws.specs.Standing.{state_of}

-- the state that a run from an empty start reaches
abbrev pub reached : Settings → List (ℕ × Command) → State
reached settings cs = state_of (step_at settings) empty cs

-- ---- how many there were

-- as many were made as were sent, given up and dropped, and wait
abbrev pub AddUp : OutboxCounts → Type 0
AddUp counts = counts.made ≡ ((counts.sent + counts.given_up) + counts.dropped) + counts.pending

-- so they are, and no more were made than numbers were drawn: so no count has stopped short
pub record AreCounted (s : State) : Type 0 where
  pub add_up : AddUp (counts_of s.outbox)
  pub each_has_a_number : s.outbox.counts.made ≤ s.base.serial

-- after any run from an empty start of a node with these limits, entries are so counted
abbrev pub EntriesAreCounted : Limits → Type 0
EntriesAreCounted limits = (client : List ℕ) (cs : List (ℕ × Command)) → AreCounted (reached (record { client = client; limits = limits }) cs)

-- ---- their numbers

-- those of all entries that wait
abbrev pub numbers_waiting : State → List ℕ
numbers_waiting s = keys_of s.outbox.entries

-- each was drawn, and they rise, so no two are one; and none is the number of a ven, a resource, a report or a subscription
pub record HaveDrawnNumbers (s : State) : Type 0 where
  pub at_least_one : All (λ n. 1 ≤ n) (numbers_waiting s)
  pub up_to_the_serial : All (λ n. n ≤ s.base.serial) (numbers_waiting s)
  pub they_rise : IsStrictlySortedBy nat_cmp (numbers_waiting s)
  pub of_nothing_else : All (λ m. All (λ n. m ≢ n) (numbers_of s.base)) (numbers_waiting s)

-- after any run from an empty start, the entries that wait have such numbers
abbrev pub EntriesHaveNumbers : Type 0
EntriesHaveNumbers = (settings : Settings) (cs : List (ℕ × Command)) → HaveDrawnNumbers (reached settings cs)

-- and whatever commands follow, none is drawn again: what waits then and has a number up to the serial waited with it before, so whatever a command makes has a greater one
abbrev pub EntriesAreNumberedOnce : Type 0
EntriesAreNumberedOnce = (settings : Settings) (cs more : List (ℕ × Command)) → All (λ n. n ≤ (reached settings cs).base.serial → Contains (numbers_waiting (reached settings cs)) n) (numbers_waiting (reached settings (cs ++ more)))

-- ---- the order in which they leave

-- an entry is the first of its destination: none of that with a smaller number waits
abbrev pub IsFirst : List (ℕ × Entry) → ℕ × Entry → Type 0
IsFirst entries e = All (λ other. destination other.1.addressee ≡ destination e.1.addressee → e.0 ≤ other.0) entries

-- after any run from an empty start, an entry that has a lease, be it one that has ended, is the first of its destination
abbrev pub LeasedAreFirst : Type 0
LeasedAreFirst = (settings : Settings) (cs : List (ℕ × Command)) → All (λ e. IsSome e.1.delivery.lease → IsFirst (reached settings cs).outbox.entries e) (reached settings cs).outbox.entries

-- an entry waits after a run from an empty start, and no longer after one more command
pub record Leaves (settings : Settings) (cs : List (ℕ × Command)) (c : ℕ × Command) (e : ℕ × Entry) : Type 0 where
  pub waited : entry_at e.0 (reached settings cs).outbox.entries ≡ Some e.1
  pub is_gone : entry_at e.0 (reached settings (cs ++ c ∷ [])).outbox.entries ≡ None

-- where that command is about an entry, so that this one was sent or given up, it was the first of its destination
abbrev pub EntriesLeaveInOrder : Type 0
EntriesLeaveInOrder = (settings : Settings) (cs : List (ℕ × Command)) (c : ℕ × Command) (e : ℕ × Entry) → is_delivery c.1 ≡ true → Leaves settings cs c e → IsFirst (reached settings cs).outbox.entries e

-- and where it is another one, the subscription that it goes to is not there after it
abbrev pub OthersLeaveWithTheirSubscription : Type 0
OthersLeaveWithTheirSubscription = (settings : Settings) (cs : List (ℕ × Command)) (c : ℕ × Command) (e : ℕ × Entry) → is_delivery c.1 ≡ false → Leaves settings cs c e → has_addressee (reached settings (cs ++ c ∷ [])).base.portfolio.subs e ≡ false
