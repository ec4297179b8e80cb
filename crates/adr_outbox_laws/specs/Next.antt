-- Which entry leaves next, in the words of an outbox: what is due, what is leased and what waits before it.
use Rattle.std.specs.Prelude.{◌≡◌, ◌≤◌, ◌↔◌, ℕ, List, Some, None, IfSome}
use Rattle.std.specs.List.{Contains}
use Rattle.std.specs.List.Sorted.{IsStrictlySortedBy}
use Rattle.std.specs.Map.{keys_of}
use Rattle.std.specs.Ordering.{nat_cmp}
use Rattle.adr_delivery.specs.declared.entry.Entry.{Entry}
use Rattle.adr_delivery.specs.Next.{next_entry}
use Rattle.adr_state.specs.declared.limits.Settings.{Settings}
use Rattle.adr_machine.specs.declared.command.Command.{Command}
use Rattle.adr_laws.specs.Entries.{IsFirst, reached}

-- an entry may go at a moment: it waits, it is due by then, a lease that it has, if any, has ended by then, and no entry with a smaller number waits for its destination
pub record MayGo (now : ℕ) (entries : List (ℕ × Entry)) (e : ℕ × Entry) : Type 0 where
  pub waits : Contains entries e
  pub is_due : e.1.delivery.due ≤ now
  pub no_lease_lasts : IfSome e.1.delivery.lease (λ until. until ≤ now)
  pub is_first : IsFirst entries e

-- it is the next: it may go, and none that may go has a smaller number
pub record IsTheNext (now : ℕ) (entries : List (ℕ × Entry)) (e : ℕ × Entry) : Type 0 where
  pub may_go : MayGo now entries e
  pub is_least : (other : ℕ × Entry) → MayGo now entries other → e.0 ≤ other.0

-- no entry may go
abbrev pub NoneMayGo : ℕ → List (ℕ × Entry) → Type 0
NoneMayGo now entries = (e : ℕ × Entry) → MayGo now entries e → ⊥

-- what is computed is an entry exactly where that one is the next, and none exactly where none may go
pub record NextIsComputed (now : ℕ) (entries : List (ℕ × Entry)) : Type 0 where
  pub one : (e : ℕ × Entry) → (next_entry now entries ≡ Some e) ↔ IsTheNext now entries e
  pub none : (next_entry now entries ≡ None) ↔ NoneMayGo now entries

-- so it is of entries whose numbers rise
abbrev pub NextIsFirst : Type 0
NextIsFirst = (now : ℕ) (entries : List (ℕ × Entry)) → IsStrictlySortedBy nat_cmp (keys_of entries) → NextIsComputed now entries

-- and after any run from an empty start, at any moment
abbrev pub NextIsFirstAfterRuns : Type 0
NextIsFirstAfterRuns = (settings : Settings) (cs : List (ℕ × Command)) (now : ℕ) → NextIsComputed now (reached settings cs).outbox.entries
