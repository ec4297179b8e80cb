-- Leases of entries: who has one, which entry a `Lease` gives, and what settles an entry.
use Rattle.std.specs.Prelude.{◌≡◌, ◌≢◌, ◌≤◌, ◌<◌, ◌+◌, ◌↔◌, ℕ, true, List, [], ◌∷◌, ◌++◌, Some, None, IsSome, Ok, Err, IsOk, IfOk, IfErr}
use Rattle.std.specs.List.{All, AllPairs}
use Rattle.adr_text.specs.declared.refusal.Refusal.TheVariants.{Exhausted, LeaseLost}
use Rattle.adr_delivery.specs.declared.delivery.Delivery.{Delivery}
use Rattle.adr_delivery.specs.declared.entry.Entry.{Entry}
use Rattle.adr_delivery.specs.declared.job.Job.{Job}
use Rattle.adr_delivery.specs.Deliveries.{is_leased, later}
use Rattle.adr_delivery.specs.Entries.{destination}
use Rattle.adr_delivery.specs.Jobs.{job_of}
use Rattle.adr_delivery.specs.Outboxes.{entry_at, with_delivery}
use Rattle.adr_state.specs.declared.limits.Settings.{Settings}
use Rattle.adr_state.specs.declared.state.State.{State}
use Rattle.adr_queries.specs.declared.answer.Answer.{Answer}
use Rattle.adr_queries.specs.declared.answer.Answer.TheVariants as answer
use Rattle.adr_machine.specs.declared.command.Command.{Command}
use Rattle.adr_machine.specs.declared.command.Command.TheVariants.{Lease, Sent, Failed}
use Rattle.adr_machine.specs.Runs.{state_after, step_at, told}
use Rattle.adr_laws.specs.Entries.{IsFirst, reached}
use Rattle.adr_outbox_laws.specs.Next.{IsTheNext, NoneMayGo}

-- ---- one lease each

-- an entry has a lease that lasts past a moment
abbrev pub HasPresentLease : ℕ → ℕ × Entry → Type 0
HasPresentLease now e = is_leased now e.1.delivery ≡ true

-- no two entries of one destination have leases that last past a moment, and one that has is the first of its destination
pub record AreLeasedOneEach (now : ℕ) (entries : List (ℕ × Entry)) : Type 0 where
  pub no_two_of_one_destination : AllPairs (λ a b. HasPresentLease now a → HasPresentLease now b → destination a.1.addressee ≢ destination b.1.addressee) entries
  pub each_is_first : All (λ e. HasPresentLease now e → IsFirst entries e) entries

-- so it is after any run from an empty start, at any moment
abbrev pub OneLeaseEach : Type 0
OneLeaseEach = (settings : Settings) (cs : List (ℕ × Command)) (now : ℕ) → AreLeasedOneEach now (reached settings cs).outbox.entries

-- ---- what a `Lease` gives

-- a delivery with one lease more, of 30 seconds from a moment on
abbrev pub leased_again : ℕ → Delivery → Delivery
leased_again now d = record d { leases = d.leases + 1; lease = Some (later now 30) }

-- the entry of a job was the next: it waited, was due, had no lease that lasts past the moment, and was the first of its destination. It waits then with one lease more, whose number the job names; the job is what is to be sent of it; and nothing else has changed
pub record IsGiven (now : ℕ) (before after : State) (job : Job) : Type 0 where
  pub entry : Entry
  pub was_the_next : IsTheNext now before.outbox.entries (job.entry, entry)
  pub waits_with_it : entry_at job.entry after.outbox.entries ≡ Some (with_delivery (leased_again now entry.delivery) entry)
  pub names_its_number : job.lease ≡ entry.delivery.leases + 1
  pub is_its_job : job ≡ job_of after.outbox (job.entry, with_delivery (leased_again now entry.delivery) entry)
  pub others_wait_as_before : (n : ℕ) → n ≢ job.entry → entry_at n after.outbox.entries ≡ entry_at n before.outbox.entries
  pub all_else_is_as_before : after ≡ record before { outbox = record before.outbox { entries = after.outbox.entries } }

-- a `Lease` is answered by the job of the next entry; or by none, where none may go, and then nothing has changed
abbrev pub Gives : ℕ → State → Answer → State → Type 0
Gives now before (answer.Job (Some job)) after = IsGiven now before after job
Gives now before (answer.Job None) after = NoneMayGo now before.outbox.entries × (after ≡ before)
Gives now before _ after = ⊥

-- so is each that is accepted after any run from an empty start
abbrev pub LeasedHadNoLease : Type 0
LeasedHadNoLease = (settings : Settings) (cs : List (ℕ × Command)) (now : ℕ) → IfOk (step_at settings (reached settings cs) (now, Lease)) (λ taken. Gives now (reached settings cs) taken.0 taken.1)

-- the next entry had as many leases as there may be numbers
pub record NextHadAllLeases (most now : ℕ) (entries : List (ℕ × Entry)) : Type 0 where
  pub next : ℕ × Entry
  pub is_the_next : IsTheNext now entries next
  pub had_all : most ≤ next.1.delivery.leases

-- and one is refused only with `Exhausted`, where the next entry had as many leases as there may be
abbrev pub LeaseIsRefusedAtTheLimit : Type 0
LeaseIsRefusedAtTheLimit = (settings : Settings) (cs : List (ℕ × Command)) (now : ℕ) → IfErr (step_at settings (reached settings cs) (now, Lease)) (λ refusal. (refusal ≡ Exhausted) × NextHadAllLeases settings.limits.serial now (reached settings cs).outbox.entries)

-- ---- what settles an entry

-- an entry waits under a number and has the lease of a number: the last one that was given of it, which no failure has taken back. That lease may have ended: it is taken as long as no other was given
pub record HasTheLease (entries : List (ℕ × Entry)) (n lease : ℕ) : Type 0 where
  pub entry : Entry
  pub waits : entry_at n entries ≡ Some entry
  pub has_a_lease : IsSome entry.delivery.lease
  pub is_of_that_number : entry.delivery.leases ≡ lease

-- a command that names an entry and a lease is accepted exactly where that entry has that lease; otherwise, where it has another or none or isn't there, it is refused with `LeaseLost`, and nothing has changed
pub record IsSettledByTheLease (settings : Settings) (s : State) (c : ℕ × Command) (n lease : ℕ) : Type 0 where
  pub accepted : IsOk (step_at settings s c) ↔ HasTheLease s.outbox.entries n lease
  pub refused : (step_at settings s c ≡ Err LeaseLost) ↔ (HasTheLease s.outbox.entries n lease → ⊥)
  pub refusal_leaves_all : step_at settings s c ≡ Err LeaseLost → state_after s (step_at settings s c) ≡ s

-- a command settles the entry of a number, under the lease of a number: it says that it was sent, or that it failed
abbrev pub Settles : ℕ → ℕ → Command → Type 0
Settles n lease (Sent entry its remote) = (entry ≡ n) × (its ≡ lease)
Settles n lease (Failed entry its forget) = (entry ≡ n) × (its ≡ lease)
Settles n lease _ = ⊥

-- whatever the state, so it is of each such command
abbrev pub SettledByItsLease : Type 0
SettledByItsLease = (settings : Settings) (s : State) (now n lease : ℕ) (command : Command) → Settles n lease command → IsSettledByTheLease settings s (now, command) n lease

-- ---- leases that were lost

-- after a run from an empty start a `Lease` at a moment gives a job
abbrev pub GivesJob : Settings → List (ℕ × Command) → ℕ → Job → Type 0
GivesJob settings cs now job = told (step_at settings (reached settings cs) (now, Lease)) ≡ Ok (answer.Job (Some job))

-- an entry was leased after a run, and leased again after more commands
pub record IsLeasedAgain (settings : Settings) (cs between : List (ℕ × Command)) (now later : ℕ) (one other : Job) : Type 0 where
  pub first_lease : GivesJob settings cs now one
  pub second_lease : GivesJob settings ((cs ++ (now, Lease) ∷ []) ++ between) later other
  pub same_entry : other.entry ≡ one.entry

-- the second lease has a greater number, so no two leases of an entry have one; and whatever commands follow, what names the first is refused with `LeaseLost`
pub record IsLostThen (settings : Settings) (cs between : List (ℕ × Command)) (now later : ℕ) (one other : Job) : Type 0 where
  pub is_greater : one.lease < other.lease
  pub is_refused : (more : List (ℕ × Command)) (moment : ℕ) (command : Command) → Settles one.entry one.lease command
      → step_at settings (reached settings (((cs ++ (now, Lease) ∷ []) ++ between) ++ (later, Lease) ∷ more)) (moment, command) ≡ Err LeaseLost

-- so it is after any run from an empty start
abbrev pub EarlierLeasesAreLost : Type 0
EarlierLeasesAreLost = (settings : Settings) (cs between : List (ℕ × Command)) (now later : ℕ) (one other : Job) → IsLeasedAgain settings cs between now later one other → IsLostThen settings cs between now later one other
