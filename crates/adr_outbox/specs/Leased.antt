-- What a lease makes of one entry in the tables.
use Rattle.std.specs.Prelude.{◌≡◌, ℕ, Result, Ok, IfOk}
use Rattle.sqlite.specs.Store.{Ghosts}
use Rattle.sqlite.specs.Held.{Held, state}
use Rattle.sqlite.specs.State.{State, HasCleanDisk}
use Rattle.adr_delivery.specs.declared.delivery.Delivery.{Delivery}
use Rattle.adr_delivery.specs.declared.entry.Entry.{Entry}
use Rattle.adr_delivery.specs.declared.job.Job.{Job}
use Rattle.adr_delivery.specs.Deliveries.{leased}
use Rattle.adr_delivery.specs.Jobs.{job_for}
use Rattle.adr_delivery.specs.Outboxes.{with_delivery, remote_for}
use Rattle.adr_db.specs.declared.meta.Meta.{Meta}
use Rattle.adr_db.specs.Kept.{Kept, Keeps, with_waiting}
use Rattle.adr_db.specs.Images.{outbox_of}

-- the entry at a number waits with one lease more, and the job is what is to be sent of it
pub record IsLeased (most now n : ℕ) (e : Entry) (kept : Kept) (job : Job) (s : State) : Type 0 where
  pub delivery : Delivery
  pub decided : leased most now e.delivery ≡ Ok delivery
  pub told : (numbers : Meta) → job ≡ job_for (remote_for e.addressee (outbox_of numbers kept)) (n, with_delivery delivery e)
  pub keeps : Keeps (with_waiting n (with_delivery delivery e) kept) s

-- after Ok it is so of what the tables kept
abbrev pub LeasesEntry : {S E : Type 0} → Ghosts S → Held S → Held S → ℕ → ℕ → ℕ → Entry → Result Job E → Type 0
LeasesEntry g old new most now n e result = HasCleanDisk (state g new) → IfOk result (λ job. (kept : Kept) → Keeps kept (state g old) → IsLeased most now n e kept job (state g new))
