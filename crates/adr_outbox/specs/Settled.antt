-- Which entry is settled, and what a failed delivery makes of what is kept, and of the numbers.
use Rattle.std.specs.Prelude.{ℕ, ◌-◌, Option, is_some, Result, Ok, Err, if◌then◌else◌}
use Rattle.std.specs.Option.{option_map_or}
use Rattle.adr_text.specs.Refusals.{◌>>=◌, or_else}
use Rattle.adr_text.specs.declared.refusal.Refusal.{Refusal}
use Rattle.adr_text.specs.declared.refusal.Refusal.TheVariants.{LeaseLost}
use Rattle.adr_delivery.specs.declared.entry.Entry.{Entry}
use Rattle.adr_delivery.specs.Deliveries.{has_lease, after_failure}
use Rattle.adr_delivery.specs.Outboxes.{with_delivery}
use Rattle.adr_delivery.specs.Tallies.{plus}
use Rattle.adr_db.specs.declared.meta.Meta.{Meta}
use Rattle.adr_db.specs.Kept.{Kept, with_waiting, without_waiting}

-- the entry that was found at a number, where it has the lease of a number, which may have ended; else 13
abbrev pub with_lease : ℕ → Option Entry → Result Entry Refusal
with_lease lease found = or_else LeaseLost found >>= λ e. if has_lease lease e.delivery then Ok e else Err LeaseLost

-- the entry of a number waits for its next time, or leaves
abbrev pub after_failed : ℕ → ℕ → Entry → Kept → Kept
after_failed now n e kept = option_map_or (λ d. with_waiting n (with_delivery d e) kept) (after_failure now e.delivery) (without_waiting n kept)

-- one that leaves counts as given up, and one entry fewer waits
abbrev pub given_up : Meta → Meta
given_up numbers = record numbers { counts = record numbers.counts { given_up = plus numbers.counts.given_up 1 }; pending = numbers.pending - 1 }

-- the numbers after a failure: an entry that leaves counts as given up, and one that waits on changes nothing
abbrev pub counted_failed : ℕ → Entry → Meta → Meta
counted_failed now e numbers = if is_some (after_failure now e.delivery) then numbers else given_up numbers
