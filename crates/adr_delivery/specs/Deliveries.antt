-- When an entry may leave, and what a lease and a failure make of its delivery.
use Rattle.std.specs.Prelude.{ℕ, ◌+◌, ◌*◌, ◌==◌, min, nat_le, nat_lt, Bool, false, not, ◌&&◌, Option, Some, None, is_some, option_map, Result, Ok, Err, if◌then◌else◌}
use Rattle.std.specs.Option.{option_map_or}
use Rattle.adr_text.specs.Moments.{last_nanos}
use Rattle.adr_text.specs.declared.refusal.Refusal.{Refusal}
use Rattle.adr_text.specs.declared.refusal.Refusal.TheVariants.{Exhausted}
use Rattle.adr_delivery.specs.Failing.{one_more, wait_after}
use Rattle.adr_delivery.specs.declared.delivery.Delivery.{Delivery}

-- a moment so many seconds later, or the last one
abbrev pub later : ℕ → ℕ → ℕ
later now seconds = min (now + seconds * 1_000_000_000) last_nanos

-- nothing was tried, and it is due from the first moment on
abbrev pub untried : Delivery
untried = record { failures = 0; leases = 0; lease = None; due = 0 }

-- whether a lease of it lasts past a moment
abbrev pub is_leased : ℕ → Delivery → Bool
is_leased now d = option_map_or (λ until. nat_lt now until) d.lease false

-- whether it is due, and no lease of it lasts
abbrev pub may_leave : ℕ → Delivery → Bool
may_leave now d = nat_le d.due now && not (is_leased now d)

-- with one more lease, of 30 seconds; 4 where that would be more than there may be
abbrev pub leased : ℕ → ℕ → Delivery → Result Delivery Refusal
leased most now d = if nat_le most d.leases then Err Exhausted else Ok (record d { leases = d.leases + 1; lease = Some (later now 30) })

-- whether it has the lease of a number, which may have ended
abbrev pub has_lease : ℕ → Delivery → Bool
has_lease n d = is_some d.lease && d.leases == n

-- after a failure, unless that gives it up: no lease, and due after a wait
abbrev pub after_failure : ℕ → Delivery → Option Delivery
after_failure now d = option_map (λ failures. record { failures = failures; leases = d.leases; lease = None; due = later now (wait_after d.failures) }) (one_more d.failures)
