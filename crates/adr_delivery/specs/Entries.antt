-- Entries of the outbox, and where they go.
use Rattle.std.specs.Prelude.{ℕ, List, Option, Some, None}
use Rattle.adr_subscription.specs.declared.words.OperationKind.{OperationKind}
use Rattle.adr_delivery.specs.declared.addressee.Addressee.{Addressee}
use Rattle.adr_delivery.specs.declared.addressee.Addressee.TheVariants.{Utility, Subscriber}
use Rattle.adr_delivery.specs.declared.entry.Entry.{Entry}
use Rattle.adr_delivery.specs.Deliveries.{untried}

-- a destination: the number of the subscription, and 0 for the utility
abbrev pub destination : Addressee → ℕ
destination (Utility event) = 0
destination (Subscriber subscription address token) = subscription

-- the upstream event, where it goes to the utility
abbrev pub event_of : Addressee → Option (List ℕ)
event_of (Utility event) = Some event
event_of (Subscriber subscription address token) = None

-- an entry that was not tried yet
abbrev pub fresh : Addressee → OperationKind → List ℕ → Entry
fresh addressee operation body = record { addressee = addressee; operation = operation; body = body; delivery = untried }
