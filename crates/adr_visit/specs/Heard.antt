-- Changes that are told to the subscriptions that were read as to all that there are.
use Rattle.std.specs.Prelude.{◌≡◌, ℕ, List, filter}
use Rattle.adr_subscription.specs.declared.kept_sub.Sub.{Sub}
use Rattle.adr_delivery.specs.declared.entry.Entry.{Entry}
use Rattle.adr_listeners.specs.declared.listeners.Listeners.{Listeners}
use Rattle.adr_listeners.specs.Listeners.{was_read}

-- by the subscriptions that were read a change is told as by all, whatever item it is of
abbrev pub IsHeard : {I C : Type 0} → (List (ℕ × Sub) → I → C → List Entry) → Listeners → C → Type 0
IsHeard {I} told those c = (subs : List (ℕ × Sub)) (item : I) → told subs item c ≡ told (filter (λ s. was_read those s.1) subs) item c
