-- The subscriptions that were read, and those that there are.
use Rattle.std.specs.Prelude.{◌≡◌, ◌||◌, ◌==◌, Bool, filter, Result, OnOk}
use Rattle.std.specs.List.{list_any}
use Rattle.std.specs.Option.{option_map_or}
use Rattle.sqlite.specs.Store.{Ghosts}
use Rattle.sqlite.specs.Held.{Held, state}
use Rattle.sqlite.specs.State.{HasCleanDisk}
use Rattle.adr_subscription.specs.declared.kept_sub.Sub.{Sub}
use Rattle.adr_db.specs.Kept.{Kept, Keeps}
use Rattle.adr_listeners.specs.declared.listeners.Listeners.{Listeners}

-- whether a subscription was read
abbrev pub was_read : Listeners → Sub → Bool
was_read those sub = those.all || option_map_or (λ owner. list_any (λ ven. owner == ven) those.vens) sub.owner those.operator

-- those that were read are those of them that are kept
abbrev pub AreThose : Kept → Listeners → Type 0
AreThose kept those = those.subs ≡ filter (λ s. was_read those s.1) kept.portfolio.subs

-- after Ok, where they were right, they are right, and the tables keep what they kept
abbrev pub FindsThose : {S T E : Type 0} → Ghosts S → Held S → Held S → Listeners → Listeners → Result T E → Type 0
FindsThose g old new before after result =
    HasCleanDisk (state g new) → OnOk result ((kept : Kept) → Keeps kept (state g old) → AreThose kept before → AreThose kept after × Keeps kept (state g new))

-- these more were read, and no others
abbrev pub ReadsMore : (Sub → Bool) → Listeners → Listeners → Type 0
ReadsMore more before after = (sub : Sub) → was_read after sub ≡ (was_read before sub || more sub)
