-- How the program of tests tells a change, of whatever type: by one entry to the utility.
use Rattle.std.specs.Prelude.{ℕ, List, [], ◌∷◌}
use Rattle.adr_subscription.specs.declared.kept_sub.Sub.{Sub}
use Rattle.adr_delivery.specs.declared.addressee.Addressee.TheVariants.{Utility}
use Rattle.adr_delivery.specs.declared.entry.Entry.{Entry}
use Rattle.adr_delivery.specs.Entries.{fresh}
use Rattle.adr_subscription.specs.declared.words.OperationKind.TheVariants.{Post}
use Rattle.upkeep_rows.specs.declared.visited.Once.{Once}

-- one entry, of an empty body, whatever the subscriptions
abbrev pub told_once : {C : Type 0} → Once → List (ℕ × Sub) → List ℕ → C → List Entry
told_once teller subs event change = fresh (Utility event) Post [] ∷ []
