-- The entry by which a roll-up is told.
use Rattle.std.specs.Prelude.{ℕ, List}
use Rattle.adr_objects.specs.declared.report.Rollup.{Rollup}
use Rattle.adr_view.specs.declared.changes.Operation.{Operation}
use Rattle.adr_delivery.specs.declared.entry.Entry.{Entry}
use Rattle.adr_delivery.specs.declared.addressee.Addressee.TheVariants.{Utility}
use Rattle.adr_delivery.specs.Entries.{fresh}
use Rattle.adr_written.specs.WrittenReports.{rollup_text}
use Rattle.adr_notices.specs.Notices.{operation_kind}

-- the entry to the utility that tells the roll-up of an upstream event, under the node's name
abbrev pub rollup_entry : List ℕ → Operation → List ℕ → Rollup → Entry
rollup_entry client operation event rollup =
    fresh (Utility event) (operation_kind operation) (rollup_text (record { client = client; event = event; rollup = rollup }))
