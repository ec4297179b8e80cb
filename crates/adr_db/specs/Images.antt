-- What the tables keep, as a state.
use Rattle.std.specs.Prelude.{Option, None, Some, List, if◌then◌else◌}
use Rattle.adr_delivery.specs.declared.outbox.Outbox.{Outbox}
use Rattle.adr_state.specs.declared.base.Base.{Base}
use Rattle.adr_state.specs.declared.keys.MirrorKey.{MirrorKey}
use Rattle.adr_state.specs.declared.state.State.{State}
use Rattle.adr_db.specs.declared.meta.Meta.{Meta}
use Rattle.adr_db.specs.Kept.{Kept}

-- the keys that were polled, where these numbers say that a scan is open; none else
abbrev pub scan_of : Meta → Kept → Option (List MirrorKey)
scan_of numbers kept = if numbers.scan then Some kept.polled else None

-- the maps that are kept, as a base, with the serial and the scan of the numbers
abbrev pub base_of : Meta → Kept → Base
base_of numbers kept = record { mirror = kept.mirror; scan = scan_of numbers kept; portfolio = kept.portfolio; serial = numbers.serial }

-- the entries and the ids that are kept, as an outbox, with the counts of the numbers
abbrev pub outbox_of : Meta → Kept → Outbox
outbox_of numbers kept = record { entries = kept.entries; remotes = kept.remotes; counts = numbers.counts }

-- what is kept, as a state
abbrev pub image_kept : Kept → State
image_kept kept = record { base = base_of kept.meta kept; stamps = kept.stamps; outbox = outbox_of kept.meta kept }
