-- How many entries there were, and what became of them.
use Rattle.adr_delivery.specs.declared.outbox.EntryCounts.{EntryCounts}

-- before the first entry: each count is 0
abbrev pub no_counts : EntryCounts
no_counts = record { made = 0; sent = 0; given_up = 0; dropped = 0 }
