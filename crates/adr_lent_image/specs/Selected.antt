-- The rows of each table, in the order of its key.
use Rattle.std.specs.Prelude.{List, [], ◌∷◌, map}
use Rattle.std.specs.List.{flat_map}
use Rattle.sqlite.specs.Order.{Row}
use Rattle.adr_db.specs.Kept.{Kept}
use Rattle.adr_db.specs.Rows.{meta_row, mark_row, key_row, resource_row, share_row, event_key_row, frozen_share_row, stamp_row, value_rows, remote_row, entry_row}
pub use Rattle.adr_lent.specs.Whole.{rows_of_vens, rows_of_subs, rows_of_reports}

-- the one row of the numbers of the node
abbrev pub rows_of_meta : Kept → List Row
rows_of_meta kept = meta_row kept.meta ∷ []

-- those of what is known of upstream keys
abbrev pub rows_of_marks : Kept → List Row
rows_of_marks kept = map mark_row kept.mirror

-- those of the keys that were polled
abbrev pub rows_of_polled : Kept → List Row
rows_of_polled kept = map key_row kept.polled

-- those of the resources
abbrev pub rows_of_resources : Kept → List Row
rows_of_resources kept = map resource_row kept.portfolio.resources

-- those of the shares
abbrev pub rows_of_shares : Kept → List Row
rows_of_shares kept = map share_row kept.portfolio.shares

-- those of the events that are frozen
abbrev pub rows_of_frozen : Kept → List Row
rows_of_frozen kept = map (λ e. event_key_row e.0) kept.portfolio.frozen

-- those of the shares that are kept for them
abbrev pub rows_of_frozen_shares : Kept → List Row
rows_of_frozen_shares kept = map frozen_share_row kept.portfolio.frozen_shares

-- those of the stamps of what is shown
abbrev pub rows_of_stamps : Kept → List Row
rows_of_stamps kept = map stamp_row kept.stamps

-- those of the intervals of all reports, by the numbers of the reports and then by their places
abbrev pub rows_of_intervals : Kept → List Row
rows_of_intervals kept = flat_map value_rows kept.portfolio.reports

-- those of the utility's ids of reports
abbrev pub rows_of_remotes : Kept → List Row
rows_of_remotes kept = map remote_row kept.remotes

-- those of the entries that wait
abbrev pub rows_of_entries : Kept → List Row
rows_of_entries kept = map entry_row kept.entries
