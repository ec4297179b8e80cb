-- Every row of the tables that keep the state is read.
use Rattle.std.specs.Prelude.{ℕ}
use Rattle.sqlite.specs.Order.{Row}
use Rattle.sqlite.specs.Store.{Ghosts}
use Rattle.sqlite.specs.Held.{Held, state}
use Rattle.sqlite.specs.State.{State}
use Rattle.adr_objects.specs.declared.report.UsageInterval.{UsageInterval}
use Rattle.adr_db.specs.Admitted.{ReadsNumber, ReadsMeta, ReadsEntry, ReadsKey, ReadsVenEntry, ReadsResourceEntry, ReadsShare, ReadsUsageInterval, ReadsReportEntry, ReadsSubEntry, ReadsId, ReadsFrozenShare, ReadsStamped, ReadsWaitingEntry, ReadsRemote}
use Rattle.adr_lent_image.specs.Gathered.{ReadsEach}
use Rattle.adr_lent_image.specs.Selected.{rows_of_meta, rows_of_marks, rows_of_polled, rows_of_vens, rows_of_resources, rows_of_shares, rows_of_intervals, rows_of_reports, rows_of_subs, rows_of_frozen, rows_of_frozen_shares, rows_of_stamps, rows_of_entries, rows_of_remotes}

-- an interval behind the number of its report
abbrev pub ReadsReportInterval : Row → ℕ × UsageInterval → Type 0
ReadsReportInterval row e = ReadsNumber row e.0 × ReadsUsageInterval row e.1

module _ {S : Type 0} (g : Ghosts S) where
  -- one is done, and then the other
  abbrev pub Then : (Held S → State → Type 0) → (Held S → State → Type 0) → Held S → State → Type 0
  Then First Second old new = (between : Held S) × First old (state g between) × Second between new

  -- vens, resources, shares, reports with their intervals, subscriptions, and what is frozen
  abbrev pub ReadsPortfolio : Held S → State → Type 0
  ReadsPortfolio =
      Then (ReadsEach g rows_of_vens ReadsVenEntry)
      (Then (ReadsEach g rows_of_resources ReadsResourceEntry)
      (Then (ReadsEach g rows_of_shares ReadsShare)
      (Then (ReadsEach g rows_of_intervals ReadsReportInterval)
      (Then (ReadsEach g rows_of_reports ReadsReportEntry)
      (Then (ReadsEach g rows_of_subs ReadsSubEntry)
      (Then (ReadsEach g rows_of_frozen ReadsId)
      (ReadsEach g rows_of_frozen_shares ReadsFrozenShare)))))))

  -- stamps, entries that wait, and the utility's ids
  abbrev pub ReadsOutbox : Held S → State → Type 0
  ReadsOutbox =
      Then (ReadsEach g rows_of_stamps ReadsStamped)
      (Then (ReadsEach g rows_of_entries ReadsWaitingEntry)
      (ReadsEach g rows_of_remotes ReadsRemote))

  -- each row that a query of a table shows reads as one of the node's, of each table that keeps the state, one after another
  abbrev pub ReadsTables : Held S → State → Type 0
  ReadsTables =
      Then (ReadsEach g rows_of_meta ReadsMeta)
      (Then (ReadsEach g rows_of_marks ReadsEntry)
      (Then (ReadsEach g rows_of_polled ReadsKey)
      (Then ReadsPortfolio
      ReadsOutbox)))
