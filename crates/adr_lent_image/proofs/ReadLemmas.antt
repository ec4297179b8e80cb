-- How the rows of each table read: as what is kept alone.
use Rattle.std.proofs.Common.{◌≡◌, ◌∙◌, ℕ, suc, Some, List, [], ◌∷◌, ◌++◌, map, fold, refl, ap, ap₂}
use Rattle.std.specs.List.{flat_map}
use Rattle.adr_state.specs.Keys.{with_rows}
use Rattle.adr_db.proofs.Common.{AllZip, Row, State, insert_entry, id_cmp, Ghosts, Held, state, MirrorKey, Mark, Ven, Resource, ShareKey, ViewKey, Stamps, Sub, Report, cells, column}
use Rattle.adr_state.specs.declared.keys.FrozenKey.{FrozenKey}
use Rattle.adr_objects.specs.declared.report.UsageInterval.{UsageInterval}
use Rattle.adr_db.specs.ReadBack.{text_of}
use Rattle.adr_delivery.specs.declared.entry.Entry.{Entry}
use Rattle.adr_db.specs.declared.meta.Meta.{Meta}
use Rattle.adr_db.specs.declared.outbox.RemoteRow.{RemoteRow}
use Rattle.adr_db.specs.declared.report_columns.ReportColumns.{ReportColumns}
use Rattle.adr_db.specs.Admitted.{ReadsMeta, ReadsEntry, ReadsKey, ReadsVenEntry, ReadsResourceEntry, ReadsShare, ReadsId, ReadsFrozenShare, ReadsStamped, ReadsNumber, ReadsReportEntry, ReadsUsageInterval, ReadsSubEntry, ReadsRemote, ReadsWaitingEntry}
use Rattle.adr_db.specs.Kept.{Kept, Keeps}
use Rattle.adr_db.specs.Rows.{number, meta_row, value_rows, key_row, mark_row, ven_row, resource_row, share_row, event_key_row, frozen_share_row, stamp_row, report_columns_row, value_rows_from, sub_row, remote_row, entry_row}
use Rattle.adr_db.proofs.KeptMaps.{AreTexts, again, read_back}
use Rattle.adr_db.proofs.Maps.{frozen_map, remote_map}
use Rattle.adr_db.proofs.Marks.{entry_read}
use Rattle.adr_db.proofs.Reports.{columns_of}
use Rattle.adr_db.proofs.Rows.{meta_kept, key_kept, number_kept, ven_kept, resource_kept, share_key_kept, frozen_key_kept, view_key_kept, stamps_kept, report_columns_kept, interval_kept}
use Rattle.adr_db.proofs.Subs.{sub_entry_read}
use Rattle.adr_db.proofs.Waiting.{waiting_entry_read}
use Rattle.adr_lent.specs.Lent.{HasLent, Lends}
use Rattle.adr_lent.specs.Selections.{Selects}
use Rattle.adr_lent.proofs.Pages.{keeps_now}
use Rattle.adr_lent_image.specs.Gathered.{with_remote}
use Rattle.adr_lent_image.specs.Selected.{rows_of_meta, rows_of_marks, rows_of_polled, rows_of_vens, rows_of_resources, rows_of_shares, rows_of_frozen, rows_of_frozen_shares, rows_of_stamps, rows_of_reports, rows_of_intervals, rows_of_subs, rows_of_remotes, rows_of_entries}

-- the utility's id of a report, as it is read of its row
abbrev pub remote_of : List ℕ × List ℕ → RemoteRow
remote_of e = record { event = e.0; id = e.1 }

-- the ids of the events that are frozen
abbrev pub frozen_ids : Kept → List (List ℕ)
frozen_ids kept = map (λ e. e.0) kept.portfolio.frozen

-- those of all that are kept
abbrev pub remote_rows : Kept → List RemoteRow
remote_rows kept = map remote_of kept.remotes

module _ (kept : Kept) (are : AreTexts kept) where
  pub marks_back : (seen : List (MirrorKey × Mark)) → AllZip ReadsEntry (rows_of_marks kept) seen → seen ≡ kept.mirror
  marks_back seen = read_back ReadsEntry mark_row seen kept.mirror (entry_read kept.mirror are.0)

  pub polled_back : (seen : List MirrorKey) → AllZip ReadsKey (rows_of_polled kept) seen → seen ≡ kept.polled
  polled_back seen = read_back ReadsKey key_row seen kept.polled (λ j k has same. key_kept j k same)

  pub vens_back : (seen : List (ℕ × Ven)) → AllZip ReadsVenEntry (rows_of_vens kept) seen → seen ≡ kept.portfolio.vens
  vens_back seen = read_back ReadsVenEntry ven_row seen kept.portfolio.vens (λ d e has read. ap₂ (λ (n : ℕ) (ven : Ven). (n, ven)) (number_kept d.0 e.0 read.0) (ven_kept d.1 e.1 read.1))

  pub resources_back : (seen : List (ℕ × Resource)) → AllZip ReadsResourceEntry (rows_of_resources kept) seen → seen ≡ kept.portfolio.resources
  resources_back seen = read_back ReadsResourceEntry resource_row seen kept.portfolio.resources (λ d e has read. ap₂ (λ (n : ℕ) (resource : Resource). (n, resource)) (number_kept d.0 e.0 read.0) (resource_kept d.1 e.1 read.1))

  pub shares_back : (seen : List (ShareKey × ℕ)) → AllZip ReadsShare (rows_of_shares kept) seen → seen ≡ kept.portfolio.shares
  shares_back seen = read_back ReadsShare share_row seen kept.portfolio.shares (λ d e has read. ap₂ (λ (key : ShareKey) (weight : ℕ). (key, weight)) (share_key_kept d.0 e.0 read.0) (number_kept d.1 e.1 read.1))

  pub frozen_back : (seen : List (List ℕ)) → AllZip ReadsId (rows_of_frozen kept) seen → seen ≡ frozen_ids kept
  frozen_back seen read = by kept.portfolio.frozen seen read
    where
      by : (es : List (List ℕ × Unit {0})) (seen : List (List ℕ)) → AllZip ReadsId (map (λ e. event_key_row e.0) es) seen → seen ≡ map (λ e. e.0) es
      by [] [] read = refl
      by [] (id ∷ seen) read = absurd read
      by (e ∷ es) [] read = absurd read
      by (e ∷ es) (id ∷ seen) read = ap₂ ◌∷◌ (ap text_of read.0) (by es seen read.1)

  pub frozen_shares_back : (seen : List (FrozenKey × ℕ)) → AllZip ReadsFrozenShare (rows_of_frozen_shares kept) seen → seen ≡ kept.portfolio.frozen_shares
  frozen_shares_back seen = read_back ReadsFrozenShare frozen_share_row seen kept.portfolio.frozen_shares (λ d e has read. ap₂ (λ (key : FrozenKey) (weight : ℕ). (key, weight)) (frozen_key_kept d.0 e.0 read.0) (number_kept d.1 e.1 read.1))

  pub stamps_back : (seen : List (ViewKey × Stamps)) → AllZip ReadsStamped (rows_of_stamps kept) seen → seen ≡ kept.stamps
  stamps_back seen = read_back ReadsStamped stamp_row seen kept.stamps (λ d e has read. ap₂ (λ (key : ViewKey) (stamps : Stamps). (key, stamps)) (view_key_kept d.0 e.0 read.0) (stamps_kept d.1 e.1 read.1))

  pub subs_back : (seen : List (ℕ × Sub)) → AllZip ReadsSubEntry (rows_of_subs kept) seen → seen ≡ kept.portfolio.subs
  subs_back seen = read_back ReadsSubEntry sub_row seen kept.portfolio.subs (sub_entry_read kept.portfolio.subs are.1)

  pub entries_back : (seen : List (ℕ × Entry)) → AllZip ReadsWaitingEntry (rows_of_entries kept) seen → seen ≡ kept.entries
  entries_back seen = read_back ReadsWaitingEntry entry_row seen kept.entries (λ d e has read. waiting_entry_read d e read)

  pub remotes_back : (seen : List RemoteRow) → AllZip ReadsRemote (rows_of_remotes kept) seen → seen ≡ remote_rows kept
  remotes_back seen read = by kept.remotes seen read
    where
      by : (es : List (List ℕ × List ℕ)) (seen : List RemoteRow) → AllZip ReadsRemote (map remote_row es) seen → seen ≡ map remote_of es
      by [] [] read = refl
      by [] (row ∷ seen) read = absurd read
      by (e ∷ es) [] read = absurd read
      by (e ∷ es) (row ∷ seen) read = ap₂ ◌∷◌ (λ i. record { event = text_of (column (read.0 i) 0); id = text_of (column (read.0 i) 1) }) (by es seen read.1)

  -- ---- reports by their columns, and intervals behind the numbers of their reports

  pub reports_back : (seen : List (ℕ × ReportColumns)) → AllZip ReadsReportEntry (rows_of_reports kept) seen → seen ≡ map columns_of kept.portfolio.reports
  reports_back seen read = by kept.portfolio.reports seen read
    where
      by : (rs : List (ℕ × Report)) (seen : List (ℕ × ReportColumns)) → AllZip ReadsReportEntry (map (λ r. number r.0 ∷ report_columns_row (columns_of r).1) rs) seen → seen ≡ map columns_of rs
      by [] [] read = refl
      by [] (e ∷ seen) read = absurd read
      by (r ∷ rs) [] read = absurd read
      by (r ∷ rs) (e ∷ seen) read = ap₂ ◌∷◌ (ap₂ (λ (n : ℕ) (columns : ReportColumns). (n, columns)) (number_kept e.0 r.0 read.0.0) (report_columns_kept e.1 (columns_of r).1 read.0.1)) (by rs seen read.1)

-- those rows make the map of the ids again
pub remotes_again : (kept : Kept) (s : State) → Keeps kept s → fold with_remote [] (remote_rows kept) ≡ kept.remotes
remotes_again kept s was = by [] kept.remotes ∙ again remote_map kept s was
  where
    by : (table es : List (List ℕ × List ℕ)) → fold with_remote table (map remote_of es) ≡ with_rows id_cmp table es
    by table [] = refl
    by table (e ∷ es) = by (insert_entry id_cmp table e.0 e.1) es

-- the ids make the set of the events again
pub frozen_again : (kept : Kept) (s : State) → Keeps kept s → fold (λ events id. insert_entry id_cmp events id tt) [] (frozen_ids kept) ≡ kept.portfolio.frozen
frozen_again kept s was = by [] kept.portfolio.frozen ∙ again frozen_map kept s was
  where
    by : (table es : List (List ℕ × Unit {0})) → fold (λ events id. insert_entry id_cmp events id tt) table (map (λ e. e.0) es) ≡ with_rows id_cmp table es
    by table [] = refl
    by table (e ∷ es) = by (insert_entry id_cmp table e.0 tt) es

-- an interval behind the number of its report
abbrev pub IntervalEntry : Type 0
IntervalEntry = ℕ × UsageInterval

-- those of a report
abbrev pub entries_of : ℕ × Report → List IntervalEntry
entries_of r = map (λ interval. (r.0, interval)) r.1.body.intervals

-- the row reads as this interval behind the number of its report
abbrev pub ReadsInterval : Row → IntervalEntry → Type 0
ReadsInterval row e = ReadsNumber row e.0 × ReadsUsageInterval row e.1

-- those of one report, and then of others
some_back : (n place : ℕ) (intervals : List UsageInterval) (more : List Row) (others : List IntervalEntry) → ((seen : List IntervalEntry) → AllZip ReadsInterval more seen → seen ≡ others) → (seen : List IntervalEntry)
    → AllZip ReadsInterval (value_rows_from n place intervals ++ more) seen → seen ≡ map (λ interval. (n, interval)) intervals ++ others
some_back n place [] more others then seen read = then seen read
some_back n place (interval ∷ intervals) more others then [] read = absurd read
some_back n place (interval ∷ intervals) more others then (e ∷ seen) read =
    ap₂ ◌∷◌ (ap₂ (λ (n : ℕ) (interval : UsageInterval). (n, interval)) (number_kept e.0 n read.0.0) (interval_kept e.1 interval read.0.1)) (some_back n (suc place) intervals more others then seen read.1)

pub intervals_back : (kept : Kept) → AreTexts kept → (seen : List IntervalEntry) → AllZip ReadsInterval (rows_of_intervals kept) seen → seen ≡ flat_map entries_of kept.portfolio.reports
intervals_back kept are seen read = by kept.portfolio.reports seen read
  where
    by : (rs : List (ℕ × Report)) (seen : List IntervalEntry) → AllZip ReadsInterval (flat_map value_rows rs) seen → seen ≡ flat_map entries_of rs
    by [] [] read = refl
    by [] (e ∷ seen) read = absurd read
    by (r ∷ rs) seen read = some_back r.0 0 r.1.body.intervals (flat_map value_rows rs) (flat_map entries_of rs) (by rs) seen read

-- ---- the one row of the numbers of the node

module _ {S : Type 0} (g : Ghosts S) (old begun now : Held S) (meta : Meta) {sql : List ℕ} {params : Row} where
  pub meta_found : HasLent g sql params old begun [] → Selects g sql params rows_of_meta old → Lends g ReadsMeta begun now (Some meta) → (kept : Kept) → Keeps kept (state g old) → (meta ≡ kept.meta) × Keeps kept (state g now)
  meta_found first selects lends kept was =
      let it = lends sql params old [] first in
      let all = selects.begins kept was now (it.0 ∷ []) it.2 in
      let row : it.0 ≡ meta_row kept.meta = by all.0 all.1 in
      (meta_kept meta kept.meta (it.1 ∙ ap (cells 0 16) row), keeps_now kept (state g old) (state g now) it.2.same.0.now_is was)
    where
      by : {row wanted : Row} (rest : List Row) → row ∷ rest ≡ wanted ∷ [] → row ≡ wanted
      by rest is = cc
