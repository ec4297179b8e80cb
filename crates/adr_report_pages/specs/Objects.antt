-- A report of its columns, as an object that is told.
use Rattle.std.specs.Prelude.{List, Option, option_and_then}
use Rattle.adr_objects.specs.declared.report.UsageInterval.{UsageInterval}
use Rattle.adr_objects.specs.declared.shown.Stamps.{Stamps}
use Rattle.adr_state.specs.declared.keys.ViewKey.TheVariants as key
use Rattle.adr_state.specs.Keys.{view_cmp, at}
use Rattle.adr_view.specs.declared.view.Content.TheVariants as content
use Rattle.adr_queries.specs.declared.answer.Object.{Object}
use Rattle.adr_queries.specs.Shown.{object_of}
use Rattle.adr_db.specs.Kept.{Kept, intervals_of, whole_report}
use Rattle.adr_report_pages.specs.Columns.{Entry}

-- a report of its columns, with these intervals and these stamps; where there are no stamps, none
abbrev pub object_with : Entry → List UsageInterval → Option Stamps → Option Object
object_with e intervals stamps = option_and_then (object_of (key.Report e.0) (content.Report (whole_report e.1 intervals).body)) stamps

-- so with those that are kept for its number
abbrev pub object_kept : Kept → Entry → Option Object
object_kept kept e = object_with e (intervals_of e.0 kept) (at view_cmp (key.Report e.0) kept.stamps)
