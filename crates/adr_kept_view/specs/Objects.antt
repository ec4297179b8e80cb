-- Programs and reports as they are refreshed: what stood at a key before a command is handed in, and what stands there now is
-- read.
use Rattle.std.specs.Prelude.{◌≡◌, ℕ, List, map, Option, None, Some, option_map, option_and_then}
use Rattle.std.specs.Option.{option_to_list}
use Rattle.std.specs.Ordering.{nat_cmp}
use Rattle.adr_objects.specs.declared.body.Body.TheVariants as body
use Rattle.adr_objects.specs.declared.kind.Kind.TheVariants as kind
use Rattle.adr_objects.specs.declared.shown.Stamps.{Stamps}
use Rattle.adr_state.specs.declared.base.Base.{Base}
use Rattle.adr_state.specs.declared.base.Mark.{Mark}
use Rattle.adr_state.specs.declared.base.Mark.TheVariants.{Live}
use Rattle.adr_state.specs.declared.portfolio.Portfolio.{Portfolio}
use Rattle.adr_state.specs.declared.keys.ViewKey.{ViewKey}
use Rattle.adr_state.specs.declared.keys.ViewKey.TheVariants as key
use Rattle.adr_state.specs.Keys.{mirror_cmp, view_cmp, at}
use Rattle.adr_view.specs.declared.changes.Operation.{Operation}
use Rattle.adr_view.specs.declared.view.Content.{Content}
use Rattle.adr_view.specs.declared.view.Content.TheVariants as content
use Rattle.adr_view.specs.Changes.{changes, restamped}
use Rattle.adr_db.specs.Kept.{Kept}
use Rattle.adr_refresh.specs.Refresh.{Books, as_row}
use Rattle.adr_refresh.specs.Sources.{source_of, rows_of}
use Rattle.adr_db.specs.Bases.{Beside}
use Rattle.adr_kept_view.specs.declared.object.ObjectChange.{ObjectChange}
use Rattle.adr_kept_view.specs.declared.object.ObjectKey.{ObjectKey}
use Rattle.adr_kept_view.specs.declared.object.ObjectKey.TheVariants as object
use Rattle.adr_kept_view.specs.declared.object.OldObject.{OldObject}
use Rattle.adr_kept_view.specs.Refreshed.{judged_in, Sides, Part}
use Rattle.adr_kept_view.specs.Rollups.{set_at}

-- the key in the view
abbrev pub view_key : ObjectKey → ViewKey
view_key (object.Program id) = key.Program id
view_key (object.Report n) = key.Report n

-- what is shown there
abbrev pub shown_at : Base → ViewKey → Option Content
shown_at base k = at view_cmp k (rows_of base (source_of k))

-- the ven that owns the resource of a report, where the resource is there; other contents are of none
abbrev pub ven_of : Portfolio → Content → Option ℕ
ven_of p (content.Report body) = option_map (λ r. r.ven) (at nat_cmp body.head.resource p.resources)
ven_of p _ = None

-- what stood there, and whose it was, is so in a base
pub record StoodIn (base : Base) (old : OldObject) : Type 0 where
  pub shown : shown_at base (view_key old.key) ≡ old.content
  pub owned : option_and_then (ven_of base.portfolio) old.content ≡ old.ven

-- a change is of what stands at its key, or stood there where it goes, with its stamps, and of the ven that owns that
pub record IsObjectTold (sides : Sides) (books : Books) (old : OldObject) (c : ObjectChange) : Type 0 where
  pub shown : judged_in c.operation old.content (shown_at sides.after (view_key old.key)) ≡ Some c.content
  pub stamped : at view_cmp (view_key old.key) (judged_in c.operation sides.stamps books.stamps) ≡ Some c.stamps
  pub owned : judged_in c.operation (ven_of sides.before.portfolio c.content) (ven_of sides.after.portfolio c.content) ≡ c.ven

-- as a row of what is told
abbrev pub object_told : OldObject → ObjectChange → ViewKey × Operation
object_told old c = (view_key old.key, c.operation)

-- programs and reports, as they stood
abbrev pub as_object : Part OldObject ObjectChange
as_object = record { source = λ old. source_of (view_key old.key); row = object_told; IsRight = IsObjectTold; WasSo = StoodIn }

-- ---- at one key

-- the rows of a map that has this at a key, or nothing
abbrev pub row_at : {V : Type 0} → ViewKey → Option V → List (ViewKey × V)
row_at k o = option_to_list (option_map (λ v. (k, v)) o)

-- the stamps of a key, by those before, and what was shown there and is
abbrev pub restamped_at : ViewKey → Option Stamps → Option Content → Option Content → ℕ → Option Stamps
restamped_at k stamps old new now = at view_cmp k (restamped (row_at k stamps) (row_at k old) (row_at k new) now)

-- what stands beside a base, with the stamps of such a key as they are then
abbrev pub with_object : Beside → Base → ℕ → OldObject → Beside
with_object beside base now old =
    record beside { stamps = set_at view_cmp (view_key old.key) (restamped_at (view_key old.key) (at view_cmp (view_key old.key) beside.stamps) old.content (shown_at base (view_key old.key)) now) beside.stamps }

-- what differs there is told by this, or by nothing
abbrev pub TellsAt : OldObject → Option Content → Option ObjectChange → Type 0
TellsAt old new change = option_to_list (option_map (object_told old) change) ≡ map as_row (changes (row_at (view_key old.key) old.content) (row_at (view_key old.key) new))

-- a change of what stood there with these stamps, and is this now
pub record IsChangeOf (p : Portfolio) (now : ℕ) (stamps : Option Stamps) (old : OldObject) (new : Option Content) (c : ObjectChange) : Type 0 where
  pub shown : judged_in c.operation old.content new ≡ Some c.content
  pub stamped : judged_in c.operation stamps (restamped_at (view_key old.key) stamps old.content new now) ≡ Some c.stamps
  pub owned : judged_in c.operation old.ven (ven_of p c.content) ≡ c.ven

-- ---- what is kept

-- what is shown of a program by what is known of it
abbrev pub program_content : Option Mark → Option Content
program_content (Some (Live moment (body.Program name))) = Some (content.Program name)
program_content _ = None

-- what is shown there, by what tables keep
abbrev pub content_kept : ObjectKey → Kept → Option Content
content_kept (object.Program id) kept = program_content (at mirror_cmp (record { kind = kind.Program; id = id }) kept.mirror)
content_kept (object.Report n) kept = option_map (λ r. content.Report r.body) (at nat_cmp n kept.portfolio.reports)

-- what is kept, with these stamps at a key, or none
abbrev pub with_stamps_at : ViewKey → Option Stamps → Kept → Kept
with_stamps_at k stamps kept = record kept { stamps = set_at view_cmp k stamps kept.stamps }
