-- What is told of the changes that a refresh answers: each has all that telling it needs.
use Rattle.std.specs.Prelude.{ℕ, List, [], ◌∷◌, Option, None, Some}
use Rattle.adr_objects.specs.declared.shown.Stamps.{Stamps}
use Rattle.adr_subscription.specs.declared.kept_sub.Sub.{Sub}
use Rattle.adr_subscription.specs.declared.words.ObjectKind.TheVariants as kind
use Rattle.adr_subscription.specs.declared.words.OperationKind.{OperationKind}
use Rattle.adr_view.specs.declared.view.Content.{Content}
use Rattle.adr_view.specs.declared.view.Content.TheVariants as content
use Rattle.adr_written.specs.WrittenNotices.{report_notice_text}
use Rattle.adr_event_text.specs.Kept.{kept_as, kept_notice_text}
use Rattle.adr_delivery.specs.declared.entry.Entry.{Entry}
use Rattle.adr_notices.specs.declared.notice.Notice.{Notice}
use Rattle.adr_notices.specs.Matching.{entries_of}
use Rattle.adr_notices.specs.Made.{entries_noticed}
use Rattle.adr_notices.specs.Notices.{operation_kind, program_notice}
use Rattle.adr_notices.specs.RollupEntries.{rollup_entry}
use Rattle.adr_kept_view.specs.declared.change.RollupChange.{RollupChange}
use Rattle.adr_kept_view.specs.declared.change.ShownChange.{ShownChange}
use Rattle.adr_kept_view.specs.declared.object.ObjectChange.{ObjectChange}
use Rattle.adr_kept_view.specs.declared.object.ObjectKey.{ObjectKey}
use Rattle.adr_kept_view.specs.declared.object.ObjectKey.TheVariants as object
use Rattle.adr_kept_view.specs.declared.object.OldObject.{OldObject}

-- what is told of a change of what a resource is shown of an event
abbrev pub shown_notice : List ℕ → ShownChange → Notice
shown_notice id c = record {
  kind = kind.Event;
  operation = operation_kind c.operation;
  program = c.shown.program;
  ven = Some c.ven;
  names = Some (record { ven_name = c.shown.ven_name; resource_name = c.shown.resource_name });
  body = kept_notice_text (operation_kind c.operation) (kept_as c.resource id c.shown c.stamps);
}

-- its entries: one for each of these subscriptions that matches
abbrev pub shown_entries : List (ℕ × Sub) → List ℕ → ShownChange → List Entry
shown_entries subs id c = entries_of subs (shown_notice id c)

-- the entry of a change of the roll-up of an event, which the utility is told
abbrev pub rollup_entries : List ℕ → List ℕ → RollupChange → List Entry
rollup_entries client id c = rollup_entry client c.operation id c.rollup ∷ []

-- what is told of what stands at the key of a program or of a report, or stood there, of that ven; nothing of other contents
abbrev pub noticed : ObjectKey → OperationKind → Option ℕ → Stamps → Content → Option Notice
noticed (object.Program id) done ven stamps (content.Program name) = Some (program_notice done (record { id = id; name = name; stamps = stamps }))
noticed (object.Report n) done ven stamps (content.Report body) = Some (record {
  kind = kind.Report;
  operation = done;
  program = body.head.program;
  ven = ven;
  names = None;
  body = report_notice_text done (record { number = n; body = body; stamps = stamps });
})
noticed _ done ven stamps _ = None

-- the entries of a change of it
abbrev pub object_entries : List (ℕ × Sub) → OldObject → ObjectChange → List Entry
object_entries subs old c = entries_noticed subs (noticed old.key (operation_kind c.operation) c.ven c.stamps c.content)
