-- What a change of what is shown tells.
use Rattle.std.specs.Prelude.{List, Option, Some, None, option_and_then}
use Rattle.adr_objects.specs.declared.shown.Stamps.{Stamps}
use Rattle.adr_objects.specs.declared.shown.ProgramObject.{ProgramObject}
use Rattle.adr_objects.specs.declared.report.ReportObject.{ReportObject}
use Rattle.adr_subscription.specs.declared.words.ObjectKind.TheVariants as kind
use Rattle.adr_subscription.specs.declared.words.OperationKind.{OperationKind}
use Rattle.adr_subscription.specs.declared.words.OperationKind.TheVariants as told
use Rattle.adr_state.specs.declared.base.Base.{Base}
use Rattle.adr_state.specs.declared.keys.ViewKey.{ViewKey}
use Rattle.adr_view.specs.declared.view.Content.{Content}
use Rattle.adr_view.specs.declared.changes.Operation.{Operation}
use Rattle.adr_view.specs.declared.changes.Operation.TheVariants as operation
use Rattle.adr_queries.specs.declared.answer.Object.{Object}
use Rattle.adr_queries.specs.declared.answer.Object.TheVariants as object
use Rattle.adr_queries.specs.Shown.{owner_of, object_at}
use Rattle.adr_written.specs.WrittenNotices.{program_notice_text, report_notice_text}
use Rattle.adr_event_text.specs.declared.kept_event.KeptEvent.{KeptEvent}
use Rattle.adr_event_text.specs.Kept.{kept_notice_text}
use Rattle.adr_notices.specs.declared.notice.Notice.{Notice}

-- what happened at a key, as it is told: POST, PUT or DELETE for what appeared, differs or went
abbrev pub operation_kind : Operation → OperationKind
operation_kind operation.Post = told.Post
operation_kind operation.Put = told.Put
operation_kind operation.Delete = told.Delete

-- what is told of a program, which is of no ven
abbrev pub program_notice : OperationKind → ProgramObject → Notice
program_notice done p = record {
  kind = kind.Program;
  operation = done;
  program = p.id;
  ven = None;
  names = None;
  body = program_notice_text done p;
}

-- what is told of what a resource is shown of an event, which is of the ven that owns the resource
abbrev pub event_notice : Base → OperationKind → KeptEvent → Notice
event_notice base done e = record {
  kind = kind.Event;
  operation = done;
  program = e.program;
  ven = owner_of base e.resource;
  names = Some (record { ven_name = e.ven_name; resource_name = e.resource_name });
  body = kept_notice_text done e;
}

-- what is told of a report, which is of the ven that owns the resource that it is on
abbrev pub report_notice : Base → OperationKind → ReportObject → Notice
report_notice base done r = record {
  kind = kind.Report;
  operation = done;
  program = r.body.head.program;
  ven = owner_of base r.body.head.resource;
  names = None;
  body = report_notice_text done r;
}

-- what a change of an object tells, which is a program, an event as it is shown or a report; nothing of another
abbrev pub notice_about : Base → OperationKind → Object → Option Notice
notice_about base done (object.Program p) = Some (program_notice done p)
notice_about base done (object.Event e) = Some (event_notice base done e)
notice_about base done (object.Report r) = Some (report_notice base done r)
notice_about base done _ = None

-- what a change tells of what stands at a key, with its stamps: nothing of a roll-up, and nothing where it has no stamps
abbrev pub notice_of : Base → List (ViewKey × Stamps) → Operation → ViewKey × Content → Option Notice
notice_of base stamps operation r = option_and_then (notice_about base (operation_kind operation)) (object_at stamps r)
