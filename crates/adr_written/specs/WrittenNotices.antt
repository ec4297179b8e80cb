-- Notifications as they are written: an object, and what was done to it.
use Rattle.std.specs.Prelude.{ℕ, List, [], ◌∷◌, codes, Option, Some}
use Rattle.serde_json.specs.Data.{Data, string}
use Rattle.serde_json.specs.Written.{compact_text}
use Rattle.adr_text.specs.Objects.{object_of}
use Rattle.adr_objects.specs.declared.shown.EventObject.{EventObject}
use Rattle.adr_objects.specs.declared.shown.ProgramObject.{ProgramObject}
use Rattle.adr_objects.specs.declared.report.ReportObject.{ReportObject}
use Rattle.adr_subscription.specs.declared.words.ObjectKind.{ObjectKind}
use Rattle.adr_subscription.specs.declared.words.ObjectKind.TheVariants.{Program, Event, Report}
use Rattle.adr_subscription.specs.declared.words.OperationKind.{OperationKind}
use Rattle.adr_subscription.specs.Words.{kind_word, operation_word}
use Rattle.adr_written.specs.Objects.{program_object_data, event_object_data}
use Rattle.adr_written.specs.WrittenReports.{report_object_data}

abbrev pub notice_fields : ObjectKind → OperationKind → Data → List (List ℕ × Option Data)
notice_fields kind operation about =
    (codes "object", Some about)
    ∷ (codes "objectType", Some (string (kind_word kind)))
    ∷ (codes "operation", Some (string (operation_word operation)))
    ∷ []

-- `object`, `objectType` with the word for its kind, and `operation` with the word for what was done to it
unfoldable pub notice_data : ObjectKind → OperationKind → Data → Data
notice_data kind operation about = object_of (notice_fields kind operation about)

-- what was done to a program, with the program as it is written, as compact JSON
unfoldable pub program_notice_text : OperationKind → ProgramObject → List ℕ
program_notice_text operation p = compact_text (notice_data Program operation (program_object_data p))

-- what was done to an event, with the event as a resource is shown it, as compact JSON
unfoldable pub event_notice_text : OperationKind → EventObject → List ℕ
event_notice_text operation e = compact_text (notice_data Event operation (event_object_data e))

-- what was done to a report, with the report as it is written, as compact JSON
unfoldable pub report_notice_text : OperationKind → ReportObject → List ℕ
report_notice_text operation r = compact_text (notice_data Report operation (report_object_data r))
