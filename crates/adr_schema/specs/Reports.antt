-- Reports as sites post them. All of a report has to have its shape, before its numbers are looked at.
use Rattle.std.specs.Prelude.{ℕ, ℤ, nat_le, List, [], ◌∷◌, length, codes, Option, Some, None, Result, Ok, Err, if◌then◌else◌}
use Rattle.serde_json.specs.Data.{Data}
use Rattle.adr_text.specs.Refusals.{◌>>=◌}
use Rattle.adr_text.specs.Faults.{as_refusal}
use Rattle.adr_text.specs.Fields.{whole_of, member_of, objects_in, required, optional, each, whole_from, id_in, name_in, i32_in}
use Rattle.adr_text.specs.declared.fault.Fault.{Fault}
use Rattle.adr_text.specs.declared.fault.Fault.TheVariants.{BadShape}
use Rattle.adr_text.specs.declared.number.Whole.{Whole}
use Rattle.adr_text.specs.declared.number.Whole.TheVariants.{In, Beyond, Fraction, NoNumber}
use Rattle.adr_text.specs.declared.refusal.Refusal.{Refusal}
use Rattle.adr_objects.specs.declared.report.UsageInterval.{UsageInterval}
use Rattle.adr_objects.specs.declared.site.ReportIn.{ReportIn}
use Rattle.adr_objects.specs.Limits.{most_intervals, setpoint_at}
use Rattle.adr_objects.specs.Intervals.{apart}
use Rattle.adr_objects.specs.Fields.{text_in}
use Rattle.adr_objects.specs.ReadBack.{as_bad_shape}
use Rattle.adr_schema.specs.declared.posted.PostedInterval.{PostedInterval}
use Rattle.adr_schema.specs.declared.posted.PostedReport.{PostedReport}
use Rattle.adr_schema.specs.Bytes.{bytes_as}
use Rattle.adr_schema.specs.Events.{one_of, only_value}

-- ---- the shape

-- a number, whole or not
abbrev pub number_as : Whole → Result Whole Fault
number_as (In z) = Ok (In z)
number_as Beyond = Ok Beyond
number_as Fraction = Ok Fraction
number_as NoNumber = Err BadShape

-- a number, whole or not, else the wrong shape
abbrev pub number_in : Data → Result Whole Fault
number_in d = number_as (whole_of d)

-- the usage that payloads say, whatever number it is
unfoldable pub usage_in : Data → Result (Option Whole) Fault
usage_in d = only_value (codes "USAGE") d >>= λ value. optional value number_in

-- an id in 32 bits, and payloads, which have to be there, with the usage that they say, where they say one
unfoldable pub posted_interval_in : Data → Result PostedInterval Fault
posted_interval_in d = do
  id ← required (member_of (codes "id") d) i32_in
  usage ← required (member_of (codes "payloads") d) usage_in
  Ok (record { id = id; usage = usage })

-- at most 1,000 intervals, no two of them with one id
unfoldable pub posted_intervals_in : Data → Result (List PostedInterval) Fault
posted_intervals_in d = do
  ds ← objects_in d
  if nat_le (length ds) most_intervals then each posted_interval_in ds >>= apart (λ i. i.id) else Err BadShape

-- the one resource that a report is of
abbrev pub resource_of_report : Data → Result Data Fault
resource_of_report d = required (member_of (codes "resources") d) objects_in >>= one_of

-- the shape of a report: ids, names and one resource, whose intervals have ids of their own, with at most one `USAGE`
-- each, which is one number, whatever number
unfoldable pub posted_report_in : Data → Result PostedReport Fault
posted_report_in d = do
  program ← required (member_of (codes "programID") d) id_in
  event ← required (member_of (codes "eventID") d) id_in
  client ← required (member_of (codes "clientName") d) name_in
  name ← optional (member_of (codes "reportName") d) (text_in 256)
  resource ← resource_of_report d
  resource_name ← required (member_of (codes "resourceName") resource) name_in
  intervals ← required (member_of (codes "intervals") resource) posted_intervals_in
  Ok (record { program = program; event = event; client = client; name = name; resource_name = resource_name; intervals = intervals })

-- ---- the numbers

-- a whole number of a magnitude of at most 10^12
abbrev pub usage_at : Option Whole → Result (Option ℤ) Fault
usage_at None = Ok None
usage_at (Some number) = whole_from number >>= setpoint_at >>= λ usage. Ok (Some usage)

abbrev pub usage_interval : PostedInterval → Result UsageInterval Fault
usage_interval posted = usage_at posted.usage >>= λ usage. Ok (record { id = posted.id; usage = usage })

-- each interval in turn, up to the first fault
abbrev pub usage_intervals : List PostedInterval → Result (List UsageInterval) Fault
usage_intervals [] = Ok []
usage_intervals (p ∷ ps) = do
  i ← usage_interval p
  is ← usage_intervals ps
  Ok (i ∷ is)

-- the report of that shape, where its numbers are whole and of a magnitude of at most 10^12
abbrev pub report_from : PostedReport → Result ReportIn Fault
report_from posted = do
  intervals ← usage_intervals posted.intervals
  Ok (record { program = posted.program; event = posted.event; client = posted.client; name = posted.name; resource_name = posted.resource_name; intervals = intervals })

-- ---- both

-- the report that the bytes are: whatever is at fault in its shape is 14 and goes before its numbers, which are 15
unfoldable pub report_of : List ℕ → Result ReportIn Refusal
report_of bytes = as_bad_shape (bytes_as posted_report_in bytes) >>= λ posted. as_refusal (report_from posted)
