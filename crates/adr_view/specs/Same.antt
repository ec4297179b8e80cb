-- Whether two contents are one.
use Rattle.std.specs.Prelude.{Bool, false, ◌&&◌, ◌==◌}
use Rattle.std.specs.Ordering.{int_eq}
use Rattle.std.specs.Str.{bytes_eq}
use Rattle.std.specs.Option.{option_eq}
use Rattle.std.specs.Cmp.Lexicographic.{pointwise}
use Rattle.adr_objects.specs.declared.interval.Period.{Period}
use Rattle.adr_objects.specs.declared.report.UsageInterval.{UsageInterval}
use Rattle.adr_objects.specs.declared.report.ReportHead.{ReportHead}
use Rattle.adr_objects.specs.declared.report.ReportBody.{ReportBody}
use Rattle.adr_objects.specs.declared.report.RollupInterval.{RollupInterval}
use Rattle.adr_objects.specs.declared.report.Rollup.{Rollup}
use Rattle.adr_objects.specs.declared.shown.ShownInterval.{ShownInterval}
use Rattle.adr_objects.specs.declared.shown.ShownEvent.{ShownEvent}
use Rattle.adr_view.specs.declared.view.Content.{Content}
use Rattle.adr_view.specs.declared.view.Content.TheVariants as content

-- ---- events

abbrev pub is_same_period : Period → Period → Bool
is_same_period a b = bytes_eq a.start b.start && option_eq bytes_eq a.duration b.duration && option_eq bytes_eq a.randomize_start b.randomize_start

-- of two intervals the ids, the periods and the parts are the same
abbrev pub is_same_interval : ShownInterval → ShownInterval → Bool
is_same_interval a b = int_eq a.id b.id && option_eq is_same_period a.period b.period && option_eq int_eq a.part b.part

-- of two events the programs, the names, the priorities and the periods are the same
abbrev pub is_same_head : ShownEvent → ShownEvent → Bool
is_same_head a b =
    bytes_eq a.program b.program && option_eq bytes_eq a.name b.name && option_eq (λ m n. m == n) a.priority b.priority && option_eq is_same_period a.period b.period

-- of two events the intervals, in their order, the names of the vens and those of the resources are the same
abbrev pub is_same_tail : ShownEvent → ShownEvent → Bool
is_same_tail a b = pointwise is_same_interval a.intervals b.intervals && bytes_eq a.ven_name b.ven_name && bytes_eq a.resource_name b.resource_name

-- two events as they are shown say the same, part by part
abbrev pub is_same_event : ShownEvent → ShownEvent → Bool
is_same_event a b = is_same_head a b && is_same_tail a b

-- ---- reports

-- of two reports the programs, the upstream events and the resources are the same
abbrev pub is_same_about : ReportHead → ReportHead → Bool
is_same_about a b = bytes_eq a.program b.program && bytes_eq a.event b.event && (a.resource == b.resource)

-- of two reports the names of the clients, their own names and those of the resources are the same
abbrev pub is_same_maker : ReportHead → ReportHead → Bool
is_same_maker a b = bytes_eq a.client b.client && option_eq bytes_eq a.name b.name && bytes_eq a.resource_name b.resource_name

-- of two intervals the ids and the usages are the same
abbrev pub is_same_usage : UsageInterval → UsageInterval → Bool
is_same_usage a b = int_eq a.id b.id && option_eq int_eq a.usage b.usage

-- two reports say the same, part by part
abbrev pub is_same_report : ReportBody → ReportBody → Bool
is_same_report a b = (is_same_about a.head b.head && is_same_maker a.head b.head) && pointwise is_same_usage a.intervals b.intervals

-- ---- roll-ups

-- of two intervals the ids, the sums and the names that are missing, in their order, are the same
abbrev pub is_same_sum : RollupInterval → RollupInterval → Bool
is_same_sum a b = int_eq a.id b.id && int_eq a.sum b.sum && pointwise bytes_eq a.missing b.missing

-- of two roll-ups the programs and the intervals, in their order, are the same
abbrev pub is_same_rollup : Rollup → Rollup → Bool
is_same_rollup a b = bytes_eq a.program b.program && pointwise is_same_sum a.intervals b.intervals

-- ---- contents

-- two contents are of one kind and say the same
abbrev pub is_same_content : Content → Content → Bool
is_same_content (content.Program a) (content.Program b) = bytes_eq a b
is_same_content (content.Event a) (content.Event b) = is_same_event a b
is_same_content (content.Report a) (content.Report b) = is_same_report a b
is_same_content (content.Rollup a) (content.Rollup b) = is_same_rollup a b
is_same_content _ _ = false
