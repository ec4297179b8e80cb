use Rattle.std.proofs.Common.{◌≡◌, map, drop, take}
use Rattle.adr_objects.specs.declared.report.UsageInterval.{UsageInterval}
use Rattle.adr_schema.specs.declared.posted.PostedInterval.{PostedInterval}
use Rattle.adr_schema.specs.Reports.{usage_intervals}
use Rattle.adr_text.proofs.Each.{with_front}
use Rattle.adr_schema.proofs.read_reports.usage_intervals.Given as goal

-- the intervals so far and those that are left are all of them, and keep their ids
abbrev pub invariant-loop-p : goal.invariant-loop-p
invariant-loop-p l = record {
  ids : map (λ (i : UsageInterval). i.id) l.intervals.items ≡ map (λ (p : PostedInterval). p.id) (take l.p-index l.posted);
  so_far : with_front l.intervals.items (usage_intervals (drop l.p-index l.posted)) ≡ usage_intervals l.posted;
}
