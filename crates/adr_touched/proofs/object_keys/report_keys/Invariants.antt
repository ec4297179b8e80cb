use Rattle.std.proofs.Common.{◌≡◌, map}
use Rattle.adr_kept_view.specs.declared.object.ObjectKey.TheVariants as object
use Rattle.adr_touched.proofs.object_keys.report_keys.Given as goal

-- those of the numbers so far
abbrev pub invariant-numbers : goal.invariant-numbers
invariant-numbers l = l.keys ≡ map object.Report l.yielded
